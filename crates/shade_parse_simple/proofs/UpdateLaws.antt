-- Updates, part by part: what a `_` drops, a call, and a left side with what changes it.
use Rattle.std.proofs.Common.{◌≡◌, refl, sym, ap, ◌∙◌, subst, ℕ, ◌+◌, ◌<◌, ◌≤◌, ◌⊎◌, inl, inr, false, None, Some, List, [], ◌∷◌, ◌++◌, length, drop, arith, slice_get}
use Rattle.shade_base.specs.declared.place.Place.{Place}
use Rattle.shade_ast.specs.declared.lexeme.Keyword.TheVariants as word
use Rattle.shade_ast.specs.declared.lexeme.Sign.TheVariants as sign
use Rattle.shade_ast.specs.Lexemes.{Lexeme, Word, Key, Number, Mark}
use Rattle.shade_ast.specs.Shapes.{ExprShape, UpdateShape, assign, compound, phony, increment, decrement, call_alone, named, call, no_exprs}
use Rattle.shade_ast.specs.Expressions.{TypeName, plain_type, template_type, no_expr, Expression, Access, by_name, by_index, Call, calls, LeftSide, left_deref, left_address_of, left_singular, LeftSingular, left_name, left_parens, left_accessed}
use Rattle.shade_ast.specs.Statements.{UpdateOf, assigned, compounded, dropped, incremented, decremented, called_alone}
use Rattle.shade_ast.specs.Reads.{Near, Reads, Fails, rank, rank_of}
use Rattle.shade_ast.proofs.Stages.{Stage, Closes, near_get, near_append, one_token, begin, change, phrase_or, phrase_or_fails, closes_end, closes_after}
use Rattle.shade_ast.specs.Chains.{After, Ends, Placed}
use Rattle.shade_ast.proofs.Placed.{some_place}
use Rattle.shade_ast.proofs.Firsts.{First, BeginsExpr, BeginsLeft, IsName, call_first, expression_first, left_side_first, first_is}
use Rattle.shade_ast.proofs.Manys.{first_read}
use Rattle.shade_cursor.specs.Operators.{StandsWord}
use Rattle.shade_parse_simple.specs.Updates.{assigns_of, Assigning, plainly, by_operator, BeginsCall, NoOther}
use Rattle.shade_parse_simple.proofs.Openings.{expression_closes}
use Rattle.shade_parse_simple.proofs.Steps.{Stops, Avoids, fails_later, end_stops, token_stops, token_avoids, not_here, next, next_fails, token, token_or, no_token, right, ended}
use Rattle.shade_parse_simple.proofs.AssigningLaws.{two, Signed, assigning_there, assigning_closes, sign_high}

-- What stands there begins with the tokens read, and what goes on is near to the tokens behind the first.
pub read_near : (tokens us ys : List Lexeme) (at to : ℕ) (t : Lexeme) → at < to → to ≤ length tokens → drop at tokens ≡ us ++ drop to tokens → slice_get tokens at ≡ Some t → Near ys (drop to tokens) → (zs : List Lexeme) × (us ++ ys ≡ t ∷ zs) × Near zs (drop (at + 1) tokens)
read_near tokens us ys at to t lt high spelled is near =
    let f : (vs : List Lexeme) × (us ≡ t ∷ vs) = first_read tokens us at to t lt high spelled is in
    let e : t ∷ drop (at + 1) tokens ≡ t ∷ (f.0 ++ drop to tokens) = sym (one_token tokens at t is) ∙ spelled ∙ ap (λ x. x ++ drop to tokens) f.1 in
    let rest : drop (at + 1) tokens ≡ f.0 ++ drop to tokens = cc in
    (f.0 ++ ys, ap (λ x. x ++ ys) f.1, subst (Near (f.0 ++ ys)) (sym rest) (near_append f.0 ys (drop to tokens) near))

-- what was read and what goes on are near to the tokens from its first one on
pub near_whole : (tokens us ys : List Lexeme) (at to : ℕ) → drop at tokens ≡ us ++ drop to tokens → Near ys (drop to tokens) → Near (us ++ ys) (drop at tokens)
near_whole tokens us ys at to spelled near = subst (Near (us ++ ys)) (sym spelled) (near_append us ys (drop to tokens) near)

-- the token that a list begins with stands there
pub first_stands : (tokens ys zs : List Lexeme) (at : ℕ) (t : Lexeme) → ys ≡ t ∷ zs → Near ys (drop at tokens) → slice_get tokens at ≡ Some t
first_stands tokens ys zs at t e near = near_get tokens at t zs (subst (λ x. Near x (drop at tokens)) e near)

abbrev pub updated : ExprShape → Signed → ExprShape → UpdateShape
updated e (None, p) f = assign e p f
updated e (Some o, p) f = compound e o p f

-- what changes a left side
abbrev Up : ExprShape → UpdateShape → List Lexeme → List Lexeme → Type 0
Up e = After (Placed (Mark sign.PlusPlus)) (λ p. Ends (increment e p))

abbrev Down : ExprShape → UpdateShape → List Lexeme → List Lexeme → Type 0
Down e = After (Placed (Mark sign.MinusMinus)) (λ p. Ends (decrement e p))

abbrev Value : ExprShape → Signed → UpdateShape → List Lexeme → List Lexeme → Type 0
Value e a = After Expression (λ f. Ends (updated e a f))

abbrev Sets : ExprShape → UpdateShape → List Lexeme → List Lexeme → Type 0
Sets e = After Assigning (Value e)

abbrev DownSets : ExprShape → UpdateShape → List Lexeme → List Lexeme → Type 0
DownSets e r ys w = Down e r ys w ⊎ Sets e r ys w

abbrev Change : ExprShape → UpdateShape → List Lexeme → List Lexeme → Type 0
Change e r ys w = Up e r ys w ⊎ DownSets e r ys w

abbrev Changes : UpdateShape → List Lexeme → List Lexeme → Type 0
Changes = After LeftSide Change

-- a value that a `_` drops
abbrev DropValue : Place → Place → UpdateShape → List Lexeme → List Lexeme → Type 0
DropValue p q = After Expression (λ f. Ends (phony p q f))

abbrev DropRest : Place → UpdateShape → List Lexeme → List Lexeme → Type 0
DropRest p = After (Placed (Mark sign.Equal)) (DropValue p)

abbrev Drops : UpdateShape → List Lexeme → List Lexeme → Type 0
Drops = After (Placed (Mark sign.Underscore)) DropRest

abbrev Alone : UpdateShape → List Lexeme → List Lexeme → Type 0
Alone = After Call (λ e. Ends (call_alone e))

abbrev DropsAlone : UpdateShape → List Lexeme → List Lexeme → Type 0
DropsAlone r ys w = Drops r ys w ⊎ Alone r ys w

abbrev DropsChanges : UpdateShape → List Lexeme → List Lexeme → Type 0
DropsChanges r ys w = Drops r ys w ⊎ Changes r ys w

abbrev AloneChanges : UpdateShape → List Lexeme → List Lexeme → Type 0
AloneChanges r ys w = Alone r ys w ⊎ Changes r ys w

abbrev Ways : UpdateShape → List Lexeme → List Lexeme → Type 0
Ways r ys w = Drops r ys w ⊎ AloneChanges r ys w

update_there : (r : UpdateShape) (ts w : List Lexeme) → UpdateOf r ts w → Ways r ts w
update_there r ts w (assigned {e = e} {f = f} p {us = us} g h) = inr
    (inr
    (record {
      part = e;
      others = Mark sign.Equal p ∷ us;
      phrase = g;
      rest = inr
          (inr (record { part = (None, p); others = us; phrase = plainly p; rest = record { part = f; others = w; phrase = h; rest = record { same = refl; left = refl } } }));
    }))
update_there r ts w (compounded {e = e} {f = f} {o = o} p {us = us} {vs = vs} g a h) = inr
    (inr
    (record {
      part = e;
      others = us;
      phrase = g;
      rest = inr
          (inr (record { part = (Some o, p); others = vs; phrase = by_operator a; rest = record { part = f; others = w; phrase = h; rest = record { same = refl; left = refl } } }));
    }))
update_there r ts w (dropped {f = f} p q {ts = us} h) = inl
    (record {
      part = p;
      others = Mark sign.Equal q ∷ us;
      phrase = record { is = refl };
      rest = record
          { part = q; others = us; phrase = record { is = refl }; rest = record { part = f; others = w; phrase = h; rest = record { same = refl; left = refl } } };
    })
update_there r ts w (incremented {e = e} p g) = inr (inr (record { part = e; others = Mark sign.PlusPlus p ∷ w; phrase = g; rest = inl (record { part = p; others = w; phrase = record { is = refl }; rest = record { same = refl; left = refl } }) }))
update_there r ts w (decremented {e = e} p g) = inr (inr (record { part = e; others = Mark sign.MinusMinus p ∷ w; phrase = g; rest = inr (inl (record { part = p; others = w; phrase = record { is = refl }; rest = record { same = refl; left = refl } })) }))
update_there r ts w (called_alone {e = e} g) = inr (inl (record { part = e; others = w; phrase = g; rest = record { same = refl; left = refl } }))

sets_back : (e f : ExprShape) (a : Signed) (ts us vs w : List Lexeme) → LeftSide e ts us → Assigning a us vs → Expression f vs w → UpdateOf (updated e a f) ts w
sets_back e f a ts us vs w g (plainly p) h = assigned p g h
sets_back e f a ts us vs w g (by_operator {p = p} k) h = compounded p g k h

change_back : (e : ExprShape) (r : UpdateShape) (ts us w : List Lexeme) → LeftSide e ts us → Change e r us w → UpdateOf r ts w
change_back e r ts us w g c =
    elim c [
      | inl a ↦ subst (λ x. UpdateOf x ts w) (sym a.rest.same) (incremented a.part (subst (λ l. LeftSide e ts l) (a.phrase.is ∙ ap (λ l. Mark sign.PlusPlus a.part ∷ l) a.rest.left) g))
      | inr d ↦ (elim d [
        | inl a ↦ subst (λ x. UpdateOf x ts w) (sym a.rest.same) (decremented a.part (subst (λ l. LeftSide e ts l) (a.phrase.is ∙ ap (λ l. Mark sign.MinusMinus a.part ∷ l) a.rest.left) g))
        | inr a ↦
            (let b = a.rest in
            subst (λ x. UpdateOf x ts w) (sym b.rest.same) (subst (λ l. UpdateOf (updated e a.part b.part) ts l) b.rest.left (sets_back e b.part a.part ts us a.others b.others g a.phrase b.phrase)))
      ])
    ]

drops_back : (r : UpdateShape) (ts w : List Lexeme) → Drops r ts w → UpdateOf r ts w
drops_back r ts w a =
    let b = a.rest in
    let c = b.rest in
    subst (λ x. UpdateOf x ts w) (sym c.rest.same)
    (subst (λ l. UpdateOf (phony a.part b.part c.part) ts l) c.rest.left
    (subst (λ l. UpdateOf (phony a.part b.part c.part) l c.others) (sym (a.phrase.is ∙ ap (λ l. Mark sign.Underscore a.part ∷ l) b.phrase.is)) (dropped a.part b.part c.phrase)))

alone_back : (r : UpdateShape) (ts w : List Lexeme) → Alone r ts w → UpdateOf r ts w
alone_back r ts w a = subst (λ x. UpdateOf x ts w) (sym a.rest.same) (subst (λ l. UpdateOf (call_alone a.part) ts l) a.rest.left (called_alone a.phrase))

changes_back : (r : UpdateShape) (ts w : List Lexeme) → Changes r ts w → UpdateOf r ts w
changes_back r ts w a = change_back a.part r ts a.others w a.phrase a.rest

-- how they end
pub call_closes : Closes Call
call_closes = record { tree = call some_place (named some_place []) no_exprs false; more = Word [] some_place ∷ (Mark sign.Open some_place ∷ (Mark sign.Close some_place ∷ [])); closed = λ w. calls some_place some_place (plain_type some_place []) no_expr }

value_closes : (e : ExprShape) (a : Signed) → Closes (Value e a)
value_closes e a = closes_after Expression (λ f. Ends (updated e a f)) expression_closes (λ f. closes_end (updated e a f))

sets_closes : (e : ExprShape) → Closes (Sets e)
sets_closes e = closes_after Assigning (Value e) assigning_closes (value_closes e)

change_closes : (e : ExprShape) → Closes (Change e)
change_closes e = let c = sets_closes e in record { tree = c.tree; more = c.more; closed = λ w. inr (inr (c.closed w)) }

drop_value_closes : (p q : Place) → Closes (DropValue p q)
drop_value_closes p q = closes_after Expression (λ f. Ends (phony p q f)) expression_closes (λ f. closes_end (phony p q f))

-- An expression begins with a token that does not go on with a name.
expr_high : (t : Lexeme) → BeginsExpr t → 0 < rank_of t
expr_high (Word text p) h = omega arith
expr_high (Number value suffix p) h = omega arith
expr_high (Key word.True p) h = omega arith
expr_high (Key word.False p) h = omega arith
expr_high (Mark sign.Open p) h = omega arith
expr_high (Mark sign.Minus p) h = omega arith
expr_high (Mark sign.Bang p) h = omega arith
expr_high (Mark sign.Tilde p) h = omega arith
expr_high (Mark sign.Star p) h = omega arith
expr_high (Mark sign.Ampersand p) h = omega arith
expr_high _ h = absurd h

value_stops : (e : ExprShape) (a : Signed) → Stops 7 0 (Value e a)
value_stops e a r zs w stop c = let f : First BeginsExpr zs = expression_first c.part zs c.others c.phrase in subst (λ x. 0 < rank x) (sym f.split) (expr_high f.first f.fits)

-- A change begins with a token that does not go on with a left side.
sets_stops : (e : ExprShape) → Stops 7 2 (Sets e)
sets_stops e r zs w stop a =
    elim (assigning_there a.part zs a.others a.phrase) [
      | inl s ↦ subst (λ x. 2 < rank x) (sym s.phrase.is) (omega arith)
      | inr o ↦ subst (λ x. 2 < rank x) (sym o.split) (sign_high o.token a.part o.tells)
    ]

change_stops : (e : ExprShape) → Stops 7 2 (Change e)
change_stops e r zs w stop c =
    elim c [
      | inl a ↦ token_stops (Mark sign.PlusPlus) 7 2 (λ p. omega arith) r zs w stop a
      | inr d ↦ (elim d [
        | inl a ↦ token_stops (Mark sign.MinusMinus) 7 2 (λ p. omega arith) r zs w stop a
        | inr a ↦ sets_stops e r zs w stop a
      ])
    ]

-- A set begins with no token that is neither a sign nor the first of `>>=`.
sets_avoids : (e : ExprShape) (t : Lexeme) → assigns_of t ≡ None → ((p : Place) → t ≡ Mark sign.Greater p → ⊥) → Avoids 7 t (Sets e)
sets_avoids e t none other r zs w stop a =
    elim (assigning_there a.part (t ∷ zs) a.others a.phrase) [
      | inl s ↦ other s.part (let k : t ∷ zs ≡ Mark sign.Greater s.part ∷ s.others = s.phrase.is in cc)
      | inr o ↦
          (let k : t ∷ zs ≡ o.token ∷ a.others = o.split in
          let same : o.token ≡ t = cc in
          let bad : Some a.part ≡ None = sym o.tells ∙ ap assigns_of same ∙ none in
          cc)
    ]

down_sets_avoid : (e : ExprShape) (p : Place) → Avoids 7 (Mark sign.PlusPlus p) (DownSets e)
down_sets_avoid e p r zs w stop c =
    elim c [
      | inl a ↦ token_avoids (Mark sign.MinusMinus) 7 (Mark sign.PlusPlus p) (λ q k. cc) r zs w stop a
      | inr a ↦ sets_avoids e (Mark sign.PlusPlus p) refl (λ q k. cc) r zs w stop a
    ]

-- The second token of a call, and what stands behind a left side of one name.
abbrev IsOpening : Lexeme → Type 0
IsOpening t = (p : Place) × ((t ≡ Mark sign.Open p) ⊎ (t ≡ Mark sign.OpenTemplate p))

record CallHead (ts : List Lexeme) : Type 0 where
  pub text : List ℕ
  pub place : Place
  pub second : Lexeme
  pub others : List Lexeme
  pub split : ts ≡ Word text place ∷ (second ∷ others)
  pub opens : IsOpening second

type_head : (e : ExprShape) (ts us vs : List Lexeme) (p : Place) → TypeName e ts us → us ≡ Mark sign.Open p ∷ vs → CallHead ts
type_head e ts us vs p (plain_type q text) k = record { text = text; place = q; second = Mark sign.Open p; others = vs; split = ap (λ l. Word text q ∷ l) k; opens = (p, inl refl) }
type_head e ts us vs p (template_type q r s text {ts = xs} g) k = record { text = text; place = q; second = Mark sign.OpenTemplate r; others = xs; split = refl; opens = (r, inr refl) }

call_head : (e : ExprShape) (ts w : List Lexeme) → Call e ts w → CallHead ts
call_head e ts w (calls {e = f} p q {us = us} g h) = type_head f ts (Mark sign.Open p ∷ us) us p g refl

abbrev NoOpening : Lexeme → Type 0
NoOpening t = IsOpening t → ⊥

access_no_opening : (e f : ExprShape) (ts w : List Lexeme) → Access e f ts w → First NoOpening ts
access_no_opening e f ts w (by_name p n) = record { first = Mark sign.Dot p; others = Word n.text n.place ∷ w; split = refl; fits = λ o. elim o.1 [ inl k ↦ cc | inr k ↦ cc ] }
access_no_opening e f ts w (by_index p q {ts = us} g) = record { first = Mark sign.OpenBracket p; others = us; split = refl; fits = λ o. elim o.1 [ inl k ↦ cc | inr k ↦ cc ] }

change_no_opening : (e : ExprShape) (r : UpdateShape) (ts w : List Lexeme) → Change e r ts w → First NoOpening ts
change_no_opening e r ts w c =
    elim c [
      | inl a ↦ record { first = Mark sign.PlusPlus a.part; others = a.others; split = a.phrase.is; fits = λ o. elim o.1 [ inl k ↦ cc | inr k ↦ cc ] }
      | inr d ↦ (elim d [
        | inl a ↦ record { first = Mark sign.MinusMinus a.part; others = a.others; split = a.phrase.is; fits = λ o. elim o.1 [ inl k ↦ cc | inr k ↦ cc ] }
        | inr a ↦ (elim (assigning_there a.part ts a.others a.phrase) [
          | inl s ↦ record { first = Mark sign.Greater s.part; others = s.others; split = s.phrase.is; fits = λ o. elim o.1 [ inl k ↦ cc | inr k ↦ cc ] }
          | inr s ↦ record { first = s.token; others = a.others; split = s.split; fits = λ o. elim o.1 [ inl k ↦ (let bad : Some a.part ≡ None = sym s.tells ∙ ap assigns_of k in cc) | inr k ↦ (let bad : Some a.part ≡ None = sym s.tells ∙ ap assigns_of k in cc) ] }
        ])
      ])
    ]

left_rest : (e : ExprShape) (ts us zs : List Lexeme) (text : List ℕ) (p : Place) → LeftSingular e ts us → ts ≡ Word text p ∷ zs → (us ≡ zs) ⊎ First NoOpening zs
left_rest e ts us zs text p (left_name q t) k = inl (let same : us ≡ zs = cc in same)
left_rest e ts us zs text p (left_parens {e = f} q s {ts = xs} g) k = absurd (let bad : Mark sign.Open q ≡ Word text p = cc in cc)
left_rest e ts us zs text p (left_accessed {e = f} {us = vs} g a) k =
    elim (left_rest f ts vs zs text p g k) [
      | inl same ↦ inr (subst (First NoOpening) same (access_no_opening f e vs us a))
      | inr first ↦ inr first
    ]

left_behind : (e : ExprShape) (ts us zs : List Lexeme) (text : List ℕ) (p : Place) → LeftSide e ts us → ts ≡ Word text p ∷ zs → First NoOpening us → First NoOpening zs
left_behind e ts us zs text p (left_deref q {ts = xs} g) k f = absurd (let bad : Mark sign.Star q ≡ Word text p = cc in cc)
left_behind e ts us zs text p (left_address_of q {ts = xs} g) k f = absurd (let bad : Mark sign.Ampersand q ≡ Word text p = cc in cc)
left_behind e ts us zs text p (left_singular g) k f =
    elim (left_rest e ts us zs text p g k) [
      | inl same ↦ subst (First NoOpening) same f
      | inr first ↦ first
    ]

-- where a `_` stands, nothing else begins
others_avoid : (p : Place) → Avoids 7 (Mark sign.Underscore p) AloneChanges
others_avoid p r zs w stop c =
    elim c [
      | inl a ↦ absurd (first_is IsName (Mark sign.Underscore p) zs (call_first a.part (Mark sign.Underscore p ∷ zs) a.others a.phrase))
      | inr a ↦ absurd (first_is BeginsLeft (Mark sign.Underscore p) zs (left_side_first a.part (Mark sign.Underscore p ∷ zs) a.others a.phrase))
    ]

-- where a call begins, nothing else does
module _ (tokens : List Lexeme) (from : ℕ) (c : BeginsCall tokens from) where
  opening_stands : (u : Lexeme) → slice_get tokens (from + 1) ≡ Some u → IsOpening u
  opening_stands u is =
      elim c.1 [
        | inl o ↦ (o.0, inl (let both : Some u ≡ Some (Mark sign.Open o.0) = sym is ∙ o.1 in cc))
        | inr o ↦ (o.0, inr (let both : Some u ≡ Some (Mark sign.OpenTemplate o.0) = sym is ∙ o.1 in cc))
      ]

  alone_only : (to : ℕ) → from < to → to ≤ length tokens → (us : List Lexeme) → drop from tokens ≡ us ++ drop to tokens → (r : UpdateShape) (ys w : List Lexeme) → 7 < rank w → DropsChanges r (us ++ ys) w → Near ys (drop to tokens) → ⊥
  alone_only to lt high us spelled r ys w stop d near =
      let text : List ℕ = c.0.0 in
      let p : Place = c.0.1 in
      let n = read_near tokens us ys from to (Word text p) lt high spelled c.0.2 near in
      elim d [
        | inl a ↦ (let e : Word text p ∷ n.0 ≡ Mark sign.Underscore a.part ∷ a.others = sym n.1 ∙ a.phrase.is in let bad : Word text p ≡ Mark sign.Underscore a.part = cc in cc)
        | inr a ↦
            (let f : First NoOpening n.0 = left_behind a.part (us ++ ys) a.others n.0 text p a.phrase n.1 (change_no_opening a.part r a.others w a.rest) in
            f.fits (opening_stands f.first (first_stands tokens n.0 f.others (from + 1) f.first f.split n.2)))
      ]

module _ {tokens : List Lexeme} {from : ℕ} (h : from ≤ length tokens) where
  -- from a `_` on
  module _ (p : Place) (is : slice_get tokens from ≡ Some (Mark sign.Underscore p)) where
    drops_begin : Stage UpdateOf 7 tokens from (from + 1) (DropRest p)
    drops_begin =
        token_or (λ p. refl) p is (others_avoid p)
        (change UpdateOf 7 tokens from from UpdateOf Ways (λ r ys w stop near g. update_there r ys w g)
        (λ r ys w c.
        elim c [
          | inl a ↦ drops_back r ys w a
          | inr d ↦ (elim d [ inl a ↦ alone_back r ys w a | inr a ↦ changes_back r ys w a ])
        ])
        (begin UpdateOf 7 tokens from h))

    pub drops_stuck : ((q : Place) → slice_get tokens (from + 1) ≡ Some (Mark sign.Equal q) → ⊥) → Fails UpdateOf 7 tokens from (from + 1)
    drops_stuck never = no_token (drop_value_closes p) never drops_begin

    module _ (q : Place) (equal : slice_get tokens (from + 1) ≡ Some (Mark sign.Equal q)) where
      drops_equal : Stage UpdateOf 7 tokens from (from + 2) (DropValue p q)
      drops_equal = subst (λ i. Stage UpdateOf 7 tokens from i (DropValue p q)) (two from) (token (λ p. refl) q equal drops_begin)

      pub drops_fails : {to : ℕ} → Fails Expression 7 tokens (from + 2) to → Fails UpdateOf 7 tokens from to
      drops_fails f = next_fails (λ f. end_stops 7 7 (omega arith)) (λ f. closes_end (phony p q f)) drops_equal f

      pub drops_reads : {f : ExprShape} {to : ℕ} → Reads Expression 7 tokens (from + 2) f to → Reads UpdateOf 7 tokens from (phony p q f) to
      drops_reads x = ended (next (λ f. end_stops 7 7 (omega arith)) drops_equal x)

  -- a call
  module _ (c : BeginsCall tokens from) where
    alone_begin : Stage UpdateOf 7 tokens from from (λ r ys w. Alone r ys w ⊎ DropsChanges r ys w)
    alone_begin =
        change UpdateOf 7 tokens from from UpdateOf (λ r ys w. Alone r ys w ⊎ DropsChanges r ys w)
        (λ r ys w stop near g.
        elim (update_there r ys w g) [
          | inl a ↦ inr (inl a)
          | inr d ↦ (elim d [ inl a ↦ inl a | inr a ↦ inr (inr a) ])
        ])
        (λ r ys w d.
        elim d [
          | inl a ↦ alone_back r ys w a
          | inr e ↦ (elim e [ inl a ↦ drops_back r ys w a | inr a ↦ changes_back r ys w a ])
        ])
        (begin UpdateOf 7 tokens from h)

    pub alone_fails : {to : ℕ} → Fails Call 1 tokens from to → Fails UpdateOf 7 tokens from to
    alone_fails {to = to} f =
        let lt : from < to = fails_later (call (c.0.1) (named c.0.1 c.0.0) no_exprs false) (Mark sign.Open some_place ∷ (Mark sign.Close some_place ∷ [])) (omega arith) c.0.2 (calls some_place some_place (plain_type c.0.1 c.0.0) no_expr) f in
        phrase_or_fails UpdateOf 7 tokens from Call 1 (λ e. Ends (call_alone e)) (λ e. end_stops 7 1 (omega arith)) from to DropsChanges alone_begin (λ e. closes_end (call_alone e)) f (alone_only tokens from c to lt f.high f.us f.spelled)

    pub alone_reads : {e : ExprShape} {to : ℕ} → from < to → Reads Call 1 tokens from e to → Reads UpdateOf 7 tokens from (call_alone e) to
    alone_reads {e = e} {to = to} lt x = ended (phrase_or UpdateOf 7 tokens from Call 1 (λ e. Ends (call_alone e)) (λ e. end_stops 7 1 (omega arith)) from to DropsChanges alone_begin e x (alone_only tokens from c to lt x.high x.us x.spelled))

  -- a left side and what changes it
  module _ (o : NoOther tokens from) where
    changes_begin : Stage UpdateOf 7 tokens from from (λ r ys w. Changes r ys w ⊎ DropsAlone r ys w)
    changes_begin =
        change UpdateOf 7 tokens from from UpdateOf (λ r ys w. Changes r ys w ⊎ DropsAlone r ys w)
        (λ r ys w stop near g.
        elim (update_there r ys w g) [
          | inl a ↦ inr (inl a)
          | inr d ↦ (elim d [ inl a ↦ inr (inr a) | inr a ↦ inl a ])
        ])
        (λ r ys w d.
        elim d [
          | inl a ↦ changes_back r ys w a
          | inr e ↦ (elim e [ inl a ↦ drops_back r ys w a | inr a ↦ alone_back r ys w a ])
        ])
        (begin UpdateOf 7 tokens from h)

    call_stands : (second : Lexeme) → IsOpening second → slice_get tokens (from + 1) ≡ Some second → StandsWord tokens from → BeginsCall tokens from
    call_stands second opens is word =
        elim opens.1 [
          | inl k ↦ (word, inl (opens.0, is ∙ ap Some k))
          | inr k ↦ (word, inr (opens.0, is ∙ ap Some k))
        ]

    changes_only : (to : ℕ) → (StandsWord tokens from → from < to) → to ≤ length tokens → (us : List Lexeme) → drop from tokens ≡ us ++ drop to tokens → (r : UpdateShape) (ys w : List Lexeme) → 7 < rank w → DropsAlone r (us ++ ys) w → Near ys (drop to tokens) → ⊥
    changes_only to later high us spelled r ys w stop d near =
        let whole : Near (us ++ ys) (drop from tokens) = near_whole tokens us ys from to spelled near in
        elim d [
          | inl a ↦ o.no_underscore (a.part, first_stands tokens (us ++ ys) a.others from (Mark sign.Underscore a.part) a.phrase.is whole)
          | inr a ↦
              (let k : CallHead (us ++ ys) = call_head a.part (us ++ ys) a.others a.phrase in
              let t : Lexeme = Word k.text k.place in
              let is : slice_get tokens from ≡ Some (Word k.text k.place) = first_stands tokens (us ++ ys) (k.second ∷ k.others) from t k.split whole in
              let n = read_near tokens us ys from to t (later (k.text, k.place, is)) high spelled is near in
              let both : t ∷ n.0 ≡ t ∷ (k.second ∷ k.others) = sym n.1 ∙ k.split in
              let rest : n.0 ≡ k.second ∷ k.others = cc in
              o.no_call (call_stands k.second k.opens (first_stands tokens n.0 k.others (from + 1) k.second rest n.2) (k.text, k.place, is)))
        ]

    pub left_fails : {to : ℕ} → Fails LeftSide 2 tokens from to → Fails UpdateOf 7 tokens from to
    left_fails {to = to} f =
        phrase_or_fails UpdateOf 7 tokens from LeftSide 2 Change change_stops from to DropsAlone changes_begin change_closes f
        (changes_only to (λ s. fails_later (named s.1 s.0) [] (omega arith) s.2 (left_singular (left_name s.1 s.0)) f) f.high f.us f.spelled)

    module _ {e : ExprShape} {at : ℕ} (x : Reads LeftSide 2 tokens from e at) (lt : from < at) where
      left_read : Stage UpdateOf 7 tokens from at (Change e)
      left_read = phrase_or UpdateOf 7 tokens from LeftSide 2 Change change_stops from at DropsAlone changes_begin e x (changes_only at (λ s. lt) x.high x.us x.spelled)

      pub up_reads : (p : Place) → slice_get tokens at ≡ Some (Mark sign.PlusPlus p) → Reads UpdateOf 7 tokens from (increment e p) (at + 1)
      up_reads p is = ended (token_or (λ p. refl) p is (down_sets_avoid e p) left_read)

      module _ (no_up : (p : Place) → slice_get tokens at ≡ Some (Mark sign.PlusPlus p) → ⊥) where
        left_down : Stage UpdateOf 7 tokens from at (DownSets e)
        left_down = right (not_here 7 tokens at (Mark sign.PlusPlus) (λ p. Ends (increment e p)) no_up) left_read

        pub down_reads : (p : Place) → slice_get tokens at ≡ Some (Mark sign.MinusMinus p) → Reads UpdateOf 7 tokens from (decrement e p) (at + 1)
        down_reads p is = ended (token_or (λ p. refl) p is (sets_avoids e (Mark sign.MinusMinus p) refl (λ q k. cc)) left_down)

        module _ (no_down : (p : Place) → slice_get tokens at ≡ Some (Mark sign.MinusMinus p) → ⊥) where
          left_sets : Stage UpdateOf 7 tokens from at (Sets e)
          left_sets = right (not_here 7 tokens at (Mark sign.MinusMinus) (λ p. Ends (decrement e p)) no_down) left_down

          pub sign_fails : {to : ℕ} → Fails Assigning 0 tokens at to → Fails UpdateOf 7 tokens from to
          sign_fails f = next_fails (value_stops e) (value_closes e) left_sets f

          module _ {a : Signed} {behind : ℕ} (y : Reads Assigning 0 tokens at a behind) where
            left_value : Stage UpdateOf 7 tokens from behind (Value e a)
            left_value = next (value_stops e) left_sets y

            pub value_fails : {to : ℕ} → Fails Expression 7 tokens behind to → Fails UpdateOf 7 tokens from to
            value_fails f = next_fails (λ f. end_stops 7 7 (omega arith)) (λ f. closes_end (updated e a f)) left_value f

            pub sets_reads : {f : ExprShape} {to : ℕ} → Reads Expression 7 tokens behind f to → Reads UpdateOf 7 tokens from (updated e a f) to
            sets_reads z = ended (next (λ f. end_stops 7 7 (omega arith)) left_value z)
