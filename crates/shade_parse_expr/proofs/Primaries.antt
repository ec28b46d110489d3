-- Operands, types, calls and accesses, step by step.
use Rattle.std.proofs.Common.{◌≡◌, refl, sym, ap, ◌∙◌, subst, ℕ, ◌+◌, ◌<◌, ◌≤◌, ◌⊎◌, inl, inr, Bool, false, Some, List, [], ◌∷◌, ◌++◌, length, drop, arith, slice_get}
use Rattle.shade_base.specs.declared.place.Place.{Place}
use Rattle.shade_lex.specs.declared.token.Suffix.{Suffix}
use Rattle.shade_lex.specs.declared.token.Suffix.TheVariants.{Plain}
use Rattle.shade_ast.specs.declared.lexeme.Keyword.TheVariants as word
use Rattle.shade_ast.specs.declared.lexeme.Sign.TheVariants as sign
use Rattle.shade_ast.specs.Lexemes.{Lexeme, Word, Key, Number, Mark, Stray}
use Rattle.shade_ast.specs.Shapes.{ExprShape, ExprShapes, call, index, member, named, number, template, truth, falsity, paren, place_of}
use Rattle.shade_ast.specs.Shaped.{expr_shapes}
use Rattle.shade_ast.specs.Repeats.{Listed, MaybeListed, nothing}
use Rattle.shade_ast.specs.Expressions.{Call, calls, Expression, Primary, called, typed, numeral, true_word, false_word, parens, TypeName, plain_type, template_type}
use Rattle.shade_ast.specs.Reads.{Near, Reads, Fails, rank, rank_of}
use Rattle.shade_ast.proofs.Stages.{Stage, Closes, near_get, begin, change, phrase, phrase_fails, finish_ends, ends_stops, closes_end, stuck, single, single_fails}
use Rattle.shade_ast.specs.Chains.{After, Ends, Tail, Headed, Closed}
use Rattle.shade_ast.proofs.Tails.{tail_ends}
use Rattle.shade_ast.proofs.Heads.{take_head, skip_head}
use Rattle.shade_ast.proofs.ExprLists.{expr_list, expr_list_back, exprs_there, exprs_here, maybe_exprs_there, maybe_exprs_here}
use Rattle.shade_ast.specs.Steps.{AccessStep, IndexStep, MemberStep}
use Rattle.shade_ast.proofs.LeftLaws.{access_ranks}
use Rattle.shade_ast.proofs.Placed.{some_place}
use Rattle.shade_cursor.specs.Operators.{NoLeaf, StandsWord}
use Rattle.shade_parse_expr.specs.Rests.{Called}
use Rattle.shade_parse_expr.proofs.Chains.{then_reads, then_fails, step_reads, step_fails}
use Rattle.shade_parse_expr.proofs.Prefixes.{Closer, closer_closes, closer_stops, closer_reads, closer_stuck}

-- accesses
module _ (first : ExprShape) (tokens : List Lexeme) (from at : ℕ) (l : ExprShape) (s : Stage (Tail AccessStep first) 2 tokens from at (Tail AccessStep l)) where
  pub accesses_end : ((p : Place) → slice_get tokens at ≡ Some (Mark sign.Dot p) → ⊥) → ((p : Place) → slice_get tokens at ≡ Some (Mark sign.OpenBracket p) → ⊥) → Reads (Tail AccessStep first) 2 tokens from l at
  accesses_end no_dot no_bracket = tail_ends AccessStep (Tail AccessStep first) 2 tokens from at l never s
    where
      never : (t : Lexeme) (q : ExprShape) (us zs : List Lexeme) → slice_get tokens at ≡ Some t → AccessStep t l q us zs → ⊥
      never (Mark sign.Dot p) q us zs is i = no_dot p is
      never (Mark sign.OpenBracket p) q us zs is i = no_bracket p is
      never _ q us zs is i = i

  module _ (p : Place) (to : ℕ) where
    pub member_reads : slice_get tokens at ≡ Some (Mark sign.Dot p) → (q : ExprShape) → Reads (MemberStep l p) 1 tokens (at + 1) q to → Stage (Tail AccessStep first) 2 tokens from to (Tail AccessStep q)
    member_reads is q x = step_reads AccessStep 1 access_ranks (Tail AccessStep first) 2 (omega arith) tokens from at l (Mark sign.Dot p) is (omega arith) s q to x

    pub member_fails : slice_get tokens at ≡ Some (Mark sign.Dot p) → Fails (MemberStep l p) 1 tokens (at + 1) to → Fails (Tail AccessStep first) 2 tokens from to
    member_fails is x = step_fails AccessStep 1 access_ranks (Tail AccessStep first) 2 (omega arith) tokens from at l (Mark sign.Dot p) is (omega arith) s to x

    pub index_reads : slice_get tokens at ≡ Some (Mark sign.OpenBracket p) → (q : ExprShape) → Reads (IndexStep l p) 1 tokens (at + 1) q to → Stage (Tail AccessStep first) 2 tokens from to (Tail AccessStep q)
    index_reads is q x = step_reads AccessStep 1 access_ranks (Tail AccessStep first) 2 (omega arith) tokens from at l (Mark sign.OpenBracket p) is (omega arith) s q to x

    pub index_fails : slice_get tokens at ≡ Some (Mark sign.OpenBracket p) → Fails (IndexStep l p) 1 tokens (at + 1) to → Fails (Tail AccessStep first) 2 tokens from to
    index_fails is x = step_fails AccessStep 1 access_ranks (Tail AccessStep first) 2 (omega arith) tokens from at l (Mark sign.OpenBracket p) is (omega arith) s to x

-- a member's name
module _ (l : ExprShape) (dot : Place) (tokens : List Lexeme) (at : ℕ) where
  pub by_name_reads : (text : List ℕ) (p : Place) → slice_get tokens at ≡ Some (Word text p) → Reads (MemberStep l dot) 1 tokens at (member (place_of l) l dot (record { place = p; text = text })) (at + 1)
  by_name_reads text p is =
      single (MemberStep l dot) 1 tokens at (member (place_of l) l dot (record { place = p; text = text })) (Word text p) is (λ w. record { name = record { place = p; text = text }; split = refl; same = refl })
      (λ s ys w k.
      let e : Word text p ∷ ys ≡ Word k.name.text k.name.place ∷ w = k.split in
      let t : k.name.text ≡ text = cc in
      let q : k.name.place ≡ p = cc in
      let rest : ys ≡ w = cc in
      (k.same ∙ ap (λ x. member (place_of l) l dot (record { place = k.name.place; text = x })) t ∙ ap (λ x. member (place_of l) l dot (record { place = x; text = text })) q, rest))

  pub by_name_fails : at ≤ length tokens → ((text : List ℕ) (p : Place) → slice_get tokens at ≡ Some (Word text p) → ⊥) → Fails (MemberStep l dot) 1 tokens at at
  by_name_fails h never =
      single_fails (MemberStep l dot) 1 tokens at h (record { tree = member (place_of l) l dot (record { place = some_place; text = [] }); more = Word [] some_place ∷ []; closed = λ w. record { name = record { place = some_place; text = [] }; split = refl; same = refl } })
      (λ s ys w stop k near. never k.name.text k.name.place (near_get tokens at (Word k.name.text k.name.place) w (subst (λ x. Near x (drop at tokens)) k.split near)))

-- an index and its `]`
module _ (l : ExprShape) (bracket : Place) (tokens : List Lexeme) (from : ℕ) (h : from ≤ length tokens) where
  abbrev Bracketed : ExprShape → ExprShape → List Lexeme → List Lexeme → Type 0
  Bracketed i = Closer (Mark sign.CloseBracket) (index (place_of l) l bracket i)

  index_begin : Stage (IndexStep l bracket) 1 tokens from from (After Expression Bracketed)
  index_begin =
      change (IndexStep l bracket) 1 tokens from from (IndexStep l bracket) (After Expression Bracketed)
      (λ r ys w stop near k. record { part = k.inner; others = Mark sign.CloseBracket k.close ∷ w; phrase = k.phrase; rest = record { place = k.close; split = refl; same = k.same } })
      (λ r ys w a. record { inner = a.part; close = a.rest.place; phrase = subst (λ x. Expression a.part ys x) a.rest.split a.phrase; same = a.rest.same })
      (begin (IndexStep l bracket) 1 tokens from h)

  index_stops : (b r : ExprShape) (zs w : List Lexeme) → 1 < rank w → Bracketed b r zs w → 7 < rank zs
  index_stops b r zs w stop c = closer_stops (Mark sign.CloseBracket) (index (place_of l) l bracket b) 7 (λ p. omega arith) r zs w c

  pub by_index_fails : (to : ℕ) → Fails Expression 7 tokens from to → Fails (IndexStep l bracket) 1 tokens from to
  by_index_fails to f = phrase_fails (IndexStep l bracket) 1 tokens from Expression 7 Bracketed index_stops from to (λ b. closer_closes (Mark sign.CloseBracket) (index (place_of l) l bracket b)) index_begin f

  module _ (i : ExprShape) (at : ℕ) (x : Reads Expression 7 tokens from i at) where
    index_stage : Stage (IndexStep l bracket) 1 tokens from at (Bracketed i)
    index_stage = phrase (IndexStep l bracket) 1 tokens from Expression 7 Bracketed index_stops from at i index_begin x

    pub by_index_reads : (p : Place) → slice_get tokens at ≡ Some (Mark sign.CloseBracket p) → Reads (IndexStep l bracket) 1 tokens from (index (place_of l) l bracket i) (at + 1)
    by_index_reads p is = closer_reads (Mark sign.CloseBracket) (index (place_of l) l bracket i) (IndexStep l bracket) 1 tokens from at index_stage p is

    pub by_index_open : ((p : Place) → slice_get tokens at ≡ Some (Mark sign.CloseBracket p) → ⊥) → Fails (IndexStep l bracket) 1 tokens from at
    by_index_open never = closer_stuck (Mark sign.CloseBracket) (index (place_of l) l bracket i) (IndexStep l bracket) 1 tokens from at index_stage never

-- the arguments of a call
module _ (l : ExprShape) (tokens : List Lexeme) (from : ℕ) (h : from ≤ length tokens) where
  abbrev Arguments : List ExprShape × Bool → List Lexeme → List Lexeme → Type 0
  Arguments = Closed (MaybeListed Expression) (Mark sign.Close)

  abbrev Built : List ExprShape × Bool → ExprShape
  Built r = call (place_of l) l (expr_shapes r.0) r.1

  pub called_reads : (r : List ExprShape × Bool) (to : ℕ) → Reads Arguments 0 tokens from r to → Reads (Called l) 1 tokens from (Built r) to
  called_reads r to x = finish_ends (Called l) 1 tokens from to (Built r) (Built r) refl (phrase (Called l) 1 tokens from Arguments 0 (λ r. Ends (Built r)) (λ b q zs w. ends_stops 1 0 (Built b) q zs w (omega arith)) from to r (begin (Called l) 1 tokens from h) x)

  pub called_fails : (to : ℕ) → Fails Arguments 0 tokens from to → Fails (Called l) 1 tokens from to
  called_fails to f = phrase_fails (Called l) 1 tokens from Arguments 0 (λ r. Ends (Built r)) (λ b q zs w. ends_stops 1 0 (Built b) q zs w (omega arith)) from to (λ b. closes_end (Built b)) (begin (Called l) 1 tokens from h) f

called_some : (l : ExprShape) (es : ExprShapes) (trailing : Bool) (q : Place) (us w : List Lexeme) → MaybeListed Expression (expr_list es, trailing) us (Mark sign.Close q ∷ w) → Called l (call (place_of l) l es trailing) us w
called_some l es trailing q us w g = record { part = (expr_list es, trailing); others = w; phrase = record { place = q; list = g }; rest = record { same = ap (λ x. call (place_of l) l x trailing) (sym (expr_list_back es)); left = refl } }

call_by : (l r : ExprShape) (p : Place) (ts us w : List Lexeme) → TypeName l ts (Mark sign.Open p ∷ us) → Called l r us w → Call r ts w
call_by l r p ts us w g a =
    subst (λ x. Call x ts w) (sym a.rest.same)
    (subst (λ x. Call (call (place_of l) l (expr_shapes a.part.0) a.part.1) ts x) a.rest.left (calls p a.phrase.place g (maybe_exprs_here a.part us (Mark sign.Close a.phrase.place ∷ a.others) a.phrase.list)))

-- what stands behind a type that is called
abbrev OpenAt : ExprShape → Lexeme → ExprShape → List Lexeme → List Lexeme → Type 0
OpenAt l (Mark sign.Open p) = Called l
OpenAt l _ = λ r zs w. ⊥

call_there : (r : ExprShape) (ts w : List Lexeme) → Call r ts w → After TypeName (λ l. Headed (OpenAt l)) r ts w
call_there r ts w (calls {e = e} {es = es} {trailing = trailing} p q {us = us} g h) = record { part = e; others = Mark sign.Open p ∷ us; phrase = g; rest = record { first = Mark sign.Open p; others = us; split = refl; at = called_some e es trailing q us w (maybe_exprs_there (es, trailing) us (Mark sign.Close q ∷ w) h) } }

open_call : (l r : ExprShape) (ts w : List Lexeme) (t : Lexeme) (us : List Lexeme) → TypeName l ts (t ∷ us) → OpenAt l t r us w → Call r ts w
open_call l r ts w (Mark sign.Open p) us g a = call_by l r p ts us w g a
open_call l r ts w _ us g a = absurd a

call_back : (r : ExprShape) (ts w : List Lexeme) → After TypeName (λ l. Headed (OpenAt l)) r ts w → Call r ts w
call_back r ts w a = open_call a.part r ts w a.rest.first a.rest.others (subst (λ x. TypeName a.part ts x) a.rest.split a.phrase) a.rest.at

open_rank : (l r : ExprShape) (t : Lexeme) (us w : List Lexeme) → OpenAt l t r us w → 0 < rank_of t
open_rank l r (Mark sign.Open p) us w a = omega arith
open_rank l r _ us w a = absurd a

called_closes : (l : ExprShape) → Closes (Called l)
called_closes l = record { tree = call (place_of l) l (expr_shapes []) false; more = Mark sign.Close some_place ∷ []; closed = λ w. record { part = ([], false); others = w; phrase = record { place = some_place; list = nothing }; rest = record { same = refl; left = refl } } }

open_closes : (l : ExprShape) → Closes (Headed (OpenAt l))
open_closes l = let c : Closes (Called l) = called_closes l in record { tree = c.tree; more = Mark sign.Open some_place ∷ c.more; closed = λ w. record { first = Mark sign.Open some_place; others = c.more ++ w; split = refl; at = c.closed w } }

module _ (tokens : List Lexeme) (from : ℕ) (h : from ≤ length tokens) where
  call_begin : Stage Call 1 tokens from from (After TypeName (λ l. Headed (OpenAt l)))
  call_begin = change Call 1 tokens from from Call (After TypeName (λ l. Headed (OpenAt l))) (λ r ys w stop near g. call_there r ys w g) call_back (begin Call 1 tokens from h)

  call_stops : (l r : ExprShape) (zs w : List Lexeme) → 1 < rank w → Headed (OpenAt l) r zs w → 0 < rank zs
  call_stops l r zs w stop k = subst (λ x. 0 < rank x) (sym k.split) (open_rank l r k.first k.others w k.at)

  pub call_type_fails : (to : ℕ) → Fails TypeName 0 tokens from to → Fails Call 1 tokens from to
  call_type_fails to f = phrase_fails Call 1 tokens from TypeName 0 (λ l. Headed (OpenAt l)) call_stops from to open_closes call_begin f

  module _ (l : ExprShape) (at : ℕ) (x : Reads TypeName 0 tokens from l at) where
    call_stage : Stage Call 1 tokens from at (Headed (OpenAt l))
    call_stage = phrase Call 1 tokens from TypeName 0 (λ l. Headed (OpenAt l)) call_stops from at l call_begin x

    pub call_stuck : ((p : Place) → slice_get tokens at ≡ Some (Mark sign.Open p) → ⊥) → Fails Call 1 tokens from at
    call_stuck never = stuck Call 1 tokens from at (Headed (OpenAt l)) (open_closes l) (λ r ys w stop k near. by r k.first k.others w (near_get tokens at k.first k.others (subst (λ x. Near x (drop at tokens)) k.split near)) k.at) call_stage
      where
        by : (r : ExprShape) (t : Lexeme) (us w : List Lexeme) → slice_get tokens at ≡ Some t → OpenAt l t r us w → ⊥
        by r (Mark sign.Open p) us w is a = never p is
        by r _ us w is a = a

    module _ (p : Place) (is : slice_get tokens at ≡ Some (Mark sign.Open p)) (to : ℕ) where
      call_opened : Stage Call 1 tokens from (at + 1) (Called l)
      call_opened = take_head Call 1 tokens from at (OpenAt l) (λ r ys w. ⊥) (Mark sign.Open p) is (λ r zs w stop d. d) (change Call 1 tokens from at (Headed (OpenAt l)) (λ r ys w. Headed (OpenAt l) r ys w ⊎ ⊥) (λ r ys w stop near k. inl k) (λ r ys w c. elim c [ inl k ↦ k | inr d ↦ absurd d ]) call_stage)

      pub call_reads : (e : ExprShape) → Reads (Called l) 1 tokens (at + 1) e to → Reads Call 1 tokens from e to
      call_reads e y = then_reads Call (Called l) 1 tokens from (at + 1) to call_opened e y

      pub call_fails : Fails (Called l) 1 tokens (at + 1) to → Fails Call 1 tokens from to
      call_fails y = then_fails Call (Called l) 1 tokens from (at + 1) to call_opened y

-- an operand by its first token
abbrev TypeRest : ExprShape → ExprShape → List Lexeme → List Lexeme → Type 0
TypeRest l r ys w = Headed (OpenAt l) r ys w ⊎ Ends l r ys w

abbrev PrimaryAt : Lexeme → ExprShape → List Lexeme → List Lexeme → Type 0
PrimaryAt (Word text p) = λ r us w. After TypeName TypeRest r (Word text p ∷ us) w
PrimaryAt (Number value suffix p) = Ends (number p value suffix)
PrimaryAt (Key word.True p) = Ends (truth p)
PrimaryAt (Key word.False p) = Ends (falsity p)
PrimaryAt (Mark sign.Open p) = After Expression (λ e. Closer (Mark sign.Close) (paren p e))
PrimaryAt _ = λ r us w. ⊥

type_head : (r : ExprShape) (ts w : List Lexeme) → After TypeName TypeRest r ts w → Headed PrimaryAt r ts w
type_head r ts w a = by a.part ts a.others a.phrase a.rest
  where
    by : (l : ExprShape) (ts us : List Lexeme) → TypeName l ts us → TypeRest l r us w → Headed PrimaryAt r ts w
    by l ts us (plain_type p text) k = record { first = Word text p; others = us; split = refl; at = record { part = l; others = us; phrase = plain_type p text; rest = k } }
    by l ts us (template_type p q z text {ts = vs} g) k = record { first = Word text p; others = Mark sign.OpenTemplate q ∷ vs; split = refl; at = record { part = l; others = us; phrase = template_type p q z text g; rest = k } }

primary_there : (r : ExprShape) (ts w : List Lexeme) → Primary r ts w → Headed PrimaryAt r ts w
primary_there r ts w (called g) = let a : After TypeName (λ l. Headed (OpenAt l)) r ts w = call_there r ts w g in type_head r ts w (record { part = a.part; others = a.others; phrase = a.phrase; rest = inl a.rest })
primary_there r ts w (typed g) = type_head r ts w (record { part = r; others = w; phrase = g; rest = inr (record { same = refl; left = refl }) })
primary_there r ts w (numeral p value suffix) = record { first = Number value suffix p; others = w; split = refl; at = record { same = refl; left = refl } }
primary_there r ts w (true_word p) = record { first = Key word.True p; others = w; split = refl; at = record { same = refl; left = refl } }
primary_there r ts w (false_word p) = record { first = Key word.False p; others = w; split = refl; at = record { same = refl; left = refl } }
primary_there r ts w (parens {e = e} p q {ts = us} g) = record { first = Mark sign.Open p; others = us; split = refl; at = record { part = e; others = Mark sign.Close q ∷ w; phrase = g; rest = record { place = q; split = refl; same = refl } } }

word_back : (r : ExprShape) (ts w : List Lexeme) → After TypeName TypeRest r ts w → Primary r ts w
word_back r ts w a =
    elim a.rest [
      | inl k ↦ called (call_back r ts w (record { part = a.part; others = a.others; phrase = a.phrase; rest = k }))
      | inr e ↦ subst (λ x. Primary x ts w) (sym e.same) (subst (λ x. Primary a.part ts x) e.left (typed a.phrase))
    ]

primary_by : (t : Lexeme) (r : ExprShape) (us w : List Lexeme) → PrimaryAt t r us w → Primary r (t ∷ us) w
primary_by (Word text p) r us w a = word_back r (Word text p ∷ us) w a
primary_by (Number value suffix p) r us w a = subst (λ x. Primary x (Number value suffix p ∷ us) w) (sym a.same) (subst (λ x. Primary (number p value suffix) (Number value suffix p ∷ us) x) a.left (numeral p value suffix))
primary_by (Key word.True p) r us w a = subst (λ x. Primary x (Key word.True p ∷ us) w) (sym a.same) (subst (λ x. Primary (truth p) (Key word.True p ∷ us) x) a.left (true_word p))
primary_by (Key word.False p) r us w a = subst (λ x. Primary x (Key word.False p ∷ us) w) (sym a.same) (subst (λ x. Primary (falsity p) (Key word.False p ∷ us) x) a.left (false_word p))
primary_by (Mark sign.Open p) r us w a = subst (λ x. Primary x (Mark sign.Open p ∷ us) w) (sym a.rest.same) (parens p a.rest.place (subst (λ x. Expression a.part us x) a.rest.split a.phrase))
primary_by _ r us w a = absurd a

primary_back : (r : ExprShape) (ts w : List Lexeme) → Headed PrimaryAt r ts w → Primary r ts w
primary_back r ts w k = subst (λ x. Primary r x w) (sym k.split) (primary_by k.first r k.others w k.at)

some_expression : (p : Place) → Closes (Headed PrimaryAt)
some_expression p = record { tree = number p 0 Plain; more = Number 0 Plain p ∷ []; closed = λ w. record { first = Number 0 Plain p; others = w; split = refl; at = record { same = refl; left = refl } } }

module _ (tokens : List Lexeme) (from : ℕ) (h : from ≤ length tokens) where
  primary_begin : Stage Primary 1 tokens from from (Headed PrimaryAt)
  primary_begin = change Primary 1 tokens from from Primary (Headed PrimaryAt) (λ r ys w stop near g. primary_there r ys w g) primary_back (begin Primary 1 tokens from h)

  primary_at : (t : Lexeme) → slice_get tokens from ≡ Some t → Stage Primary 1 tokens from (from + 1) (PrimaryAt t)
  primary_at t is =
      take_head Primary 1 tokens from from PrimaryAt (λ r ys w. ⊥) t is (λ r zs w stop d. d)
      (change Primary 1 tokens from from (Headed PrimaryAt) (λ r ys w. Headed PrimaryAt r ys w ⊎ ⊥) (λ r ys w stop near k. inl k) (λ r ys w c. elim c [ inl k ↦ k | inr d ↦ absurd d ]) primary_begin)

  pub numeral_reads : (p : Place) (value : ℕ) (suffix : Suffix) → slice_get tokens from ≡ Some (Number value suffix p) → Reads Primary 1 tokens from (number p value suffix) (from + 1)
  numeral_reads p value suffix is = finish_ends Primary 1 tokens from (from + 1) (number p value suffix) (number p value suffix) refl (primary_at (Number value suffix p) is)

  pub true_reads : (p : Place) → slice_get tokens from ≡ Some (Key word.True p) → Reads Primary 1 tokens from (truth p) (from + 1)
  true_reads p is = finish_ends Primary 1 tokens from (from + 1) (truth p) (truth p) refl (primary_at (Key word.True p) is)

  pub false_reads : (p : Place) → slice_get tokens from ≡ Some (Key word.False p) → Reads Primary 1 tokens from (falsity p) (from + 1)
  false_reads p is = finish_ends Primary 1 tokens from (from + 1) (falsity p) (falsity p) refl (primary_at (Key word.False p) is)

  pub primary_stuck : NoLeaf tokens from → ((p : Place) → slice_get tokens from ≡ Some (Mark sign.Open p) → ⊥) → Fails Primary 1 tokens from from
  primary_stuck none no_open = stuck Primary 1 tokens from from (Headed PrimaryAt) (some_expression some_place) (λ r ys w stop k near. by k.first r k.others w (near_get tokens from k.first k.others (subst (λ x. Near x (drop from tokens)) k.split near)) k.at) primary_begin
    where
      by : (t : Lexeme) (r : ExprShape) (us w : List Lexeme) → slice_get tokens from ≡ Some t → PrimaryAt t r us w → ⊥
      by (Word text p) r us w is a = none.no_word text p is
      by (Number value suffix p) r us w is a = none.no_number value suffix p is
      by (Key word.True p) r us w is a = none.no_true p is
      by (Key word.False p) r us w is a = none.no_false p is
      by (Mark sign.Open p) r us w is a = no_open p is
      by _ r us w is a = a

  module _ (p : Place) (is : slice_get tokens from ≡ Some (Mark sign.Open p)) where
    paren_stops : (b r : ExprShape) (zs w : List Lexeme) → 1 < rank w → Closer (Mark sign.Close) (paren p b) r zs w → 7 < rank zs
    paren_stops b r zs w stop c = closer_stops (Mark sign.Close) (paren p b) 7 (λ q. omega arith) r zs w c

    pub paren_fails : (to : ℕ) → Fails Expression 7 tokens (from + 1) to → Fails Primary 1 tokens from to
    paren_fails to f = phrase_fails Primary 1 tokens from Expression 7 (λ e. Closer (Mark sign.Close) (paren p e)) paren_stops (from + 1) to (λ b. closer_closes (Mark sign.Close) (paren p b)) (primary_at (Mark sign.Open p) is) f

    module _ (e : ExprShape) (at : ℕ) (x : Reads Expression 7 tokens (from + 1) e at) where
      paren_stage : Stage Primary 1 tokens from at (Closer (Mark sign.Close) (paren p e))
      paren_stage = phrase Primary 1 tokens from Expression 7 (λ e. Closer (Mark sign.Close) (paren p e)) paren_stops (from + 1) at e (primary_at (Mark sign.Open p) is) x

      pub paren_reads : (q : Place) → slice_get tokens at ≡ Some (Mark sign.Close q) → Reads Primary 1 tokens from (paren p e) (at + 1)
      paren_reads q closes = closer_reads (Mark sign.Close) (paren p e) Primary 1 tokens from at paren_stage q closes

      pub paren_open : ((q : Place) → slice_get tokens at ≡ Some (Mark sign.Close q) → ⊥) → Fails Primary 1 tokens from at
      paren_open never = closer_stuck (Mark sign.Close) (paren p e) Primary 1 tokens from at paren_stage never

  -- a type or a call of it
  module _ (stands : StandsWord tokens from) where
    word_begin : Stage Primary 1 tokens from from (After TypeName TypeRest)
    word_begin =
        change Primary 1 tokens from from (Headed PrimaryAt) (After TypeName TypeRest)
        (λ r ys w stop near k.
        let is : slice_get tokens from ≡ Some k.first = near_get tokens from k.first k.others (subst (λ x. Near x (drop from tokens)) k.split near) in
        let same : k.first ≡ Word stands.0 stands.1 = (let both : Some k.first ≡ Some (Word stands.0 stands.1) = sym is ∙ stands.2 in cc) in
        subst (λ x. After TypeName TypeRest r x w) (sym k.split) (by k.first r k.others w same k.at))
        (λ r ys w a. type_head r ys w a)
        primary_begin
      where
        by : (t : Lexeme) (r : ExprShape) (us w : List Lexeme) → t ≡ Word stands.0 stands.1 → PrimaryAt t r us w → After TypeName TypeRest r (t ∷ us) w
        by (Word text p) r us w e a = a
        by (Number value suffix p) r us w e a = absurd (let bad : Number value suffix p ≡ Word stands.0 stands.1 = e in cc)
        by (Key k p) r us w e a = absurd (let bad : Key k p ≡ Word stands.0 stands.1 = e in cc)
        by (Mark s p) r us w e a = absurd (let bad : Mark s p ≡ Word stands.0 stands.1 = e in cc)
        by (Stray p) r us w e a = absurd (let bad : Stray p ≡ Word stands.0 stands.1 = e in cc)

    word_stops : (l r : ExprShape) (zs w : List Lexeme) → 1 < rank w → TypeRest l r zs w → 0 < rank zs
    word_stops l r zs w stop c =
        elim c [
          | inl k ↦ subst (λ x. 0 < rank x) (sym k.split) (open_rank l r k.first k.others w k.at)
          | inr e ↦ ends_stops 1 0 l r zs w (omega arith) stop e
        ]

    word_closes : (l : ExprShape) → Closes (TypeRest l)
    word_closes l = record { tree = l; more = []; closed = λ w. inr (record { same = refl; left = refl }) }

    pub word_fails : (to : ℕ) → Fails TypeName 0 tokens from to → Fails Primary 1 tokens from to
    word_fails to f = phrase_fails Primary 1 tokens from TypeName 0 TypeRest word_stops from to word_closes word_begin f

    module _ (l : ExprShape) (at : ℕ) (x : Reads TypeName 0 tokens from l at) where
      word_stage : Stage Primary 1 tokens from at (TypeRest l)
      word_stage = phrase Primary 1 tokens from TypeName 0 TypeRest word_stops from at l word_begin x

      pub word_alone : ((p : Place) → slice_get tokens at ≡ Some (Mark sign.Open p) → ⊥) → Reads Primary 1 tokens from l at
      word_alone never = finish_ends Primary 1 tokens from at l l refl (skip_head Primary 1 tokens from at (OpenAt l) (Ends l) (λ t r zs w is a. by r t zs w is a) word_stage)
        where
          by : (r : ExprShape) (t : Lexeme) (us w : List Lexeme) → slice_get tokens at ≡ Some t → OpenAt l t r us w → ⊥
          by r (Mark sign.Open p) us w is a = never p is
          by r _ us w is a = a

      module _ (p : Place) (is : slice_get tokens at ≡ Some (Mark sign.Open p)) (to : ℕ) where
        word_opened : Stage Primary 1 tokens from (at + 1) (Called l)
        word_opened = take_head Primary 1 tokens from at (OpenAt l) (Ends l) (Mark sign.Open p) is (λ r zs w stop d. let e : 1 ≡ rank w = ap rank d.left in omega arith) word_stage

        pub word_call : (e : ExprShape) → Reads (Called l) 1 tokens (at + 1) e to → Reads Primary 1 tokens from e to
        word_call e y = then_reads Primary (Called l) 1 tokens from (at + 1) to word_opened e y

        pub word_call_fails : Fails (Called l) 1 tokens (at + 1) to → Fails Primary 1 tokens from to
        word_call_fails y = then_fails Primary (Called l) 1 tokens from (at + 1) to word_opened y

-- types
abbrev TemplateAt : List ℕ → Place → Lexeme → ExprShape → List Lexeme → List Lexeme → Type 0
TemplateAt text p (Mark sign.OpenTemplate q) = After (Closed (Listed Expression) (Mark sign.CloseTemplate)) (λ r. Ends (template p text (expr_shapes r.0) r.1))
TemplateAt text p _ = λ r zs w. ⊥

abbrev NameRest : List ℕ → Place → ExprShape → List Lexeme → List Lexeme → Type 0
NameRest text p r ys w = Headed (TemplateAt text p) r ys w ⊎ Ends (named p text) r ys w

abbrev TypeAt : Lexeme → ExprShape → List Lexeme → List Lexeme → Type 0
TypeAt (Word text p) = NameRest text p
TypeAt _ = λ r us w. ⊥

type_there : (r : ExprShape) (ts w : List Lexeme) → TypeName r ts w → Headed TypeAt r ts w
type_there r ts w (plain_type p text) = record { first = Word text p; others = w; split = refl; at = inr (record { same = refl; left = refl }) }
type_there r ts w (template_type p q z text {es = es} {trailing = trailing} {ts = us} g) =
    record {
      first = Word text p;
      others = Mark sign.OpenTemplate q ∷ us;
      split = refl;
      at = inl (record { first = Mark sign.OpenTemplate q; others = us; split = refl; at = record { part = (expr_list es, trailing); others = w; phrase = record { place = z; list = exprs_there (es, trailing) us (Mark sign.CloseTemplate z ∷ w) g }; rest = record { same = ap (λ x. template p text x trailing) (sym (expr_list_back es)); left = refl } } });
    }

template_by : (text : List ℕ) (p : Place) (t : Lexeme) (r : ExprShape) (us w : List Lexeme) → TemplateAt text p t r us w → TypeName r (Word text p ∷ (t ∷ us)) w
template_by text p (Mark sign.OpenTemplate q) r us w a =
    subst (λ x. TypeName x (Word text p ∷ (Mark sign.OpenTemplate q ∷ us)) w) (sym a.rest.same)
    (subst (λ x. TypeName (template p text (expr_shapes a.part.0) a.part.1) (Word text p ∷ (Mark sign.OpenTemplate q ∷ us)) x) a.rest.left (template_type p q a.phrase.place text (exprs_here a.part us (Mark sign.CloseTemplate a.phrase.place ∷ a.others) a.phrase.list)))
template_by text p _ r us w a = absurd a

type_by : (t : Lexeme) (r : ExprShape) (us w : List Lexeme) → TypeAt t r us w → TypeName r (t ∷ us) w
type_by (Word text p) r us w a =
    elim a [
      | inl k ↦ subst (λ x. TypeName r (Word text p ∷ x) w) (sym k.split) (template_by text p k.first r k.others w k.at)
      | inr e ↦ subst (λ x. TypeName x (Word text p ∷ us) w) (sym e.same) (subst (λ x. TypeName (named p text) (Word text p ∷ us) x) e.left (plain_type p text))
    ]
type_by _ r us w a = absurd a

type_back : (r : ExprShape) (ts w : List Lexeme) → Headed TypeAt r ts w → TypeName r ts w
type_back r ts w k = subst (λ x. TypeName r x w) (sym k.split) (type_by k.first r k.others w k.at)

module _ (tokens : List Lexeme) (from : ℕ) (h : from ≤ length tokens) where
  type_begin : Stage TypeName 0 tokens from from (Headed TypeAt)
  type_begin = change TypeName 0 tokens from from TypeName (Headed TypeAt) (λ r ys w stop near g. type_there r ys w g) type_back (begin TypeName 0 tokens from h)

  pub type_stuck : ((text : List ℕ) (p : Place) → slice_get tokens from ≡ Some (Word text p) → ⊥) → Fails TypeName 0 tokens from from
  type_stuck never = stuck TypeName 0 tokens from from (Headed TypeAt) (record { tree = named some_place []; more = Word [] some_place ∷ []; closed = λ w. record { first = Word [] some_place; others = w; split = refl; at = inr (record { same = refl; left = refl }) } }) (λ r ys w stop k near. by k.first r k.others w (near_get tokens from k.first k.others (subst (λ x. Near x (drop from tokens)) k.split near)) k.at) type_begin
    where
      by : (t : Lexeme) (r : ExprShape) (us w : List Lexeme) → slice_get tokens from ≡ Some t → TypeAt t r us w → ⊥
      by (Word text p) r us w is a = never text p is
      by _ r us w is a = a

  module _ (text : List ℕ) (p : Place) (is : slice_get tokens from ≡ Some (Word text p)) where
    type_named : Stage TypeName 0 tokens from (from + 1) (NameRest text p)
    type_named =
        take_head TypeName 0 tokens from from TypeAt (λ r ys w. ⊥) (Word text p) is (λ r zs w stop d. d)
        (change TypeName 0 tokens from from (Headed TypeAt) (λ r ys w. Headed TypeAt r ys w ⊎ ⊥) (λ r ys w stop near k. inl k) (λ r ys w c. elim c [ inl k ↦ k | inr d ↦ absurd d ]) type_begin)

    pub type_alone : ((q : Place) → slice_get tokens (from + 1) ≡ Some (Mark sign.OpenTemplate q) → ⊥) → Reads TypeName 0 tokens from (named p text) (from + 1)
    type_alone never = finish_ends TypeName 0 tokens from (from + 1) (named p text) (named p text) refl (skip_head TypeName 0 tokens from (from + 1) (TemplateAt text p) (Ends (named p text)) (λ t r zs w is a. by r t zs w is a) type_named)
      where
        by : (r : ExprShape) (t : Lexeme) (us w : List Lexeme) → slice_get tokens (from + 1) ≡ Some t → TemplateAt text p t r us w → ⊥
        by r (Mark sign.OpenTemplate q) us w is a = never q is
        by r _ us w is a = a

    module _ (q : Place) (opens : slice_get tokens (from + 1) ≡ Some (Mark sign.OpenTemplate q)) (to : ℕ) where
      type_opened : Stage TypeName 0 tokens from (from + 2) (TemplateAt text p (Mark sign.OpenTemplate q))
      type_opened =
          let two : from + 1 + 1 ≡ from + 2 = omega arith in
          subst (λ k. Stage TypeName 0 tokens from k (TemplateAt text p (Mark sign.OpenTemplate q))) two (take_head TypeName 0 tokens from (from + 1) (TemplateAt text p) (Ends (named p text)) (Mark sign.OpenTemplate q) opens (λ r zs w stop d. let e : 0 ≡ rank w = ap rank d.left in omega arith) type_named)

      pub template_reads : (r : List ExprShape × Bool) → Reads (Closed (Listed Expression) (Mark sign.CloseTemplate)) 0 tokens (from + 2) r to → Reads TypeName 0 tokens from (template p text (expr_shapes r.0) r.1) to
      template_reads r x = finish_ends TypeName 0 tokens from to (template p text (expr_shapes r.0) r.1) (template p text (expr_shapes r.0) r.1) refl (phrase TypeName 0 tokens from (Closed (Listed Expression) (Mark sign.CloseTemplate)) 0 (λ r. Ends (template p text (expr_shapes r.0) r.1)) (λ b z zs w. ends_stops 0 0 (template p text (expr_shapes b.0) b.1) z zs w (omega arith)) (from + 2) to r type_opened x)

      pub template_fails : Fails (Closed (Listed Expression) (Mark sign.CloseTemplate)) 0 tokens (from + 2) to → Fails TypeName 0 tokens from to
      template_fails f = phrase_fails TypeName 0 tokens from (Closed (Listed Expression) (Mark sign.CloseTemplate)) 0 (λ r. Ends (template p text (expr_shapes r.0) r.1)) (λ b z zs w. ends_stops 0 0 (template p text (expr_shapes b.0) b.1) z zs w (omega arith)) (from + 2) to (λ b. closes_end (template p text (expr_shapes b.0) b.1)) type_opened f
