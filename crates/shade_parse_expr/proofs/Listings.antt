-- Lists of expressions and left sides, step by step.
use Rattle.std.proofs.Common.{◌≡◌, refl, sym, ap, ◌∙◌, subst, ℕ, ◌+◌, ◌<◌, ◌≤◌, ◌⊎◌, inl, inr, Bool, true, false, Some, List, [], ◌∷◌, ◌++◌, length, drop, arith, slice_get}
use Rattle.shade_base.specs.declared.place.Place.{Place}
use Rattle.shade_ast.specs.declared.lexeme.Sign.{Sign}
use Rattle.shade_ast.specs.declared.lexeme.Sign.TheVariants as sign
use Rattle.shade_ast.specs.Lexemes.{Lexeme, Word, Mark}
use Rattle.shade_ast.specs.Shapes.{ExprShape, named, paren}
use Rattle.shade_ast.specs.Repeats.{Listed, MaybeListed, nothing, something}
use Rattle.shade_ast.specs.Expressions.{Expression, LeftSide}
use Rattle.shade_ast.specs.Reads.{Near, Reads, Fails, rank, rank_of}
use Rattle.shade_ast.proofs.Stages.{Stage, near_get, begin, change, phrase, phrase_fails, finish_ends, stuck}
use Rattle.shade_ast.specs.Chains.{After, Ends, Headed, Closed}
use Rattle.shade_ast.proofs.Heads.{take_head}
use Rattle.shade_ast.proofs.Lists.{Item, Choice, listed_begin, maybe_begin, choose_close, choose_item, item_fails, item_close, item_stuck, item_comma}
use Rattle.shade_ast.proofs.Firsts.{BeginsExpr, first_is, expression_first}
use Rattle.shade_ast.specs.Steps.{LeftFirst, first_name, first_parens}
use Rattle.shade_ast.proofs.Placed.{some_place}
use Rattle.shade_cursor.specs.Operators.{Closing}
use Rattle.shade_parse_expr.proofs.Chains.{then_reads, then_fails}
use Rattle.shade_parse_expr.proofs.Prefixes.{Closer, closer_closes, closer_stops, closer_reads, closer_stuck}

no_item : (s : Sign) → Closing s → (r : ExprShape) (p : Place) (ts w : List Lexeme) → Expression r (Mark s p ∷ ts) w → ⊥
no_item s c r p ts w g =
    elim c [
      | inl e ↦ subst (λ x. BeginsExpr (Mark x p)) e (first_is BeginsExpr (Mark s p) ts (expression_first r (Mark s p ∷ ts) w g))
      | inr e ↦ subst (λ x. BeginsExpr (Mark x p)) e (first_is BeginsExpr (Mark s p) ts (expression_first r (Mark s p ∷ ts) w g))
    ]

closing_rank : (s : Sign) → Closing s → (p : Place) → 7 < rank_of (Mark s p)
closing_rank s c p =
    elim c [
      | inl e ↦ subst (λ x. 7 < rank_of (Mark x p)) (sym e) (omega arith)
      | inr e ↦ subst (λ x. 7 < rank_of (Mark x p)) (sym e) (omega arith)
    ]

closing_apart : (s : Sign) → Closing s → (p q : Place) → Mark sign.Comma p ≡ Mark s q → ⊥
closing_apart s c p q same =
    elim c [
      | inl e ↦ (let bad : Mark sign.Comma p ≡ Mark sign.Close q = same ∙ ap (λ x. Mark x q) e in cc)
      | inr e ↦ (let bad : Mark sign.Comma p ≡ Mark sign.CloseTemplate q = same ∙ ap (λ x. Mark x q) e in cc)
    ]

module _ (s : Sign) (c : Closing s) (tokens : List Lexeme) (from : ℕ) where
  abbrev Whole : List ExprShape × Bool → List Lexeme → List Lexeme → Type 0
  Whole = Closed (Listed Expression) (Mark s)

  -- the items so far, and one more to come
  abbrev pub Items : ℕ → List ExprShape → Type 0
  Items at rs = Stage Whole 0 tokens from at (Item Expression (Mark s) rs)

  pub list_begin : from ≤ length tokens → Items from []
  list_begin h = listed_begin Expression (Mark s) 7 (omega arith) (closing_rank s c) (closing_apart s c) (no_item s c) 0 tokens from h

  module _ (at : ℕ) (rs : List ExprShape) (g : Items at rs) where
    pub list_item_fails : (to : ℕ) → Fails Expression 7 tokens at to → Fails Whole 0 tokens from to
    list_item_fails to f = item_fails Expression (Mark s) 7 (omega arith) (closing_rank s c) (closing_apart s c) (no_item s c) Whole 0 tokens from at rs g to f

    module _ (r : ExprShape) (fs : List ExprShape) (to : ℕ) (x : Reads Expression 7 tokens at r to) (is : fs ≡ rs ++ r ∷ []) where
      pub list_close : (q : Place) → slice_get tokens to ≡ Some (Mark s q) → Reads Whole 0 tokens from (fs, false) (to + 1)
      list_close q closes = item_close Expression (Mark s) 7 (omega arith) (closing_rank s c) (closing_apart s c) (no_item s c) Whole 0 tokens from at rs g r fs to x is q closes

      pub list_stuck : ((q : Place) → slice_get tokens to ≡ Some (Mark s q) → ⊥) → ((q : Place) → slice_get tokens to ≡ Some (Mark sign.Comma q) → ⊥) → Fails Whole 0 tokens from to
      list_stuck no_close no_comma = item_stuck Expression (Mark s) 7 (omega arith) (closing_rank s c) (closing_apart s c) (no_item s c) Whole 0 tokens from at rs g r fs to x is no_close no_comma

      module _ (q : Place) (commas : slice_get tokens to ≡ Some (Mark sign.Comma q)) where
        choice : Stage Whole 0 tokens from (to + 1) (Choice Expression (Mark s) fs true)
        choice = item_comma Expression (Mark s) 7 (omega arith) (closing_rank s c) (closing_apart s c) (no_item s c) Whole 0 tokens from at rs g r fs to x is q commas

        pub list_comma_close : (p : Place) → slice_get tokens (to + 1) ≡ Some (Mark s p) → Reads Whole 0 tokens from (fs, true) (to + 1 + 1)
        list_comma_close p closes = choose_close Expression (Mark s) 7 (omega arith) (closing_rank s c) (closing_apart s c) (no_item s c) Whole 0 tokens from (to + 1) fs true choice p (fs, true) refl closes

        pub list_more : ((p : Place) → slice_get tokens (to + 1) ≡ Some (Mark s p) → ⊥) → Items (to + 1) fs
        list_more never = choose_item Expression (Mark s) 7 (omega arith) (closing_rank s c) (closing_apart s c) (no_item s c) Whole 0 tokens from (to + 1) fs true choice never

-- arguments, which may be none
module _ (tokens : List Lexeme) (from : ℕ) (h : from ≤ length tokens) where
  abbrev Arguments : List ExprShape × Bool → List Lexeme → List Lexeme → Type 0
  Arguments = Closed (MaybeListed Expression) (Mark sign.Close)

  pub arguments_none : (p : Place) → slice_get tokens from ≡ Some (Mark sign.Close p) → Reads Arguments 0 tokens from ([], false) (from + 1)
  arguments_none p is =
      let the_no_item = no_item sign.Close (inl refl) in
      let the_closing_rank = closing_rank sign.Close (inl refl) in
      let the_closing_apart = closing_apart sign.Close (inl refl) in
      choose_close Expression (Mark sign.Close) 7 (omega arith) the_closing_rank the_closing_apart the_no_item Arguments 0 tokens from from [] false (maybe_begin Expression (Mark sign.Close) 7 (omega arith) the_closing_rank the_closing_apart the_no_item 0 tokens from h) p ([], false) refl is

  some_stage : ((p : Place) → slice_get tokens from ≡ Some (Mark sign.Close p) → ⊥) → Stage Arguments 0 tokens from from (Closed (Listed Expression) (Mark sign.Close))
  some_stage never =
      change Arguments 0 tokens from from Arguments (Closed (Listed Expression) (Mark sign.Close))
      (λ r ys w stop near k. record { place = k.place; list = by r ys (Mark sign.Close k.place ∷ w) k.list k.place w refl near })
      (λ r ys w k. record { place = k.place; list = something k.list })
      (begin Arguments 0 tokens from h)
    where
      by : (r : List ExprShape × Bool) (ys us : List Lexeme) → MaybeListed Expression r ys us → (p : Place) (w : List Lexeme) → us ≡ Mark sign.Close p ∷ w → Near ys (drop from tokens) → Listed Expression r ys us
      by r ys us nothing p w e near = absurd (never p (near_get tokens from (Mark sign.Close p) w (subst (λ x. Near x (drop from tokens)) e near)))
      by r ys us (something g) p w e near = g

  pub arguments_reads : ((p : Place) → slice_get tokens from ≡ Some (Mark sign.Close p) → ⊥) → (r : List ExprShape × Bool) (to : ℕ) → Reads (Closed (Listed Expression) (Mark sign.Close)) 0 tokens from r to → Reads Arguments 0 tokens from r to
  arguments_reads never r to x = then_reads Arguments (Closed (Listed Expression) (Mark sign.Close)) 0 tokens from from to (some_stage never) r x

  pub arguments_fails : ((p : Place) → slice_get tokens from ≡ Some (Mark sign.Close p) → ⊥) → (to : ℕ) → Fails (Closed (Listed Expression) (Mark sign.Close)) 0 tokens from to → Fails Arguments 0 tokens from to
  arguments_fails never to x = then_fails Arguments (Closed (Listed Expression) (Mark sign.Close)) 0 tokens from from to (some_stage never) x

-- a name or a left side in parentheses
abbrev LeftAt : Lexeme → ExprShape → List Lexeme → List Lexeme → Type 0
LeftAt (Word text p) = Ends (named p text)
LeftAt (Mark sign.Open p) = After LeftSide (λ e. Closer (Mark sign.Close) (paren p e))
LeftAt _ = λ r us w. ⊥

left_there : (r : ExprShape) (ts w : List Lexeme) → LeftFirst r ts w → Headed LeftAt r ts w
left_there r ts w (first_name p text) = record { first = Word text p; others = w; split = refl; at = record { same = refl; left = refl } }
left_there r ts w (first_parens {e = e} p q {ts = us} g) = record { first = Mark sign.Open p; others = us; split = refl; at = record { part = e; others = Mark sign.Close q ∷ w; phrase = g; rest = record { place = q; split = refl; same = refl } } }

left_by : (t : Lexeme) (r : ExprShape) (us w : List Lexeme) → LeftAt t r us w → LeftFirst r (t ∷ us) w
left_by (Word text p) r us w a = subst (λ x. LeftFirst x (Word text p ∷ us) w) (sym a.same) (subst (λ x. LeftFirst (named p text) (Word text p ∷ us) x) a.left (first_name p text))
left_by (Mark sign.Open p) r us w a = subst (λ x. LeftFirst x (Mark sign.Open p ∷ us) w) (sym a.rest.same) (first_parens p a.rest.place (subst (λ x. LeftSide a.part us x) a.rest.split a.phrase))
left_by _ r us w a = absurd a

module _ (tokens : List Lexeme) (from : ℕ) (h : from ≤ length tokens) where
  left_begin : Stage LeftFirst 1 tokens from from (Headed LeftAt)
  left_begin = change LeftFirst 1 tokens from from LeftFirst (Headed LeftAt) (λ r ys w stop near g. left_there r ys w g) (λ r ys w k. subst (λ x. LeftFirst r x w) (sym k.split) (left_by k.first r k.others w k.at)) (begin LeftFirst 1 tokens from h)

  left_at : (t : Lexeme) → slice_get tokens from ≡ Some t → Stage LeftFirst 1 tokens from (from + 1) (LeftAt t)
  left_at t is =
      take_head LeftFirst 1 tokens from from LeftAt (λ r ys w. ⊥) t is (λ r zs w stop d. d)
      (change LeftFirst 1 tokens from from (Headed LeftAt) (λ r ys w. Headed LeftAt r ys w ⊎ ⊥) (λ r ys w stop near k. inl k) (λ r ys w c. elim c [ inl k ↦ k | inr d ↦ absurd d ]) left_begin)

  pub left_name_reads : (text : List ℕ) (p : Place) → slice_get tokens from ≡ Some (Word text p) → Reads LeftFirst 1 tokens from (named p text) (from + 1)
  left_name_reads text p is = finish_ends LeftFirst 1 tokens from (from + 1) (named p text) (named p text) refl (left_at (Word text p) is)

  pub left_stuck : ((text : List ℕ) (p : Place) → slice_get tokens from ≡ Some (Word text p) → ⊥) → ((p : Place) → slice_get tokens from ≡ Some (Mark sign.Open p) → ⊥) → Fails LeftFirst 1 tokens from from
  left_stuck no_word no_open =
      stuck LeftFirst 1 tokens from from (Headed LeftAt)
      (record { tree = named some_place []; more = Word [] some_place ∷ []; closed = λ w. record { first = Word [] some_place; others = w; split = refl; at = record { same = refl; left = refl } } })
      (λ r ys w stop k near. by k.first r k.others w (near_get tokens from k.first k.others (subst (λ x. Near x (drop from tokens)) k.split near)) k.at) left_begin
    where
      by : (t : Lexeme) (r : ExprShape) (us w : List Lexeme) → slice_get tokens from ≡ Some t → LeftAt t r us w → ⊥
      by (Word text p) r us w is a = no_word text p is
      by (Mark sign.Open p) r us w is a = no_open p is
      by _ r us w is a = a

  module _ (p : Place) (is : slice_get tokens from ≡ Some (Mark sign.Open p)) where
    left_stops : (b r : ExprShape) (zs w : List Lexeme) → 1 < rank w → Closer (Mark sign.Close) (paren p b) r zs w → 2 < rank zs
    left_stops b r zs w stop c = closer_stops (Mark sign.Close) (paren p b) 2 (λ q. omega arith) r zs w c

    pub left_paren_fails : (to : ℕ) → Fails LeftSide 2 tokens (from + 1) to → Fails LeftFirst 1 tokens from to
    left_paren_fails to f = phrase_fails LeftFirst 1 tokens from LeftSide 2 (λ e. Closer (Mark sign.Close) (paren p e)) left_stops (from + 1) to (λ b. closer_closes (Mark sign.Close) (paren p b)) (left_at (Mark sign.Open p) is) f

    module _ (e : ExprShape) (at : ℕ) (x : Reads LeftSide 2 tokens (from + 1) e at) where
      left_paren : Stage LeftFirst 1 tokens from at (Closer (Mark sign.Close) (paren p e))
      left_paren = phrase LeftFirst 1 tokens from LeftSide 2 (λ e. Closer (Mark sign.Close) (paren p e)) left_stops (from + 1) at e (left_at (Mark sign.Open p) is) x

      pub left_paren_reads : (q : Place) → slice_get tokens at ≡ Some (Mark sign.Close q) → Reads LeftFirst 1 tokens from (paren p e) (at + 1)
      left_paren_reads q closes = closer_reads (Mark sign.Close) (paren p e) LeftFirst 1 tokens from at left_paren q closes

      pub left_paren_open : ((q : Place) → slice_get tokens at ≡ Some (Mark sign.Close q) → ⊥) → Fails LeftFirst 1 tokens from at
      left_paren_open never = closer_stuck (Mark sign.Close) (paren p e) LeftFirst 1 tokens from at left_paren never
