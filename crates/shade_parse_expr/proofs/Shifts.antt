-- Shifts and comparisons, step by step.
use Rattle.std.proofs.Common.{◌≡◌, refl, sym, ap, ◌∙◌, subst, ℕ, ◌+◌, ◌<◌, ◌≤◌, true, None, Some, List, [], ◌∷◌, ◌++◌, length, drop, arith, slice_get}
use Rattle.shade_base.specs.declared.place.Place.{Place}
use Rattle.shade_ast.specs.declared.lexeme.Sign.TheVariants as sign
use Rattle.shade_ast.specs.declared.expr.Infix.{Infix as InfixOperator}
use Rattle.shade_ast.specs.declared.expr.Infix.TheVariants as between
use Rattle.shade_ast.specs.Lexemes.{Lexeme, Word, Mark, Adjacent}
use Rattle.shade_ast.specs.Shapes.{ExprShape, infixed, named, place_of}
use Rattle.shade_ast.specs.Expressions.{Additive, Relational, Shift, Unary}
use Rattle.shade_ast.specs.Reads.{Near, Reads, Fails, rank, rank_of}
use Rattle.shade_ast.proofs.Stages.{Stage, Closes, near_append, near_get, one_token, begin, change, consume, consume_then, phrase, phrase_fails, finish, finish_ends, ends_stops, stuck, closes_end}
use Rattle.shade_ast.specs.Chains.{After, Then, Ends}
use Rattle.shade_ast.proofs.Firsts.{First, BeginsExpr, shift_first}
use Rattle.shade_ast.proofs.Placed.{some_place}
use Rattle.shade_cursor.specs.Operators.{found, relation_of, Behind, ComparisonAt, one_token as one_sign, two_tokens, ShiftAt, to_left, to_right}
use Rattle.shade_parse_expr.specs.Rests.{is_bare, Comparison, plain, greater_equal, Compared, not_compared, compared, Shifting, leftwards, rightwards, Shifted, not_shifted, shifted}
use Rattle.shade_cursor.proofs.Tokens.{pair, op_one, Told, told, untold}
use Rattle.shade_parse_expr.proofs.Layers.{shift_there, shift_back, comparison_there, comparison_back}
use Rattle.shade_parse_expr.proofs.Ranks.{after_place, compared_stops, shifted_stops, relation_rank, some_unary, some_shift, take_left, take_right}
use Rattle.shade_parse_expr.proofs.Chains.{then_reads, then_fails, then_reads_by, then_fails_by}

-- the token that stands first in what is near
near_first : (tokens : List Lexeme) (at : ℕ) (t : Lexeme) (ys zs : List Lexeme) → ys ≡ t ∷ zs → Near ys (drop at tokens) → slice_get tokens at ≡ Some t
near_first tokens at t ys zs e near = near_get tokens at t zs (subst (λ x. Near x (drop at tokens)) e near)

one_mark : (tokens : List Lexeme) (at : ℕ) (t u : Lexeme) → slice_get tokens at ≡ Some t → slice_get tokens at ≡ Some u → t ≡ u
one_mark tokens at t u a b = let both : Some t ≡ Some u = sym a ∙ b in cc

-- no right side begins with a token that begins no expression
no_shift : (tokens : List Lexeme) (at : ℕ) (t : Lexeme) → (BeginsExpr t → ⊥) → slice_get tokens at ≡ Some t → (b : ExprShape) (zs w : List Lexeme) → Shift b zs w → Near zs (drop at tokens) → ⊥
no_shift tokens at t never is b zs w g near =
    let f : First BeginsExpr zs = shift_first b zs w g in
    let same : f.first ≡ t = one_mark tokens at f.first t (near_first tokens at f.first zs f.others f.split near) is in
    never (subst BeginsExpr same f.fits)

greater_pair : (q : Place) (i : InfixOperator) (p : Place) → relation_of (Mark sign.Greater q) ≡ Some (i, p) → pair between.Greater q ≡ pair i p
greater_pair q i p e = op_one between.Greater i q p e

module _ (l : ExprShape) (tokens : List Lexeme) (at : ℕ) where
  module _ (i : InfixOperator) (p : Place) where
    abbrev Right : ExprShape → List Lexeme → List Lexeme → Type 0
    Right = After Shift (λ b. Ends (infixed (place_of l) l i p b))

    plain_there : (t : Lexeme) → relation_of t ≡ Some (i, p) → (i ≡ between.Greater → Behind tokens (at + 1) sign.Equal p → ⊥) → (r : ExprShape) (zs w : List Lexeme) → 6 < rank w → Near zs (drop (at + 1) tokens) → Compared l r (t ∷ zs) w → Right r zs w
    plain_there t tells never r zs w stop near c = by r (t ∷ zs) w stop c refl
      where
        operator : (j : InfixOperator) (q : Place) (ys vs : List Lexeme) → Comparison j q ys vs → ys ≡ t ∷ zs → (pair j q ≡ pair i p) × (vs ≡ zs)
        operator j q ys vs (plain u is) e =
            let same : u ≡ t = cc in
            let rest : vs ≡ zs = cc in
            (op_one j i q p (sym is ∙ ap relation_of same ∙ tells), rest)
        operator j q ys vs (greater_equal q2 r2 n) e =
            let same : t ≡ Mark sign.Greater q2 = cc in
            let rest : zs ≡ Mark sign.Equal r2 ∷ vs = cc in
            let both : pair between.Greater q2 ≡ pair i p = greater_pair q2 i p (ap relation_of (sym same) ∙ tells) in
            let place : q2 ≡ p = ap (λ x. x.1) both in
            absurd (never (sym (ap (λ x. x.0) both)) (r2, near_first tokens (at + 1) (Mark sign.Equal r2) zs vs rest near, subst (λ x. Adjacent x r2) place n))

        by : (r : ExprShape) (ys w : List Lexeme) → 6 < rank w → Compared l r ys w → ys ≡ t ∷ zs → Right r zs w
        by r ys w stop not_compared e = absurd (let a : rank ys ≡ rank_of t = ap rank e in let b : rank_of t ≡ 6 = relation_rank t i p tells in omega arith)
        by r ys w stop (compared {i = j} {p = q} {b = b} {us = vs} o h) e =
            let c : (pair j q ≡ pair i p) × (vs ≡ zs) = operator j q ys vs o e in
            record { part = b; others = w; phrase = subst (λ x. Shift b x w) c.1 h; rest = record { same = ap (λ x. infixed (place_of l) l x.0 x.1 b) c.0; left = refl } }

    plain_stage : (t : Lexeme) → relation_of t ≡ Some (i, p) → (i ≡ between.Greater → Behind tokens (at + 1) sign.Equal p → ⊥) → slice_get tokens at ≡ Some t → at ≤ length tokens → Stage (Compared l) 6 tokens at (at + 1) Right
    plain_stage t tells never is h =
        change (Compared l) 6 tokens at (at + 1) (λ r zs w. Compared l r (t ∷ zs) w) Right
        (λ r zs w stop near c. plain_there t tells never r zs w stop near c)
        (λ r zs w a. subst (λ x. Compared l x (t ∷ zs) w) (sym a.rest.same) (subst (λ x. Compared l (infixed (place_of l) l i p a.part) (t ∷ zs) x) a.rest.left (compared (plain t tells) a.phrase)))
        (consume (Compared l) 6 tokens at at (Compared l) t is (begin (Compared l) 6 tokens at h))

  module _ (p q : Place) (second : slice_get tokens (at + 1) ≡ Some (Mark sign.Equal q)) where
    equal_there : (r : ExprShape) (zs w : List Lexeme) → 6 < rank w → Near zs (drop (at + 1) tokens) → Compared l r (Mark sign.Greater p ∷ zs) w → Then (Mark sign.Equal q) (Right between.GreaterEqual p) r zs w
    equal_there r zs w stop near c = by r (Mark sign.Greater p ∷ zs) w stop c refl
      where
        operator : (j : InfixOperator) (q2 : Place) (ys vs us : List Lexeme) (b : ExprShape) → Comparison j q2 ys vs → Shift b vs us → ys ≡ Mark sign.Greater p ∷ zs → (pair j q2 ≡ pair between.GreaterEqual p) × (zs ≡ Mark sign.Equal q ∷ vs)
        operator j q2 ys vs us b (plain u is) h e = let rest : vs ≡ zs = cc in absurd (no_shift tokens (at + 1) (Mark sign.Equal q) (λ x. x) second b vs us h (subst (λ x. Near x (drop (at + 1) tokens)) (sym rest) near))
        operator j q2 ys vs us b (greater_equal q3 r2 n) h e =
            let place : q3 ≡ p = cc in
            let rest : zs ≡ Mark sign.Equal r2 ∷ vs = cc in
            let one : Mark sign.Equal r2 ≡ Mark sign.Equal q = one_mark tokens (at + 1) (Mark sign.Equal r2) (Mark sign.Equal q) (near_first tokens (at + 1) (Mark sign.Equal r2) zs vs rest near) second in
            (ap (pair between.GreaterEqual) place, rest ∙ ap (λ x. x ∷ vs) one)

        by : (r : ExprShape) (ys w : List Lexeme) → 6 < rank w → Compared l r ys w → ys ≡ Mark sign.Greater p ∷ zs → Then (Mark sign.Equal q) (Right between.GreaterEqual p) r zs w
        by r ys w stop not_compared e = absurd (let a : rank ys ≡ 6 = ap rank e in omega arith)
        by r ys w stop (compared {i = j} {p = q2} {b = b} {us = vs} o h) e =
            let c : (pair j q2 ≡ pair between.GreaterEqual p) × (zs ≡ Mark sign.Equal q ∷ vs) = operator j q2 ys vs w b o h e in
            record { others = vs; split = c.1; rest = record { part = b; others = w; phrase = h; rest = record { same = ap (λ x. infixed (place_of l) l x.0 x.1 b) c.0; left = refl } } }

    equal_stage : Adjacent p q → slice_get tokens at ≡ Some (Mark sign.Greater p) → at ≤ length tokens → Stage (Compared l) 6 tokens at (at + 1 + 1) (Right between.GreaterEqual p)
    equal_stage n is h =
        consume_then (Compared l) 6 tokens at (at + 1) (Mark sign.Equal q) (Right between.GreaterEqual p) second
        (change (Compared l) 6 tokens at (at + 1) (λ r zs w. Compared l r (Mark sign.Greater p ∷ zs) w) (Then (Mark sign.Equal q) (Right between.GreaterEqual p))
        (λ r zs w stop near c. equal_there r zs w stop near c)
        (λ r zs w t.
        subst (λ x. Compared l r (Mark sign.Greater p ∷ x) w) (sym t.split)
        (subst (λ x. Compared l x (Mark sign.Greater p ∷ (Mark sign.Equal q ∷ t.others)) w) (sym t.rest.rest.same)
        (subst (λ x. Compared l (infixed (place_of l) l between.GreaterEqual p t.rest.part) (Mark sign.Greater p ∷ (Mark sign.Equal q ∷ t.others)) x) t.rest.rest.left
        (compared (greater_equal p q n) t.rest.phrase))))
        (consume (Compared l) 6 tokens at at (Compared l) (Mark sign.Greater p) is (begin (Compared l) 6 tokens at h)))

  compared_stage : (i : InfixOperator) (p : Place) (next : ℕ) → ComparisonAt tokens at i p next → at ≤ length tokens → Stage (Compared l) 6 tokens at next (Right i p)
  compared_stage i p next (one_sign e never) h = let t : Told relation_of (slice_get tokens at) (i, p) = told relation_of (slice_get tokens at) (i, p) (sym e) in plain_stage i p t.token t.tells never t.stands h
  compared_stage i p next (two_tokens is behind) h = let two : at + 1 + 1 ≡ at + 2 = omega arith in subst (λ k. Stage (Compared l) 6 tokens at k (Right between.GreaterEqual p)) two (equal_stage p behind.0 behind.1 behind.2 is h)

  pub compared_reads : (i : InfixOperator) (p : Place) (next : ℕ) → ComparisonAt tokens at i p next → at ≤ length tokens → (b : ExprShape) (to : ℕ) → Reads Shift 6 tokens next b to → Reads (Compared l) 6 tokens at (infixed (place_of l) l i p b) to
  compared_reads i p next o h b to r =
      finish_ends (Compared l) 6 tokens at to (infixed (place_of l) l i p b) (infixed (place_of l) l i p b) refl
      (phrase (Compared l) 6 tokens at Shift 6 (λ b. Ends (infixed (place_of l) l i p b)) (λ b q zs w. ends_stops 6 6 (infixed (place_of l) l i p b) q zs w (omega arith)) next to b (compared_stage i p next o h) r)

  pub compared_fails : (i : InfixOperator) (p : Place) (next : ℕ) → ComparisonAt tokens at i p next → at ≤ length tokens → (to : ℕ) → Fails Shift 6 tokens next to → Fails (Compared l) 6 tokens at to
  compared_fails i p next o h to f = phrase_fails (Compared l) 6 tokens at Shift 6 (λ b. Ends (infixed (place_of l) l i p b)) (λ b q zs w. ends_stops 6 6 (infixed (place_of l) l i p b) q zs w (omega arith)) next to (λ b. closes_end (infixed (place_of l) l i p b)) (compared_stage i p next o h) f

  pub compared_none : found relation_of (slice_get tokens at) ≡ None → at ≤ length tokens → Reads (Compared l) 6 tokens at l at
  compared_none none h = finish (Compared l) 6 tokens at at (Compared l) l (λ w. not_compared) (λ r ys w stop c near. by r ys w c near) (begin (Compared l) 6 tokens at h)
    where
      operator : (j : InfixOperator) (q : Place) (ys vs : List Lexeme) → Comparison j q ys vs → Near ys (drop at tokens) → ⊥
      operator j q ys vs (plain t is) near = let bad : Some (pair j q) ≡ None = sym is ∙ untold relation_of (slice_get tokens at) t (sym none) (near_first tokens at t ys vs refl near) in cc
      operator j q ys vs (greater_equal q2 r2 n) near = let bad : Some (pair between.Greater q2) ≡ None = untold relation_of (slice_get tokens at) (Mark sign.Greater q2) (sym none) (near_first tokens at (Mark sign.Greater q2) ys (Mark sign.Equal r2 ∷ vs) refl near) in cc

      by : (r : ExprShape) (ys w : List Lexeme) → Compared l r ys w → Near ys (drop at tokens) → (r ≡ l) × (ys ≡ w)
      by r ys w not_compared near = (refl, refl)
      by r ys w (compared {i = j} {p = q} {us = vs} o h) near = absurd (operator j q ys vs o near)

-- where a `>` stands, something is read or missed
module _ (l : ExprShape) (tokens : List Lexeme) (at : ℕ) (p : Place) (is : slice_get tokens at ≡ Some (Mark sign.Greater p)) where
  closed : (w : List Lexeme) → Compared l (infixed (place_of l) l between.Greater p (named some_place [])) (Mark sign.Greater p ∷ (Word [] some_place ∷ w)) w
  closed w = compared (plain (Mark sign.Greater p) refl) (some_shift w)

  near_greater : (to : ℕ) (us : List Lexeme) → us ≡ [] → drop at tokens ≡ us ++ drop to tokens → Near (Mark sign.Greater p ∷ (Word [] some_place ∷ [])) (drop to tokens)
  near_greater to us empty spelled = subst (λ x. Near (Mark sign.Greater p ∷ (Word [] some_place ∷ [])) x) (sym (one_token tokens at (Mark sign.Greater p) is) ∙ spelled ∙ ap (λ x. x ++ drop to tokens) empty) refl

  reads_some : (r : ExprShape) (to : ℕ) (x : Reads (Compared l) 6 tokens at r to) → x.us ≡ [] → ⊥
  reads_some r to x empty =
      let o : (infixed (place_of l) l between.Greater p (named some_place []) ≡ r) × (Mark sign.Greater p ∷ (Word [] some_place ∷ []) ≡ []) = x.only (infixed (place_of l) l between.Greater p (named some_place [])) (Mark sign.Greater p ∷ (Word [] some_place ∷ [])) [] (subst (λ y. Compared l (infixed (place_of l) l between.Greater p (named some_place [])) (y ++ Mark sign.Greater p ∷ (Word [] some_place ∷ [])) []) (sym empty) (closed [])) (omega arith) (near_greater to x.us empty x.spelled) in
      let bad : Mark sign.Greater p ∷ (Word [] some_place ∷ []) ≡ [] = o.1 in
      cc

  fails_some : (to : ℕ) (x : Fails (Compared l) 6 tokens at to) → x.us ≡ [] → ⊥
  fails_some to x empty =
      let rest = Word [] some_place ∷ [] in
      let the_infixed = infixed (place_of l) l between.Greater p (named some_place []) in
      x.none the_infixed (Mark sign.Greater p ∷ rest) [] (subst (λ y. Compared l the_infixed (y ++ Mark sign.Greater p ∷ rest) []) (sym empty) (closed [])) (omega arith) (near_greater to x.us empty x.spelled)

-- no shift stands here
abbrev pub NoShift : List Lexeme → ℕ → ExprShape → Type 0
NoShift tokens at l = (i : InfixOperator) (p : Place) (next : ℕ) → ShiftAt tokens at (is_bare l) i p next → ⊥

module _ (tokens : List Lexeme) (at : ℕ) (l : ExprShape) (none : NoShift tokens at l) (to : ℕ) (us : List Lexeme) (spelled : drop at tokens ≡ us ++ drop to tokens) (some : (p : Place) → slice_get tokens at ≡ Some (Mark sign.Greater p) → us ≡ [] → ⊥) where
  near_all : (ys : List Lexeme) → Near ys (drop to tokens) → Near (us ++ ys) (drop at tokens)
  near_all ys near = subst (Near (us ++ ys)) (sym spelled) (near_append us ys (drop to tokens) near)

  second_near : (p : Place) → slice_get tokens at ≡ Some (Mark sign.Greater p) → (xs ys zs : List Lexeme) → us ≡ xs → Near ys (drop to tokens) → xs ++ ys ≡ Mark sign.Greater p ∷ zs → Near zs (drop (at + 1) tokens)
  second_near p is [] ys zs e near split = absurd (some p is e)
  second_near p is (x ∷ xs) ys zs e near split =
      let rest : xs ++ ys ≡ zs = cc in
      let all : drop at tokens ≡ x ∷ (xs ++ drop to tokens) = spelled ∙ ap (λ y. y ++ drop to tokens) e in
      let one : drop at tokens ≡ Mark sign.Greater p ∷ drop (at + 1) tokens = one_token tokens at (Mark sign.Greater p) is in
      let tail : drop (at + 1) tokens ≡ xs ++ drop to tokens = (let both : Mark sign.Greater p ∷ drop (at + 1) tokens ≡ x ∷ (xs ++ drop to tokens) = sym one ∙ all in cc) in
      subst (λ y. Near y (drop (at + 1) tokens)) rest (subst (Near (xs ++ ys)) (sym tail) (near_append xs ys (drop to tokens) near))

  no_operator : (i : InfixOperator) (p : Place) (ts vs ys : List Lexeme) → is_bare l ≡ true → Shifting i p ts vs → us ++ ys ≡ ts → Near ys (drop to tokens) → ⊥
  no_operator i p ts vs ys bare (leftwards q) e near = none between.ShiftLeft q (at + 1) (to_left bare (near_first tokens at (Mark sign.ShiftLeft q) (us ++ ys) vs e (near_all ys near)))
  no_operator i p ts vs ys bare (rightwards q r n) e near =
      let is : slice_get tokens at ≡ Some (Mark sign.Greater q) = near_first tokens at (Mark sign.Greater q) (us ++ ys) (Mark sign.Greater r ∷ vs) e (near_all ys near) in
      none between.ShiftRight q (at + 2) (to_right bare is (r, near_first tokens (at + 1) (Mark sign.Greater r) (Mark sign.Greater r ∷ vs) vs refl (second_near q is us ys (Mark sign.Greater r ∷ vs) refl near e), n))

  unshifted : (q : ExprShape) (ys w : List Lexeme) → Near ys (drop to tokens) → After (Shifted l) Compared q (us ++ ys) w → Compared l q (us ++ ys) w
  unshifted q ys w near a = by a.part (us ++ ys) a.others a.phrase refl a.rest
    where
      by : (m : ExprShape) (ts vs : List Lexeme) → Shifted l m ts vs → us ++ ys ≡ ts → Compared m q vs w → Compared l q (us ++ ys) w
      by m ts vs not_shifted e c = subst (λ x. Compared l q x w) (sym e) c
      by m ts vs (shifted {i = i} {p = p} {us = zs} bare o h) e c = absurd (no_operator i p ts zs ys bare o e near)

module _ (tokens : List Lexeme) (from : ℕ) (h : from ≤ length tokens) where
  abbrev Rest : ExprShape → ExprShape → List Lexeme → List Lexeme → Type 0
  Rest l = After (Shifted l) Compared

  relation_stops : (l r : ExprShape) (zs w : List Lexeme) → 6 < rank w → Rest l r zs w → 4 < rank zs
  relation_stops l r zs w stop a = shifted_stops l a.part zs a.others (let c : 5 < rank a.others = compared_stops a.part r a.others w stop a.rest in omega arith) a.phrase

  relation_begin : Stage Relational 6 tokens from from (After Additive Rest)
  relation_begin = change Relational 6 tokens from from Relational (After Additive Rest) (λ r ys w stop near g. comparison_there r ys w g) comparison_back (begin Relational 6 tokens from h)

  rest_closes : (l : ExprShape) → Closes (Rest l)
  rest_closes l = record { tree = l; more = []; closed = λ w. record { part = l; others = w; phrase = not_shifted; rest = not_compared } }

  pub relation_first_fails : (to : ℕ) → Fails Additive 4 tokens from to → Fails Relational 6 tokens from to
  relation_first_fails to f = phrase_fails Relational 6 tokens from Additive 4 Rest relation_stops from to rest_closes relation_begin f

  module _ (l : ExprShape) (at : ℕ) (r : Reads Additive 4 tokens from l at) where
    relation_stage : Stage Relational 6 tokens from at (Rest l)
    relation_stage = phrase Relational 6 tokens from Additive 4 Rest relation_stops from at l relation_begin r

    here : (q : ExprShape) (ys w : List Lexeme) → Compared l q ys w → Rest l q ys w
    here q ys w c = record { part = l; others = ys; phrase = not_shifted; rest = c }

    pub relation_reads : NoShift tokens at l → (e : ExprShape) (to : ℕ) → Reads (Compared l) 6 tokens at e to → Reads Relational 6 tokens from e to
    relation_reads none e to x = then_reads_by Relational (Rest l) (Compared l) 6 tokens from at to here relation_stage e x (λ q ys w stop near a. unshifted tokens at l none to x.us x.spelled (λ p is empty. reads_some l tokens at p is e to x empty) q ys w near a)

    pub relation_fails : NoShift tokens at l → (to : ℕ) → Fails (Compared l) 6 tokens at to → Fails Relational 6 tokens from to
    relation_fails none to x = then_fails_by Relational (Rest l) (Compared l) 6 tokens from at to here relation_stage x (λ q ys w stop near a. unshifted tokens at l none to x.us x.spelled (λ p is empty. fails_some l tokens at p is to x empty) q ys w near a)

    never : (p q : Place) → slice_get tokens (at + 1) ≡ Some (Mark sign.Greater q) → (m s : ExprShape) (zs w : List Lexeme) → 6 < rank w → Compared m s (Mark sign.Greater p ∷ zs) w → Near zs (drop (at + 1) tokens) → ⊥
    never p q second m s zs w stop c near = by s (Mark sign.Greater p ∷ zs) w stop c refl
      where
        operator : (j : InfixOperator) (q2 : Place) (ys vs us : List Lexeme) (b : ExprShape) → Comparison j q2 ys vs → Shift b vs us → ys ≡ Mark sign.Greater p ∷ zs → ⊥
        operator j q2 ys vs us b (plain u is) g e = let rest : vs ≡ zs = cc in no_shift tokens (at + 1) (Mark sign.Greater q) (λ x. x) second b vs us g (subst (λ x. Near x (drop (at + 1) tokens)) (sym rest) near)
        operator j q2 ys vs us b (greater_equal q3 r2 n) g e =
            let rest : zs ≡ Mark sign.Equal r2 ∷ vs = cc in
            let one : Mark sign.Equal r2 ≡ Mark sign.Greater q = one_mark tokens (at + 1) (Mark sign.Equal r2) (Mark sign.Greater q) (near_first tokens (at + 1) (Mark sign.Equal r2) zs vs rest near) second in
            cc

        by : (s : ExprShape) (ys w : List Lexeme) → 6 < rank w → Compared m s ys w → ys ≡ Mark sign.Greater p ∷ zs → ⊥
        by s ys w stop not_compared e = let a : rank ys ≡ 6 = ap rank e in omega arith
        by s ys w stop (compared {i = j} {p = q2} {b = b} {us = vs} o g) e = operator j q2 ys vs w b o g e

    relation_shifted : (i : InfixOperator) (p : Place) (next : ℕ) → ShiftAt tokens at (is_bare l) i p next → Stage Relational 6 tokens from next (After Unary (λ b. Compared (infixed (place_of l) l i p b)))
    relation_shifted i p next (to_left bare is) = take_left Compared Relational tokens from at l relation_stage compared_stops p bare is
    relation_shifted i p next (to_right bare is behind) =
        let two : at + 1 + 1 ≡ at + 2 = omega arith in
        subst (λ k. Stage Relational 6 tokens from k (After Unary (λ b. Compared (infixed (place_of l) l between.ShiftRight p b)))) two (take_right Compared Relational tokens from at l relation_stage compared_stops p behind.0 behind.1 (never p behind.0 behind.1) bare behind.2 is)

    operand_stops : (i : InfixOperator) (p : Place) (b r : ExprShape) (zs w : List Lexeme) → 6 < rank w → Compared (infixed (place_of l) l i p b) r zs w → 2 < rank zs
    operand_stops i p b r zs w stop c = let k : 5 < rank zs = compared_stops (infixed (place_of l) l i p b) r zs w stop c in omega arith

    module _ (i : InfixOperator) (p : Place) (next : ℕ) (o : ShiftAt tokens at (is_bare l) i p next) (to : ℕ) where
      pub relation_operand_fails : Fails Unary 2 tokens next to → Fails Relational 6 tokens from to
      relation_operand_fails f = phrase_fails Relational 6 tokens from Unary 2 (λ b. Compared (infixed (place_of l) l i p b)) (operand_stops i p) next to (λ b. record { tree = infixed (place_of l) l i p b; more = []; closed = λ w. not_compared }) (relation_shifted i p next o) f

      module _ (b : ExprShape) (x : Reads Unary 2 tokens next b to) (end : ℕ) where
        relation_behind : Stage Relational 6 tokens from to (Compared (infixed (place_of l) l i p b))
        relation_behind = phrase Relational 6 tokens from Unary 2 (λ b. Compared (infixed (place_of l) l i p b)) (operand_stops i p) next to b (relation_shifted i p next o) x

        pub relation_shift_reads : (e : ExprShape) → Reads (Compared (infixed (place_of l) l i p b)) 6 tokens to e end → Reads Relational 6 tokens from e end
        relation_shift_reads e y = then_reads Relational (Compared (infixed (place_of l) l i p b)) 6 tokens from to end relation_behind e y

        pub relation_shift_fails : Fails (Compared (infixed (place_of l) l i p b)) 6 tokens to end → Fails Relational 6 tokens from end
        relation_shift_fails y = then_fails Relational (Compared (infixed (place_of l) l i p b)) 6 tokens from to end relation_behind y

-- the right side of a comparison
module _ (tokens : List Lexeme) (from : ℕ) (h : from ≤ length tokens) where
  shift_begin : Stage Shift 6 tokens from from (After Additive Shifted)
  shift_begin = change Shift 6 tokens from from Shift (After Additive Shifted) (λ r ys w stop near g. shift_there r ys w g) shift_back (begin Shift 6 tokens from h)

  shift_stops : (l r : ExprShape) (zs w : List Lexeme) → 6 < rank w → Shifted l r zs w → 4 < rank zs
  shift_stops l r zs w stop a = shifted_stops l r zs w (omega arith) a

  pub shift_first_fails : (to : ℕ) → Fails Additive 4 tokens from to → Fails Shift 6 tokens from to
  shift_first_fails to f = phrase_fails Shift 6 tokens from Additive 4 Shifted shift_stops from to (λ l. record { tree = l; more = []; closed = λ w. not_shifted }) shift_begin f

  module _ (l : ExprShape) (at : ℕ) (r : Reads Additive 4 tokens from l at) where
    shift_stage : Stage Shift 6 tokens from at (Shifted l)
    shift_stage = phrase Shift 6 tokens from Additive 4 Shifted shift_stops from at l shift_begin r

    ended : Stage Shift 6 tokens from at (After (Shifted l) (λ b. Ends b))
    ended =
        change Shift 6 tokens from at (Shifted l) (After (Shifted l) (λ b. Ends b))
        (λ r ys w stop near c. record { part = r; others = w; phrase = c; rest = record { same = refl; left = refl } })
        (λ r ys w a. subst (λ x. Shifted l x ys w) (sym a.rest.same) (subst (λ x. Shifted l a.part ys x) a.rest.left a.phrase))
        shift_stage

    -- what a shift's operator stands before
    shift_case : (ok : (p : Place) (zs : List Lexeme) → is_bare l ≡ true → slice_get tokens at ≡ Some (Mark sign.Greater p) → ⊥) → NoShift tokens at l → (q : ExprShape) (ys w : List Lexeme) → Shifted l q ys w → Near ys (drop at tokens) → (q ≡ l) × (ys ≡ w)
    shift_case ok none q ys w not_shifted near = (refl, refl)
    shift_case ok none q ys w (shifted {i = i} {p = p} {us = zs} bare o g) near = absurd (operator i p ys zs o near)
      where
        operator : (i : InfixOperator) (p : Place) (ys vs : List Lexeme) → Shifting i p ys vs → Near ys (drop at tokens) → ⊥
        operator i p ys vs (leftwards p2) near = none between.ShiftLeft p2 (at + 1) (to_left bare (near_first tokens at (Mark sign.ShiftLeft p2) ys vs refl near))
        operator i p ys vs (rightwards p2 r2 n) near = ok p2 vs bare (near_first tokens at (Mark sign.Greater p2) ys (Mark sign.Greater r2 ∷ vs) refl near)

    pub shift_alone : ((p : Place) → is_bare l ≡ true → slice_get tokens at ≡ Some (Mark sign.Greater p) → ⊥) → NoShift tokens at l → Reads Shift 6 tokens from l at
    shift_alone ok none = finish Shift 6 tokens from at (Shifted l) l (λ w. not_shifted) (λ q ys w stop c near. shift_case (λ p zs bare is. ok p bare is) none q ys w c near) shift_stage

    -- a `>` that no other follows directly
    pub shift_stuck : (p : Place) → is_bare l ≡ true → slice_get tokens at ≡ Some (Mark sign.Greater p) → NoShift tokens at l → Fails Shift 6 tokens from (at + 1)
    shift_stuck p bare is none =
        stuck Shift 6 tokens from (at + 1) (λ r zs w. Shifted l r (Mark sign.Greater p ∷ zs) w)
        (record { tree = infixed (place_of l) l between.ShiftRight p (named some_place []); more = Mark sign.Greater (after_place p) ∷ (Word [] some_place ∷ []); closed = λ w. shifted bare (rightwards p (after_place p) refl) (some_unary w) })
        (λ q ys w stop c near. by q (Mark sign.Greater p ∷ ys) w ys stop c refl near)
        (consume Shift 6 tokens from at (Shifted l) (Mark sign.Greater p) is shift_stage)
      where
        operator : (i : InfixOperator) (p2 : Place) (ts vs ys : List Lexeme) → Shifting i p2 ts vs → ts ≡ Mark sign.Greater p ∷ ys → Near ys (drop (at + 1) tokens) → ⊥
        operator i p2 ts vs ys (leftwards q2) e near = let bad : Mark sign.ShiftLeft q2 ≡ Mark sign.Greater p = cc in cc
        operator i p2 ts vs ys (rightwards q2 r2 n) e near =
            let rest : ys ≡ Mark sign.Greater r2 ∷ vs = cc in
            let place : q2 ≡ p = cc in
            none between.ShiftRight p (at + 2) (to_right bare is (r2, near_first tokens (at + 1) (Mark sign.Greater r2) ys vs rest near, subst (λ x. Adjacent x r2) place n))

        by : (q : ExprShape) (ts w ys : List Lexeme) → 6 < rank w → Shifted l q ts w → ts ≡ Mark sign.Greater p ∷ ys → Near ys (drop (at + 1) tokens) → ⊥
        by q ts w ys stop not_shifted e near = let a : rank ts ≡ 6 = ap rank e in omega arith
        by q ts w ys stop (shifted {i = i} {p = p2} {us = zs} b o g) e near = operator i p2 ts zs ys o e near

    ends_rank : (m r : ExprShape) (ys w : List Lexeme) → 6 < rank w → Ends m r ys w → 5 < rank ys
    ends_rank m r ys w stop e = ends_stops 6 5 m r ys w (omega arith) stop e

    shift_taken : (i : InfixOperator) (p : Place) (next : ℕ) → ShiftAt tokens at (is_bare l) i p next → Stage Shift 6 tokens from next (After Unary (λ b. Ends (infixed (place_of l) l i p b)))
    shift_taken i p next (to_left bare is) = take_left (λ b. Ends b) Shift tokens from at l ended ends_rank p bare is
    shift_taken i p next (to_right bare is behind) =
        let two : at + 1 + 1 ≡ at + 2 = omega arith in
        subst (λ k. Stage Shift 6 tokens from k (After Unary (λ b. Ends (infixed (place_of l) l between.ShiftRight p b)))) two
        (take_right (λ b. Ends b) Shift tokens from at l ended ends_rank p behind.0 behind.1 (λ m s zs w stop e near. let a : 6 ≡ rank w = ap rank e.left in omega arith) bare behind.2 is)

    module _ (i : InfixOperator) (p : Place) (next : ℕ) (o : ShiftAt tokens at (is_bare l) i p next) (to : ℕ) where
      pub shift_operand_fails : Fails Unary 2 tokens next to → Fails Shift 6 tokens from to
      shift_operand_fails f = phrase_fails Shift 6 tokens from Unary 2 (λ b. Ends (infixed (place_of l) l i p b)) (λ b q zs w. ends_stops 6 2 (infixed (place_of l) l i p b) q zs w (omega arith)) next to (λ b. closes_end (infixed (place_of l) l i p b)) (shift_taken i p next o) f

      pub shift_reads : (b : ExprShape) → Reads Unary 2 tokens next b to → Reads Shift 6 tokens from (infixed (place_of l) l i p b) to
      shift_reads b x =
          finish_ends Shift 6 tokens from to (infixed (place_of l) l i p b) (infixed (place_of l) l i p b) refl
          (phrase Shift 6 tokens from Unary 2 (λ b. Ends (infixed (place_of l) l i p b)) (λ b q zs w. ends_stops 6 2 (infixed (place_of l) l i p b) q zs w (omega arith)) next to b (shift_taken i p next o) x)
