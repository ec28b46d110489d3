-- Where shifts and comparisons go on, and where they end.
use Rattle.std.proofs.Common.{◌≡◌, refl, sym, ap, ◌∙◌, subst, ℕ, ◌+◌, ◌<◌, true, None, Some, List, [], ◌∷◌, drop, arith, slice_get}
use Rattle.shade_base.specs.declared.place.Place.{Place}
use Rattle.shade_ast.specs.declared.lexeme.Sign.TheVariants as sign
use Rattle.shade_ast.specs.declared.expr.Infix.{Infix as InfixOperator}
use Rattle.shade_ast.specs.declared.expr.Infix.TheVariants as between
use Rattle.shade_ast.specs.Lexemes.{Lexeme, Word, Mark, Adjacent}
use Rattle.shade_ast.specs.Shapes.{ExprShape, infixed, named, place_of}
use Rattle.shade_ast.specs.Expressions.{multiplicative, unary, operand, primary, typed, plain_type, Shift, additive, Unary}
use Rattle.shade_ast.specs.Reads.{Near, rank, rank_of}
use Rattle.shade_ast.proofs.Stages.{Stage, near_get, change, consume, consume_then}
use Rattle.shade_ast.specs.Chains.{After, Then}
use Rattle.shade_ast.proofs.Placed.{some_place}
use Rattle.shade_cursor.specs.Operators.{relation_of}
use Rattle.shade_parse_expr.specs.Rests.{is_bare, Comparison, plain, greater_equal, Compared, not_compared, compared, Shifting, leftwards, rightwards, Shifted, not_shifted, shifted}
use Rattle.shade_cursor.proofs.Tokens.{pair}

-- a place directly behind a mark of one byte
abbrev pub after_place : Place → Place
after_place p = record { offset = p.offset + 1; line = p.line; column = p.column + 1 }

pub some_unary : (w : List Lexeme) → Unary (named some_place []) (Word [] some_place ∷ w) w
some_unary w = operand (primary (typed (plain_type some_place [])))

pub some_shift : (w : List Lexeme) → Shift (named some_place []) (Word [] some_place ∷ w) w
some_shift w = additive (multiplicative (unary (some_unary w)))

pub relation_rank : (t : Lexeme) (i : InfixOperator) (p : Place) → relation_of t ≡ Some (i, p) → rank_of t ≡ 6
relation_rank (Mark sign.Less q) i p e = refl
relation_rank (Mark sign.Greater q) i p e = refl
relation_rank (Mark sign.LessEqual q) i p e = refl
relation_rank (Mark sign.EqualEqual q) i p e = refl
relation_rank (Mark sign.NotEqual q) i p e = refl
relation_rank _ i p e = absurd (let bad : None ≡ Some (i, p) = e in cc)

comparison_rank : (i : InfixOperator) (p : Place) (ys us : List Lexeme) → Comparison i p ys us → rank ys ≡ 6
comparison_rank i p ys us (plain t e) = relation_rank t i p e
comparison_rank i p ys us (greater_equal q r n) = refl

pub compared_stops : (l r : ExprShape) (ys w : List Lexeme) → 6 < rank w → Compared l r ys w → 5 < rank ys
compared_stops l r ys w stop not_compared = omega arith
compared_stops l r ys w stop (compared {i = i} {p = p} {us = us} o h) = let is : rank ys ≡ 6 = comparison_rank i p ys us o in omega arith

shifting_rank : (i : InfixOperator) (p : Place) (ys us : List Lexeme) → Shifting i p ys us → 4 < rank ys
shifting_rank i p ys us (leftwards q) = omega arith
shifting_rank i p ys us (rightwards q r n) = omega arith

pub shifted_stops : (l r : ExprShape) (ys us : List Lexeme) → 4 < rank us → Shifted l r ys us → 4 < rank ys
shifted_stops l r ys us stop not_shifted = stop
shifted_stops l r ys us stop (shifted {i = i} {p = p} {us = vs} b o h) = shifting_rank i p ys vs o

-- the two operators of shifts, where their first tokens are known
leftward_case : (i : InfixOperator) (pl : Place) (ys vs : List Lexeme) → Shifting i pl ys vs → (p : Place) (zs : List Lexeme) → ys ≡ Mark sign.ShiftLeft p ∷ zs → (pair i pl ≡ pair between.ShiftLeft p) × (vs ≡ zs)
leftward_case i pl ys vs (leftwards q) p zs e = let place : q ≡ p = cc in let rest : vs ≡ zs = cc in (ap (pair between.ShiftLeft) place, rest)
leftward_case i pl ys vs (rightwards q r n) p zs e = absurd (let bad : Mark sign.Greater q ≡ Mark sign.ShiftLeft p = cc in cc)

record Rightward (i : InfixOperator) (pl : Place) (vs : List Lexeme) (p : Place) (zs : List Lexeme) : Type 0 where
  second : Place
  split : zs ≡ Mark sign.Greater second ∷ vs
  adjacent : Adjacent p second
  same : pair i pl ≡ pair between.ShiftRight p

rightward_case : (i : InfixOperator) (pl : Place) (ys vs : List Lexeme) → Shifting i pl ys vs → (p : Place) (zs : List Lexeme) → ys ≡ Mark sign.Greater p ∷ zs → Rightward i pl vs p zs
rightward_case i pl ys vs (leftwards q) p zs e = absurd (let bad : Mark sign.ShiftLeft q ≡ Mark sign.Greater p = cc in cc)
rightward_case i pl ys vs (rightwards q r n) p zs e =
    let place : q ≡ p = cc in
    let rest : zs ≡ Mark sign.Greater r ∷ vs = cc in
    record { second = r; split = rest; adjacent = subst (λ x. Adjacent x r) place n; same = ap (pair between.ShiftRight) place }

-- what a shift may be followed by
module _ (K : ExprShape → ExprShape → List Lexeme → List Lexeme → Type 0) (G : ExprShape → List Lexeme → List Lexeme → Type 0) (tokens : List Lexeme) (from at : ℕ) (l : ExprShape) (s : Stage G 6 tokens from at (After (Shifted l) K)) (stops : (m r : ExprShape) (ys w : List Lexeme) → 6 < rank w → K m r ys w → 5 < rank ys) where
  left_there : (p : Place) (r : ExprShape) (zs w : List Lexeme) → 6 < rank w → After (Shifted l) K r (Mark sign.ShiftLeft p ∷ zs) w → After Unary (λ b. K (infixed (place_of l) l between.ShiftLeft p b)) r zs w
  left_there p r zs w stop a = by a.part (Mark sign.ShiftLeft p ∷ zs) a.others a.phrase refl a.rest
    where
      by : (m : ExprShape) (ys us : List Lexeme) → Shifted l m ys us → ys ≡ Mark sign.ShiftLeft p ∷ zs → K m r us w → After Unary (λ b. K (infixed (place_of l) l between.ShiftLeft p b)) r zs w
      by m ys us not_shifted e k = absurd (let bad : 5 < rank ys = stops m r us w stop k in let worse : rank ys ≡ 5 = ap rank e in omega arith)
      by m ys us (shifted {i = i} {p = pl} {b = b} {us = vs} bare o u) e k =
          let c : (pair i pl ≡ pair between.ShiftLeft p) × (vs ≡ zs) = leftward_case i pl ys vs o p zs e in
          record { part = b; others = us; phrase = subst (λ x. Unary b x us) c.1 u; rest = subst (λ x. K (infixed (place_of l) l x.0 x.1 b) r us w) c.0 k }

  pub take_left : (p : Place) → is_bare l ≡ true → slice_get tokens at ≡ Some (Mark sign.ShiftLeft p) → Stage G 6 tokens from (at + 1) (After Unary (λ b. K (infixed (place_of l) l between.ShiftLeft p b)))
  take_left p bare is =
      change G 6 tokens from (at + 1) (λ r zs w. After (Shifted l) K r (Mark sign.ShiftLeft p ∷ zs) w) (After Unary (λ b. K (infixed (place_of l) l between.ShiftLeft p b)))
      (λ r zs w stop near a. left_there p r zs w stop a)
      (λ r zs w a. record { part = infixed (place_of l) l between.ShiftLeft p a.part; others = a.others; phrase = shifted bare (leftwards p) a.phrase; rest = a.rest })
      (consume G 6 tokens from at (After (Shifted l) K) (Mark sign.ShiftLeft p) is s)

  -- no comparison goes on with `>>`
  module _ (p q : Place) (second : slice_get tokens (at + 1) ≡ Some (Mark sign.Greater q)) (never : (m r : ExprShape) (zs w : List Lexeme) → 6 < rank w → K m r (Mark sign.Greater p ∷ zs) w → Near zs (drop (at + 1) tokens) → ⊥) where
    right_there : (r : ExprShape) (zs w : List Lexeme) → 6 < rank w → Near zs (drop (at + 1) tokens) → After (Shifted l) K r (Mark sign.Greater p ∷ zs) w → Then (Mark sign.Greater q) (After Unary (λ b. K (infixed (place_of l) l between.ShiftRight p b))) r zs w
    right_there r zs w stop near a = by a.part (Mark sign.Greater p ∷ zs) a.others a.phrase refl a.rest
      where
        by : (m : ExprShape) (ys us : List Lexeme) → Shifted l m ys us → ys ≡ Mark sign.Greater p ∷ zs → K m r us w → Then (Mark sign.Greater q) (After Unary (λ b. K (infixed (place_of l) l between.ShiftRight p b))) r zs w
        by m ys us not_shifted e k = absurd (never m r zs w stop (subst (λ x. K m r x w) e k) near)
        by m ys us (shifted {i = i} {p = pl} {b = b} {us = vs} bare o u) e k =
            let c : Rightward i pl vs p zs = rightward_case i pl ys vs o p zs e in
            let stands : slice_get tokens (at + 1) ≡ Some (Mark sign.Greater c.second) = near_get tokens (at + 1) (Mark sign.Greater c.second) vs (subst (λ x. Near x (drop (at + 1) tokens)) c.split near) in
            let place : c.second ≡ q = (let both : Some (Mark sign.Greater c.second) ≡ Some (Mark sign.Greater q) = sym stands ∙ second in cc) in
            record { others = vs; split = c.split ∙ ap (λ x. Mark sign.Greater x ∷ vs) place; rest = record { part = b; others = us; phrase = u; rest = subst (λ x. K (infixed (place_of l) l x.0 x.1 b) r us w) c.same k } }

    pub take_right : is_bare l ≡ true → Adjacent p q → slice_get tokens at ≡ Some (Mark sign.Greater p) → Stage G 6 tokens from (at + 1 + 1) (After Unary (λ b. K (infixed (place_of l) l between.ShiftRight p b)))
    take_right bare adjacent is =
        consume_then G 6 tokens from (at + 1) (Mark sign.Greater q) (After Unary (λ b. K (infixed (place_of l) l between.ShiftRight p b))) second
        (change G 6 tokens from (at + 1) (λ r zs w. After (Shifted l) K r (Mark sign.Greater p ∷ zs) w) (Then (Mark sign.Greater q) (After Unary (λ b. K (infixed (place_of l) l between.ShiftRight p b))))
        (λ r zs w stop near a. right_there r zs w stop near a)
        (λ r zs w t.
        subst (λ x. After (Shifted l) K r (Mark sign.Greater p ∷ x) w) (sym t.split)
        (record { part = infixed (place_of l) l between.ShiftRight p t.rest.part; others = t.rest.others; phrase = shifted bare (rightwards p q adjacent) t.rest.phrase; rest = t.rest.rest }))
        (consume G 6 tokens from at (After (Shifted l) K) (Mark sign.Greater p) is s))
