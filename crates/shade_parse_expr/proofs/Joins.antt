-- Operators that join, step by step.
use Rattle.std.proofs.Common.{◌≡◌, refl, sym, ap, ◌∙◌, subst, ℕ, ◌+◌, ◌<◌, ◌≤◌, inl, inr, None, Some, List, [], ◌∷◌, length, drop, arith, slice_get}
use Rattle.shade_base.specs.declared.place.Place.{Place}
use Rattle.shade_ast.specs.declared.lexeme.Sign.TheVariants as sign
use Rattle.shade_ast.specs.Lexemes.{Lexeme, Mark}
use Rattle.shade_ast.specs.Shapes.{ExprShape, infixed, place_of}
use Rattle.shade_ast.specs.Expressions.{Expression, Relational}
use Rattle.shade_ast.specs.Reads.{Near, Reads, Fails, rank, rank_of}
use Rattle.shade_ast.proofs.Stages.{Stage, Closes, near_get, begin, change, phrase, phrase_fails, finish, reads_as}
use Rattle.shade_ast.specs.Chains.{After, done, Infix}
use Rattle.shade_ast.proofs.Tails.{unroll, tail_stops, tail_ends}
use Rattle.shade_cursor.specs.declared.operators.Joint.{Joint}
use Rattle.shade_cursor.specs.declared.operators.Joint.TheVariants as joint
use Rattle.shade_cursor.specs.Operators.{found, joint_of, joint_sign, joint_infix, Joins}
use Rattle.shade_parse_expr.specs.Rests.{is_bare, JoinStep, JoinPart, joint_rank, Joining, Joined, not_joined, joined}
use Rattle.shade_cursor.proofs.Tokens.{untold, some_one}
use Rattle.shade_parse_expr.proofs.Layers.{expression_there, expression_back}
use Rattle.shade_parse_expr.proofs.Chains.{then_reads, then_fails, step_reads, step_fails, fails_as}

join_ranks : (j : Joint) (t : Lexeme) (l q : ExprShape) (us zs : List Lexeme) → JoinStep j t l q us zs → 6 < rank_of t
join_ranks joint.Or (Mark sign.OrOr p) l q us zs i = omega arith
join_ranks joint.Or _ l q us zs i = absurd i
join_ranks joint.And (Mark sign.AndAnd p) l q us zs i = omega arith
join_ranks joint.And _ l q us zs i = absurd i
join_ranks joint.BitAnd (Mark sign.Ampersand p) l q us zs i = omega arith
join_ranks joint.BitAnd _ l q us zs i = absurd i
join_ranks joint.BitOr (Mark sign.Bar p) l q us zs i = omega arith
join_ranks joint.BitOr _ l q us zs i = absurd i
join_ranks joint.BitXor (Mark sign.Caret p) l q us zs i = omega arith
join_ranks joint.BitXor _ l q us zs i = absurd i

join_sign : (j : Joint) (t : Lexeme) (l q : ExprShape) (us zs : List Lexeme) → JoinStep j t l q us zs → (p : Place) × (t ≡ Mark (joint_sign j) p)
join_sign joint.Or (Mark sign.OrOr p) l q us zs i = (p, refl)
join_sign joint.Or _ l q us zs i = absurd i
join_sign joint.And (Mark sign.AndAnd p) l q us zs i = (p, refl)
join_sign joint.And _ l q us zs i = absurd i
join_sign joint.BitAnd (Mark sign.Ampersand p) l q us zs i = (p, refl)
join_sign joint.BitAnd _ l q us zs i = absurd i
join_sign joint.BitOr (Mark sign.Bar p) l q us zs i = (p, refl)
join_sign joint.BitOr _ l q us zs i = absurd i
join_sign joint.BitXor (Mark sign.Caret p) l q us zs i = (p, refl)
join_sign joint.BitXor _ l q us zs i = absurd i

join_there : (j : Joint) (p : Place) (l q : ExprShape) (us zs : List Lexeme) → JoinStep j (Mark (joint_sign j) p) l q us zs → Infix (JoinPart j) (infixed (place_of l) l (joint_infix j) p) q us zs
join_there joint.Or p l q us zs i = i
join_there joint.And p l q us zs i = i
join_there joint.BitAnd p l q us zs i = i
join_there joint.BitOr p l q us zs i = i
join_there joint.BitXor p l q us zs i = i

join_here : (j : Joint) (p : Place) (l q : ExprShape) (us zs : List Lexeme) → Infix (JoinPart j) (infixed (place_of l) l (joint_infix j) p) q us zs → JoinStep j (Mark (joint_sign j) p) l q us zs
join_here joint.Or p l q us zs i = i
join_here joint.And p l q us zs i = i
join_here joint.BitAnd p l q us zs i = i
join_here joint.BitOr p l q us zs i = i
join_here joint.BitXor p l q us zs i = i

joint_tells : (j : Joint) (p : Place) → joint_of (Mark (joint_sign j) p) ≡ Some (j, p)
joint_tells joint.Or p = refl
joint_tells joint.And p = refl
joint_tells joint.BitAnd p = refl
joint_tells joint.BitOr p = refl
joint_tells joint.BitXor p = refl

joint_low : (j : Joint) (p : Place) → rank_of (Mark (joint_sign j) p) ≤ 7
joint_low joint.Or p = omega arith
joint_low joint.And p = omega arith
joint_low joint.BitAnd p = omega arith
joint_low joint.BitOr p = omega arith
joint_low joint.BitXor p = omega arith

part_rank : (j : Joint) → joint_rank j ≤ 6
part_rank joint.Or = omega arith
part_rank joint.And = omega arith
part_rank joint.BitAnd = omega arith
part_rank joint.BitOr = omega arith
part_rank joint.BitXor = omega arith

abbrev both : Joint → Place → Joint × Place
both j p = (j, p)

same_joint : (j k : Joint) (p q : Place) → Some (both j p) ≡ Some (both k q) → j ≡ k
same_joint j k p q e = ap (λ x. x.0) (some_one (both j p) (both k q) e)

joined_stops : (l r : ExprShape) (ys w : List Lexeme) → 7 < rank w → Joined l r ys w → 6 < rank ys
joined_stops l r ys w stop not_joined = omega arith
joined_stops l r ys w stop (joined j b t) = tail_stops (JoinStep j) 7 6 (omega arith) (join_ranks j) l r ys w stop t

joined_closes : (l : ExprShape) → Closes (Joined l)
joined_closes l = record { tree = l; more = []; closed = λ w. not_joined }

module _ (tokens : List Lexeme) (from : ℕ) (h : from ≤ length tokens) where
  expression_begin : Stage Expression 7 tokens from from (After Relational Joined)
  expression_begin = change Expression 7 tokens from from Expression (After Relational Joined) (λ r ys w stop near g. expression_there r ys w g) expression_back (begin Expression 7 tokens from h)

  pub expression_first_fails : (to : ℕ) → Fails Relational 6 tokens from to → Fails Expression 7 tokens from to
  expression_first_fails to f = phrase_fails Expression 7 tokens from Relational 6 Joined joined_stops from to joined_closes expression_begin f

  module _ (l : ExprShape) (at : ℕ) (r : Reads Relational 6 tokens from l at) where
    expression_stage : Stage Expression 7 tokens from at (Joined l)
    expression_stage = phrase Expression 7 tokens from Relational 6 Joined joined_stops from at l expression_begin r

    -- the operator of a step that stands here
    stands : (j : Joint) (t : Lexeme) (q : ExprShape) (us zs ys : List Lexeme) → JoinStep j t l q us zs → ys ≡ t ∷ us → Near ys (drop at tokens) → (p : Place) × (slice_get tokens at ≡ Some (Mark (joint_sign j) p))
    stands j t q us zs ys i e near =
        let s : (p : Place) × (t ≡ Mark (joint_sign j) p) = join_sign j t l q us zs i in
        (s.0, near_get tokens at t us (subst (λ x. Near x (drop at tokens)) e near) ∙ ap Some s.1)

    alone : ((j : Joint) (p : Place) → Joins j (is_bare l) → slice_get tokens at ≡ Some (Mark (joint_sign j) p) → ⊥) → Reads Expression 7 tokens from l at
    alone never = finish Expression 7 tokens from at (Joined l) l (λ w. not_joined) (λ q ys w stop c near. by q ys w c near) expression_stage
      where
        by : (q : ExprShape) (ys w : List Lexeme) → Joined l q ys w → Near ys (drop at tokens) → (q ≡ l) × (ys ≡ w)
        by q ys w not_joined near = (refl, refl)
        by q ys w (joined j b t) near =
            elim (unroll (JoinStep j) l q ys w t) [
              | inl e ↦ e
              | inr o ↦ (let s : (p : Place) × (slice_get tokens at ≡ Some (Mark (joint_sign j) p)) = stands j o.0 o.3.tree o.1 o.3.others ys o.3.at o.2 near in absurd (never j s.0 b s.1))
            ]

    pub alone_none : None ≡ found joint_of (slice_get tokens at) → Reads Expression 7 tokens from l at
    alone_none none = alone (λ j p b is. let bad : Some (both j p) ≡ None = sym (joint_tells j p) ∙ untold joint_of (slice_get tokens at) (Mark (joint_sign j) p) none is in cc)

    pub alone_other : (k : Joint) (q : Place) → Some (both k q) ≡ found joint_of (slice_get tokens at) → (Joins k (is_bare l) → ⊥) → Reads Expression 7 tokens from l at
    alone_other k q is other = alone (λ j p b at_j. other (subst (λ x. Joins x (is_bare l)) (sym (same_joint k j q p (is ∙ ap (λ x. found joint_of x) at_j ∙ joint_tells j p))) b))

    module _ (k : Joint) (q : Place) (is : Some (both k q) ≡ found joint_of (slice_get tokens at)) (may : Joins k (is_bare l)) where
      joining : Stage Expression 7 tokens from at (Joining k l)
      joining =
          change Expression 7 tokens from at (Joined l) (Joining k l)
          (λ r ys w stop near c. by r ys w c near)
          (λ r ys w t. joined k may t)
          expression_stage
        where
          by : (r : ExprShape) (ys w : List Lexeme) → Joined l r ys w → Near ys (drop at tokens) → Joining k l r ys w
          by r ys w not_joined near = done
          by r ys w (joined j b t) near =
              elim (unroll (JoinStep j) l r ys w t) [
                | inl e ↦ subst (λ x. Joining k l x ys w) (sym e.0) (subst (λ x. Joining k l l x w) (sym e.1) done)
                | inr o ↦
                    (let s : (p : Place) × (slice_get tokens at ≡ Some (Mark (joint_sign j) p)) = stands j o.0 o.3.tree o.1 o.3.others ys o.3.at o.2 near in
                    let same : k ≡ j = same_joint k j q s.0 (is ∙ ap (λ x. found joint_of x) s.1 ∙ joint_tells j s.0) in
                    subst (λ x. Joining x l r ys w) (sym same) t)
              ]

      pub join_reads : (e : ExprShape) (to : ℕ) → Reads (Joining k l) 7 tokens at e to → Reads Expression 7 tokens from e to
      join_reads e to x = then_reads Expression (Joining k l) 7 tokens from at to joining e x

      pub join_fails : (to : ℕ) → Fails (Joining k l) 7 tokens at to → Fails Expression 7 tokens from to
      join_fails to x = then_fails Expression (Joining k l) 7 tokens from at to joining x

-- one operator more
module _ (j : Joint) (first : ExprShape) (tokens : List Lexeme) (from at : ℕ) (l : ExprShape) (s : Stage (Joining j first) 7 tokens from at (Joining j l)) where
  pub join_end : ((p : Place) → slice_get tokens at ≡ Some (Mark (joint_sign j) p) → ⊥) → Reads (Joining j first) 7 tokens from l at
  join_end never = tail_ends (JoinStep j) (Joining j first) 7 tokens from at l (λ t q us zs is i. let k : (p : Place) × (t ≡ Mark (joint_sign j) p) = join_sign j t l q us zs i in never k.0 (is ∙ ap Some k.1)) s

  module _ (p : Place) (is : slice_get tokens at ≡ Some (Mark (joint_sign j) p)) (to : ℕ) where
    pub join_more : (b : ExprShape) → Reads (JoinPart j) (joint_rank j) tokens (at + 1) b to → Stage (Joining j first) 7 tokens from to (Joining j (infixed (place_of l) l (joint_infix j) p b))
    join_more b x =
        step_reads (JoinStep j) 6 (join_ranks j) (Joining j first) 7 (omega arith) tokens from at l (Mark (joint_sign j) p) is (joint_low j p) s (infixed (place_of l) l (joint_infix j) p b) to
        (reads_as (JoinStep j (Mark (joint_sign j) p) l) 6 tokens (at + 1) (JoinPart j) (joint_rank j) (part_rank j) (infixed (place_of l) l (joint_infix j) p)
        (λ b ts w g. join_here j p l (infixed (place_of l) l (joint_infix j) p b) ts w (record { right = b; phrase = g; same = refl }))
        (λ r ts w g stop. let i : Infix (JoinPart j) (infixed (place_of l) l (joint_infix j) p) r ts w = join_there j p l r ts w g in (i.right, i.same, i.phrase))
        to b x)

    pub join_more_fails : Fails (JoinPart j) (joint_rank j) tokens (at + 1) to → Fails (Joining j first) 7 tokens from to
    join_more_fails f =
        step_fails (JoinStep j) 6 (join_ranks j) (Joining j first) 7 (omega arith) tokens from at l (Mark (joint_sign j) p) is (joint_low j p) s to
        (fails_as (JoinStep j (Mark (joint_sign j) p) l) 6 tokens (at + 1) (JoinPart j) (joint_rank j) (part_rank j) (infixed (place_of l) l (joint_infix j) p)
        (λ b ts w g. join_here j p l (infixed (place_of l) l (joint_infix j) p b) ts w (record { right = b; phrase = g; same = refl }))
        (λ r ts w g stop. let i : Infix (JoinPart j) (infixed (place_of l) l (joint_infix j) p) r ts w = join_there j p l r ts w g in (i.right, i.same, i.phrase))
        to f)
