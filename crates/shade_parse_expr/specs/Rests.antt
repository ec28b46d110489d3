-- What may still stand behind the first part of an expression (WGSL, "Expression Grammar"). Each relates the part before, the
-- whole, the tokens behind the part and those behind the whole.
use Rattle.std.specs.Prelude.{◌≡◌, ℕ, Bool, true, false, List, ◌∷◌, Some}
use Rattle.shade_base.specs.declared.place.Place.{Place}
use Rattle.shade_ast.specs.declared.lexeme.Sign.TheVariants as sign
use Rattle.shade_ast.specs.declared.expr.Infix.{Infix}
use Rattle.shade_ast.specs.declared.expr.Infix.TheVariants as between
use Rattle.shade_ast.specs.Lexemes.{Lexeme, Mark, Adjacent}
use Rattle.shade_ast.specs.Shapes.{ExprShape, infixed, call, place_of}
use Rattle.shade_ast.specs.Shaped.{expr_shapes}
use Rattle.shade_ast.specs.Repeats.{MaybeListed}
use Rattle.shade_ast.specs.Expressions.{Expression, Relational, Shift, Unary}
use Rattle.shade_ast.specs.Chains.{After, Ends, Tail, Closed}
use Rattle.shade_ast.specs.Steps.{OrStep, AndStep, BitAndStep, BitOrStep, BitXorStep}
use Rattle.shade_cursor.specs.declared.operators.Joint.{Joint}
use Rattle.shade_cursor.specs.declared.operators.Joint.TheVariants as joint
use Rattle.shade_cursor.specs.Operators.{relation_of, Joins}

-- not two expressions and an operator between them
abbrev pub is_bare : ExprShape → Bool
is_bare (infixed place left operator at right) = false
is_bare _ = true

-- the operator of a comparison, from its first token to those behind it
pub data Comparison : Infix → Place → List Lexeme → List Lexeme → Type 0 where
  plain : {i : Infix} {p : Place} (t : Lexeme) {us : List Lexeme} → relation_of t ≡ Some (i, p) → Comparison i p (t ∷ us) us
  greater_equal : (p q : Place) {us : List Lexeme} → Adjacent p q → Comparison between.GreaterEqual p (Mark sign.Greater p ∷ (Mark sign.Equal q ∷ us)) us

pub data Compared (l : ExprShape) : ExprShape → List Lexeme → List Lexeme → Type 0 where
  not_compared : {w : List Lexeme} → Compared l l w w
  compared : {i : Infix} {p : Place} {b : ExprShape} {ys us w : List Lexeme} → Comparison i p ys us → Shift b us w → Compared l (infixed (place_of l) l i p b) ys w

-- the operator of a shift
pub data Shifting : Infix → Place → List Lexeme → List Lexeme → Type 0 where
  leftwards : (p : Place) {us : List Lexeme} → Shifting between.ShiftLeft p (Mark sign.ShiftLeft p ∷ us) us
  rightwards : (p q : Place) {us : List Lexeme} → Adjacent p q → Shifting between.ShiftRight p (Mark sign.Greater p ∷ (Mark sign.Greater q ∷ us)) us

pub data Shifted (l : ExprShape) : ExprShape → List Lexeme → List Lexeme → Type 0 where
  not_shifted : {w : List Lexeme} → Shifted l l w w
  shifted : {i : Infix} {p : Place} {b : ExprShape} {ys us w : List Lexeme} → is_bare l ≡ true → Shifting i p ys us → Unary b us w → Shifted l (infixed (place_of l) l i p b) ys w

-- an operator that joins, and what stands on its right
abbrev pub JoinStep : Joint → Lexeme → ExprShape → ExprShape → List Lexeme → List Lexeme → Type 0
JoinStep joint.Or = OrStep
JoinStep joint.And = AndStep
JoinStep joint.BitAnd = BitAndStep
JoinStep joint.BitOr = BitOrStep
JoinStep joint.BitXor = BitXorStep

abbrev pub JoinPart : Joint → ExprShape → List Lexeme → List Lexeme → Type 0
JoinPart joint.Or = Relational
JoinPart joint.And = Relational
JoinPart joint.BitAnd = Unary
JoinPart joint.BitOr = Unary
JoinPart joint.BitXor = Unary

abbrev pub joint_rank : Joint → ℕ
joint_rank joint.Or = 6
joint_rank joint.And = 6
joint_rank joint.BitAnd = 2
joint_rank joint.BitOr = 2
joint_rank joint.BitXor = 2

-- one operator joins any number of them
abbrev pub Joining : Joint → ExprShape → ExprShape → List Lexeme → List Lexeme → Type 0
Joining j l r ys w = Tail (JoinStep j) l r ys w

pub data Joined (l : ExprShape) : ExprShape → List Lexeme → List Lexeme → Type 0 where
  not_joined : {w : List Lexeme} → Joined l l w w
  joined : {r : ExprShape} {ys w : List Lexeme} (j : Joint) → Joins j (is_bare l) → Joining j l r ys w → Joined l r ys w

-- the arguments of a call, behind its `(`
abbrev pub Called : ExprShape → ExprShape → List Lexeme → List Lexeme → Type 0
Called l = After (Closed (MaybeListed Expression) (Mark sign.Close)) (λ r. Ends (call (place_of l) l (expr_shapes r.0) r.1))
