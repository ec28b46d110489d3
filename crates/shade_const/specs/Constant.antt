-- Rule: the value of a constant expression, or the first fault in the order of evaluation. (WGSL, "Const-Expressions".)
use Rattle.std.specs.Prelude.{ℕ, min, List, [], ◌∷◌, Option, Some, None, Bool, map, pos, Result, Ok, Err, true, false}
use Rattle.shade_base.specs.declared.place.Place.{Place}
use Rattle.shade_lex.specs.declared.token.Suffix.{Suffix}
use Rattle.shade_lex.specs.declared.token.Suffix.TheVariants as suffix
use Rattle.shade_ast.specs.declared.expr.Expr.{Expr, Expr-F, fold-Expr}
use Rattle.shade_ast.specs.declared.expr.ExprKind.{ExprKind-F}
use Rattle.shade_ast.specs.declared.expr.ExprKind.TheOpen as kind
use Rattle.shade_values.specs.declared.types.Scalar.{Scalar}
use Rattle.shade_values.specs.declared.types.Scalar.TheVariants as scalar
use Rattle.shade_values.specs.declared.value.Leaf.{Leaf}
use Rattle.shade_values.specs.declared.value.Value.{Value}
use Rattle.shade_values.specs.declared.value.Value.TheVariants as value
use Rattle.shade_values.specs.declared.op.Op.{Op}
use Rattle.shade_values.specs.declared.op.Op.TheVariants.{LogicalAnd, LogicalOr}
use Rattle.shade_values.specs.Numbers.{truth}
use Rattle.shade_values.specs.Parts.{own_leaf}
use Rattle.shade_values.specs.Apply.{is_true}
use Rattle.shade_evaluate.specs.declared.fault.ConstFault.{ConstFault}
use Rattle.shade_evaluate.specs.declared.fault.ConstFault.TheVariants as fault
use Rattle.shade_evaluate.specs.Evaluate.{evaluated}
use Rattle.shade_const.specs.declared.fact.Fact.{Fact}
use Rattle.shade_const.specs.declared.fact.Fact.TheVariants as fact
use Rattle.shade_const.specs.Facts.{fact_at}

-- ---- literals

abbrev pub suffix_scalar : Suffix → Scalar
suffix_scalar suffix.Plain = scalar.Abstract
suffix_scalar suffix.Signed = scalar.I32
suffix_scalar suffix.Unsigned = scalar.U32

-- a literal's number; no text has one above 2^63 - 1, which is taken as that
abbrev pub literal : ℕ → Suffix → Leaf
literal number suffix = record { scalar = suffix_scalar suffix; number = pos (min number 9223372036854775807) }

-- ---- operands

abbrev pub Answer : Type 0
Answer = Result Value ConstFault

-- an expression: the place of its first token; its value where some facts are known; and its value if it is an operation whose
-- operands convert to these scalars
pub record Part : Type 0 where
  pub place : Place
  pub value : List (Option Fact) → Answer
  pub operation : Op → List (Option Scalar) → List (Option Fact) → Answer

abbrev pub joined : Answer → Result (List Value) ConstFault → Result (List Value) ConstFault
joined (Err f) others = Err f
joined (Ok v) (Err f) = Err f
joined (Ok v) (Ok values) = Ok (v ∷ values)

-- the values of some operands, from left to right, or the first fault
abbrev pub in_turn : List Answer → Result (List Value) ConstFault
in_turn [] = Ok []
in_turn (answer ∷ others) = joined answer (in_turn others)

abbrev pub and_then : Result (List Value) ConstFault → (List Value → Answer) → Answer
and_then (Err f) next = Err f
and_then (Ok values) next = next values

abbrev pub values_of : List Part → List (Option Fact) → Result (List Value) ConstFault
values_of parts facts = in_turn (map (λ p. p.value facts) parts)

-- the operation on operands, which are all taken
abbrev pub of_operands : Op → List (Option Scalar) → List Part → Place → List (Option Fact) → Answer
of_operands op to parts at facts = and_then (values_of parts facts) (λ values. evaluated op to values (map (λ p. p.place) parts) at)

-- a left side that is false decides `&&`, and one that is true decides `||`
abbrev pub decided_by : Op → Bool → Option Bool
decided_by LogicalAnd false = Some false
decided_by LogicalOr true = Some true
decided_by op left = None

abbrev pub decided : Op → Answer → Option Bool
decided op (Ok v) = decided_by op (is_true (own_leaf v))
decided op (Err f) = None

abbrev pub unless_decided : Option Bool → Answer → Answer
unless_decided (Some b) answer = Ok (value.One (truth b))
unless_decided None answer = answer

-- the operation on two sides: the right one is taken where the left one does not decide
abbrev pub of_sides : Op → List (Option Scalar) → Part → Part → Place → List (Option Fact) → Answer
of_sides op to left right at facts = unless_decided (decided op (left.value facts)) (of_operands op to (left ∷ right ∷ []) at facts)

-- ---- expressions

-- what a kind of expression is, at a node and a place
abbrev pub KindPart : Type 0
KindPart = ℕ → Place → Part

-- its value if it is an operation: the operands, and the place of the operator or the name
abbrev pub kind_operation : ExprKind-F KindPart Part → Place → Op → List (Option Scalar) → List (Option Fact) → Answer
kind_operation (kind.Infix left operator at right) place op to facts = of_sides op to left right at facts
kind_operation (kind.Prefix operator operand) place op to facts = of_operands op to (operand ∷ []) place facts
kind_operation (kind.Member whole dot name) place op to facts = of_operands op to (whole ∷ []) dot facts
kind_operation (kind.Index whole bracket index) place op to facts = of_operands op to (whole ∷ index ∷ []) bracket facts
kind_operation (kind.Call callee arguments trailing) place op to facts = of_operands op to arguments place facts
kind_operation _ place op to facts = of_operands op to [] place facts

-- by what is known of the node
abbrev pub by_fact : Option Fact → Place → (Op → List (Option Scalar) → Answer) → Answer
by_fact None own operation = Err (fault.NotConstant own)
by_fact (Some (fact.Known v)) own operation = Ok v
by_fact (Some (fact.Apply op to)) own operation = operation op to

-- a literal has its own value, parentheses that of what they hold, and each other node the one that its fact gives
abbrev pub kind_value : ExprKind-F KindPart Part → Answer → List (Option Fact) → Answer
kind_value (kind.Number number suffix) known facts = Ok (value.One (literal number suffix))
kind_value kind.True known facts = Ok (value.One (truth true))
kind_value kind.False known facts = Ok (value.One (truth false))
kind_value (kind.Paren inner) known facts = inner.value facts
kind_value _ known facts = known

abbrev pub kind_part : ExprKind-F KindPart Part → KindPart
kind_part k node place = record {
  place = place;
  value = λ facts. kind_value k (by_fact (fact_at facts node) place (λ op to. kind_operation k place op to facts)) facts;
  operation = λ op to facts. kind_operation k place op to facts;
}

abbrev pub expr_part : Expr-F KindPart Part → Part
expr_part e = e.kind e.node e.place

abbrev pub part_of : Expr → Part
part_of = fold-Expr KindPart Part kind_part expr_part

-- the value of an expression where these facts are known, or its first fault
abbrev pub constant_of : List (Option Fact) → Expr → Answer
constant_of facts e = (part_of e).value facts

-- its value if it is this operation
abbrev pub operation_of : List (Option Fact) → Expr → Op → List (Option Scalar) → Answer
operation_of facts e op to = (part_of e).operation op to facts
