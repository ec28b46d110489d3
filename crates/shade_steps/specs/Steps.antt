-- Rule: what is asked of an expression or a type, in order: of its operands first, from left to right, and then of itself. (WGSL, "Expressions"
-- and "Short-circuit Evaluation".)
use Rattle.std.specs.Prelude.{ℕ, Bool, List, [], ◌∷◌, ◌++◌, Option, None, Some, map, true, false, if◌then◌else◌}
use Rattle.std.specs.List.{flat_map}
use Rattle.shade_base.specs.declared.place.Place.{Place}
use Rattle.shade_ast.specs.declared.expr.Infix.{Infix}
use Rattle.shade_ast.specs.declared.expr.Infix.TheVariants as infix_of
use Rattle.shade_ast.specs.declared.expr.Prefix.{Prefix}
use Rattle.shade_ast.specs.declared.expr.Prefix.TheVariants as prefix_of
use Rattle.shade_ast.specs.declared.expr.Expr.{Expr, Expr-F, fold-Expr}
use Rattle.shade_ast.specs.declared.expr.ExprKind.{ExprKind-F}
use Rattle.shade_ast.specs.declared.expr.ExprKind.TheOpen as kind
use Rattle.shade_known.specs.declared.known.Operand.{Operand}
use Rattle.shade_steps.specs.declared.step.Slot.{Slot}
use Rattle.shade_steps.specs.declared.step.Slot.TheVariants as slot
use Rattle.shade_steps.specs.declared.step.Step.{Step}
use Rattle.shade_steps.specs.declared.step.TypeRole.{TypeRole}
use Rattle.shade_steps.specs.declared.step.Task.{Task}
use Rattle.shade_steps.specs.declared.step.Task.TheVariants as task

-- a node with its steps, which depend on the `&&` or `||` in whose right side it stands
pub record Part : Type 0 where
  pub own : Operand
  pub steps : Option ℕ → List Step

abbrev pub step_of : Operand → Option ℕ → Task → Step
step_of own under asked = record { node = own.node; place = own.place; under = under; task = asked }

-- the steps of a part, and that it is a value
abbrev pub value_steps : Option ℕ → Part → List Step
value_steps under p = p.steps under ++ step_of p.own under task.IsValue ∷ []

-- the steps of a part, and that it is a value or names memory
abbrev pub operand_steps : Option ℕ → Part → List Step
operand_steps under p = p.steps under ++ step_of p.own under task.IsOperand ∷ []

-- ---- `&&` and `||`

-- whether the left side may decide, so that the right side is not asked
abbrev pub is_lazy : Infix → Bool
is_lazy infix_of.And = true
is_lazy infix_of.Or = true
is_lazy _ = false

abbrev pub decided_by : Bool → Option ℕ → Operand → Operand → Infix → List Step
decided_by false under own left operator = []
decided_by true under own left operator = step_of own under (task.Decides operator left) ∷ []

-- between both sides: whether the left one decides the whole
abbrev pub decided : Option ℕ → Operand → Operand → Infix → List Step
decided under own left operator = decided_by (is_lazy operator) under own left operator

-- where the right side stands
abbrev pub right_of : Option ℕ → Infix → ℕ → Option ℕ
right_of under operator whole = if is_lazy operator then Some whole else under

-- ---- operators before an expression

-- `&` takes what names memory, also memory that cannot be loaded, and each other operator a value
abbrev pub operand_asked : Prefix → Option ℕ → Operand → List Step
operand_asked prefix_of.AddressOf under operand = step_of operand under task.IsOperand ∷ []
operand_asked _ under operand = step_of operand under task.IsValue ∷ []

-- ---- each kind of expression

abbrev pub owns : List Part → List Operand
owns parts = map (λ p. p.own) parts

-- where the argument behind one stands
abbrev pub behind : Slot → Operand → Slot
behind slot.First before = slot.Second before
behind _ before = slot.Later

-- an argument of the template list of the name with this node and this number, and that it may stand there; it is asked for wherever it stands
abbrev pub argument_steps : ℕ → ℕ → Slot → Part → List Step
argument_steps list name at p = p.steps None ++ step_of p.own None (task.Argument list name at) ∷ []

-- the arguments from one on
abbrev pub listed_steps : ℕ → ℕ → Slot → List Part → List Step
listed_steps list name at [] = []
listed_steps list name at (p ∷ others) = argument_steps list name at p ++ listed_steps list name (behind at p.own) others

abbrev pub KindSteps : Type 0
KindSteps = Operand → Option ℕ → List Step

-- what is asked of the parts of an expression, and then of itself
abbrev pub kind_steps : ExprKind-F KindSteps Part → KindSteps
kind_steps (kind.Infix left operator at right) own under =
    value_steps under left ++ decided under own left.own operator ++ value_steps (right_of under operator own.node) right ++ step_of own under (task.Infix left.own operator at right.own) ∷ []
kind_steps (kind.Prefix operator operand) own under =
    operand.steps under ++ operand_asked operator under operand.own ++ step_of own under (task.Prefix operator operand.own) ∷ []
kind_steps (kind.Member whole dot member) own under = whole.steps under ++ step_of own under (task.Member whole.own dot member) ∷ []
kind_steps (kind.Index whole bracket index) own under =
    operand_steps under whole ++ value_steps under index ++ step_of own under (task.Index whole.own bracket index.own) ∷ []
kind_steps (kind.Call callee arguments trailing) own under =
    callee.steps under ++ flat_map (value_steps under) arguments ++ step_of own under (task.Call callee.own (owns arguments)) ∷ []
kind_steps (kind.Template name arguments trailing) own under =
    listed_steps own.node name slot.First arguments ++ step_of own under (task.Template name (owns arguments)) ∷ []
kind_steps (kind.Name name) own under = step_of own under (task.Name name) ∷ []
kind_steps (kind.Number value suffix) own under = step_of own under (task.Number value suffix) ∷ []
kind_steps kind.True own under = step_of own under (task.Truth true) ∷ []
kind_steps kind.False own under = step_of own under (task.Truth false) ∷ []
kind_steps (kind.Paren inner) own under = operand_steps under inner ++ step_of own under (task.Paren inner.own) ∷ []

abbrev pub own_of : ℕ → Place → Operand
own_of node place = record { node = node; place = place }

abbrev pub expr_part : Expr-F KindSteps Part → Part
expr_part e = record { own = own_of e.node e.place; steps = e.kind (own_of e.node e.place) }

abbrev pub part_of : Expr → Part
part_of = fold-Expr KindSteps Part kind_steps expr_part

-- the steps of an expression
abbrev pub steps_of : Option ℕ → Expr → List Step
steps_of under e = (part_of e).steps under

-- and that it is a value
abbrev pub steps_of_value : Option ℕ → Expr → List Step
steps_of_value under e = value_steps under (part_of e)

-- and that it is a value or names memory
abbrev pub steps_of_operand : Option ℕ → Expr → List Step
steps_of_operand under e = operand_steps under (part_of e)

-- of the arguments of a template list
abbrev pub steps_of_listed : ℕ → ℕ → Slot → List Expr → List Step
steps_of_listed list name at arguments = listed_steps list name at (map part_of arguments)

-- and that it is a type, for what it is written; a type stands in no right side
abbrev pub steps_of_type : TypeRole → Expr → List Step
steps_of_type role e = steps_of None e ++ step_of (part_of e).own None (task.IsType role) ∷ []
