-- The rows of analysed statements as a list, as one walk over the statements has them; those of definitions that reach stand in Held.
use Rattle.std.specs.Prelude.{ℕ, Bool, true, false, if◌then◌else◌, Option, Some, None, List, [], ◌∷◌, ◌++◌, slice_get}
use Rattle.std.specs.List.{flat_map}
use Rattle.shade_base.specs.declared.severity.Severity.{Severity}
use Rattle.shade_values.specs.declared.types.Access.{Access}
use Rattle.shade_values.specs.declared.types.Access.TheVariants as access
use Rattle.shade_values.specs.declared.types.ShadeType.{ShadeType}
use Rattle.shade_values.specs.declared.types.ShadeType.TheVariants as type
use Rattle.shade_values.specs.declared.types.Space.{Space}
use Rattle.shade_values.specs.declared.types.Space.TheVariants as space
use Rattle.shade_values.specs.declared.types.TypeId.{TypeId}
use Rattle.shade_core.specs.declared.behaviour.Behaviour.{Behaviour}
use Rattle.shade_core.specs.declared.module.CoreFunction.{CoreFunction}
use Rattle.shade_core.specs.declared.module.CoreModule.{CoreModule}
use Rattle.shade_core.specs.declared.module.CoreParam.{CoreParam}
use Rattle.shade_core.specs.declared.module.CoreParam.TheVariants as param
use Rattle.shade_core.specs.declared.module.Root.{Root}
use Rattle.shade_core.specs.declared.statement.Base.{Base}
use Rattle.shade_core.specs.declared.statement.Base.TheVariants.{Local, Module, Pointee}
use Rattle.shade_core.specs.declared.statement.Operand.{Operand}
use Rattle.shade_core.specs.declared.statement.Operand.TheVariants as operand
use Rattle.shade_core.specs.declared.statement.View.{View}
use Rattle.shade_core.specs.declared.statement.ViewStep.{ViewStep}
use Rattle.shade_core.specs.declared.statement.ViewStep.TheVariants.{Member, Index}
use Rattle.shade_core.specs.Behaviour.{goes_on}
use Rattle.shade_core.specs.Code.{Plain, Set, Load, Declare, Store, Atomic, Barrier, UniformLoad, Length, Jump, Break, Continue, Return}
use Rattle.shade_core.specs.Standing.{Head, does, jumps, calls, branches, switches, loops}
use Rattle.shade_graph.specs.declared.node.Node.{Node}
use Rattle.shade_graph.specs.declared.node.Node.TheVariants.{Required, NonUniform, Param, Returned, Before, After, Part, Value, Stored}
use Rattle.shade_uniformity.specs.declared.rows.Given.{Given}
use Rattle.shade_uniformity.specs.declared.walk.PartSpan.{PartSpan}
use Rattle.shade_uniformity.specs.Visits.{Visit}

-- a row that the statement with a number gives
abbrev pub given : ℕ → Node → Node → Given
given n u v = record { statement = n; from = u; to = v }

-- ---- operands and views

abbrev pub operand_rows : ℕ → Node → Operand → List Given
operand_rows n u (operand.Constant ty value) = []
operand_rows n u (operand.Param i) = given n u (Param i) ∷ []
operand_rows n u (operand.Temp m) = given n u (Value m) ∷ []

abbrev pub operands_rows : ℕ → Node → List Operand → List Given
operands_rows n u operands = flat_map (operand_rows n u) operands

abbrev pub value_rows : ℕ → Node → Option Operand → List Given
value_rows n u None = []
value_rows n u (Some x) = operand_rows n u x

abbrev pub step_rows : ℕ → Node → ViewStep → List Given
step_rows n u (Member i) = []
step_rows n u (Index x) = operand_rows n u x

abbrev pub steps_rows : ℕ → Node → List ViewStep → List Given
steps_rows n u steps = flat_map (step_rows n u) steps

-- of the variable that a view begins at
abbrev pub base_rows : ℕ → Node → Base → List Given
base_rows n u (Local i) = []
base_rows n u (Module i) = []
base_rows n u (Pointee i) = given n u (Param i) ∷ []

abbrev pub view_rows : ℕ → Node → View → List Given
view_rows n u view = steps_rows n u view.steps ++ base_rows n u view.base

-- ---- variables that may differ

abbrev pub is_writable : Access → Bool
is_writable access.Read = false
is_writable access.ReadWrite = true

abbrev pub root_writable : Option Root → Bool
root_writable None = false
root_writable (Some root) = is_writable root.access

abbrev pub writes_through : ShadeType → Bool
writes_through (type.Pointer space ty access) = is_writable access
writes_through _ = false

abbrev pub type_writable : Option ShadeType → Bool
type_writable None = false
type_writable (Some ty) = writes_through ty

abbrev pub pointer_differs : CoreModule → Space → TypeId → Bool
pointer_differs shader space.Function ty = false
pointer_differs shader space.Private ty = true
pointer_differs shader space.Workgroup ty = true
pointer_differs shader space.Uniform ty = false
pointer_differs shader space.Storage ty = type_writable (slice_get shader.types.types ty.0)

abbrev pub param_differs : CoreModule → Option CoreParam → Bool
param_differs shader None = false
param_differs shader (Some (param.Plain ty)) = false
param_differs shader (Some (param.Pointer space ty)) = pointer_differs shader space ty
param_differs shader (Some (param.Input input)) = false

abbrev pub may_differ : CoreModule → CoreFunction → Base → Bool
may_differ shader function (Local i) = false
may_differ shader function (Module i) = root_writable (slice_get shader.roots i)
may_differ shader function (Pointee i) = param_differs shader (slice_get function.params i)

abbrev pub differs_rows : CoreModule → CoreFunction → ℕ → Base → List Given
differs_rows shader function n variable = if may_differ shader function variable then given n (Value n) NonUniform ∷ [] else []

-- ---- statements without parts, but for control before and after them

abbrev pub load_rows : CoreModule → CoreFunction → ℕ → View → List Given
load_rows shader function n view = (given n (Value n) (Before n) ∷ view_rows n (Value n) view) ++ differs_rows shader function n view.base

abbrev pub store_rows : ℕ → View → Operand → List Given
store_rows n view value = (given n (Stored n 0) (Before n) ∷ operand_rows n (Stored n 0) value) ++ view_rows n (Stored n 0) view

abbrev pub uniform_load_rows : ℕ → View → Severity → List Given
uniform_load_rows n view severity = (given n (Required severity) (Before n) ∷ view_rows n (Required severity) view) ++ given n (Value n) (Before n) ∷ []

abbrev pub plain_rows : CoreModule → CoreFunction → ℕ → Plain → List Given
plain_rows shader function n (Set op args) = given n (Value n) (Before n) ∷ operands_rows n (Value n) args
plain_rows shader function n (Load view) = load_rows shader function n view
plain_rows shader function n (Declare local value) = given n (Stored n 0) (Before n) ∷ value_rows n (Stored n 0) value
plain_rows shader function n (Store view value) = store_rows n view value
plain_rows shader function n (Atomic op view args) = given n (Value n) NonUniform ∷ []
plain_rows shader function n (Barrier space severity) = given n (Required severity) (Before n) ∷ []
plain_rows shader function n (UniformLoad view severity) = uniform_load_rows n view severity
plain_rows shader function n (Length view) = given n (Value n) (Before n) ∷ []

abbrev pub jump_rows : ℕ → Jump → List Given
jump_rows n Break = []
jump_rows n Continue = []
jump_rows n (Return value) = given n Returned (Before n) ∷ value_rows n Returned value

abbrev pub simple_rows : CoreModule → CoreFunction → ℕ → Head → List Given
simple_rows shader function n (does act) = plain_rows shader function n act
simple_rows shader function n (jumps act) = jump_rows n act
simple_rows shader function n (calls g args) = given n (Value n) (Before n) ∷ []
simple_rows shader function n (branches cond) = []
simple_rows shader function n (switches selector cases) = []
simple_rows shader function n (loops leave) = []

-- ---- statements with parts

-- of a part that an operand takes, and control behind its statement
abbrev pub selected_rows : ℕ → Bool → Operand → PartSpan → List Given
selected_rows n next operand s =
    (given n (Part s.statement s.which) (Before s.statement) ∷ operand_rows n (Part s.statement s.which) operand)
    ++ given n (After s.statement) (if next then Before s.statement else s.end) ∷ []

-- of a Loop whose body and continuing part end at these nodes
abbrev pub turn_rows : ℕ → Bool → Option Operand → Node → Node → List Given
turn_rows n next leave body_end continuing_end =
    (given n (Part n 0) (Before n) ∷ given n (Part n 0) continuing_end ∷ [] ++ value_rows n (Part n 0) leave)
    ++ given n (Part n 1) body_end ∷ given n (After n) (if next then Before n else Part n 0) ∷ []

abbrev pub loop_rows : ℕ → Bool → Option Operand → List PartSpan → List Given
loop_rows n next leave (body ∷ (continuing ∷ [])) = turn_rows n next leave body.end continuing.end
loop_rows n next leave _ = []

-- of a statement behind which control goes on like this and whose parts these are, but for control before it
abbrev pub head_rows : CoreModule → CoreFunction → ℕ → Behaviour → List PartSpan → Head → List Given
head_rows shader function n ways parts (does act) = given n (After n) (Before n) ∷ plain_rows shader function n act
head_rows shader function n ways parts (jumps act) = given n (After n) (Before n) ∷ jump_rows n act
head_rows shader function n ways parts (calls g args) = given n (After n) (Before n) ∷ given n (Value n) (Before n) ∷ []
head_rows shader function n ways parts (branches cond) = flat_map (selected_rows n (goes_on ways) cond) parts
head_rows shader function n ways parts (switches selector cases) = flat_map (selected_rows n (goes_on ways) selector) parts
head_rows shader function n ways parts (loops leave) = loop_rows n (goes_on ways) leave parts

-- of an analysed statement
abbrev pub visit_rows : CoreModule → CoreFunction → Visit → List Given
visit_rows shader function v =
    given v.statement.number (Before v.statement.number) v.under ∷ head_rows shader function v.statement.number v.ways v.parts v.statement.head
