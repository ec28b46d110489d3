-- The nodes of a function as a list: those of the function, and then those of each analysed statement as one walk has them.
use Rattle.std.specs.Prelude.{ℕ, ◌+◌, Bool, true, false, if◌then◌else◌, Option, Some, None, List, [], ◌∷◌, ◌++◌, map, is_some, slice_get}
use Rattle.std.specs.List.{flat_map}
use Rattle.shade_core.specs.declared.module.CoreFunction.{CoreFunction}
use Rattle.shade_core.specs.declared.module.CoreModule.{CoreModule}
use Rattle.shade_core.specs.declared.module.CoreParam.{CoreParam}
use Rattle.shade_core.specs.declared.statement.Argument.{Argument}
use Rattle.shade_core.specs.declared.statement.Argument.TheVariants as argument
use Rattle.shade_core.specs.declared.statement.Base.{Base}
use Rattle.shade_core.specs.declared.statement.Base.TheVariants.{Local}
use Rattle.shade_core.specs.Code.{Plain, Set, Load, Declare, Store, Atomic, Barrier, UniformLoad, Length}
use Rattle.shade_core.specs.Standing.{Head, does, jumps, calls, branches, switches, loops}
use Rattle.shade_flow.specs.Counted.{are_few}
use Rattle.shade_flow.specs.Definitions.{points, tracked}
use Rattle.shade_graph.specs.declared.node.Node.{Node}
use Rattle.shade_graph.specs.declared.node.Node.TheVariants.{ContentsIn, ContentsOut, Before, After, Part, Value, Stored}
use Rattle.shade_graph.specs.Numbered.{function_nodes}
use Rattle.shade_uniformity.specs.declared.walk.PartSpan.{PartSpan}
use Rattle.shade_uniformity.specs.Visits.{Visit}

-- ---- of a statement

-- what a statement, or a call through an argument, stores in a variable
abbrev pub stored_nodes : CoreFunction → ℕ → ℕ → Base → List Node
stored_nodes function n j variable = if tracked function variable then Stored n j ∷ [] else []

abbrev pub argument_nodes : CoreFunction → ℕ → ℕ → Argument → List Node
argument_nodes function n j (argument.Plain operand) = []
argument_nodes function n j (argument.Pointer view) = stored_nodes function n j view.base

-- of arguments from a number on
abbrev pub arguments_nodes : CoreFunction → ℕ → ℕ → List Argument → List Node
arguments_nodes function n j [] = []
arguments_nodes function n j (x ∷ later) = argument_nodes function n j x ++ arguments_nodes function n (j + 1) later

abbrev pub gives_result : Option CoreFunction → Bool
gives_result None = false
gives_result (Some callee) = is_some callee.result

-- the value of a call, where its function gives one
abbrev pub result_nodes : CoreModule → ℕ → ℕ → List Node
result_nodes shader n g = if gives_result (slice_get shader.functions g) then Value n ∷ [] else []

abbrev pub plain_nodes : CoreFunction → ℕ → Plain → List Node
plain_nodes function n (Set op args) = Value n ∷ []
plain_nodes function n (Load view) = Value n ∷ []
plain_nodes function n (Declare local value) = stored_nodes function n 0 (Local local)
plain_nodes function n (Store view value) = stored_nodes function n 0 view.base
plain_nodes function n (Atomic op view args) = Value n ∷ []
plain_nodes function n (Barrier space severity) = []
plain_nodes function n (UniformLoad view severity) = Value n ∷ []
plain_nodes function n (Length view) = Value n ∷ []

-- what a statement gives and stores
abbrev pub head_nodes : CoreModule → CoreFunction → ℕ → Head → List Node
head_nodes shader function n (does act) = plain_nodes function n act
head_nodes shader function n (jumps act) = []
head_nodes shader function n (calls g args) = result_nodes shader n g ++ arguments_nodes function n 0 args
head_nodes shader function n (branches cond) = []
head_nodes shader function n (switches selector cases) = []
head_nodes shader function n (loops leave) = []

-- the node of a part
abbrev pub begin : PartSpan → Node
begin s = Part s.statement s.which

abbrev pub part_nodes : List PartSpan → List Node
part_nodes parts = map begin parts

-- of an analysed statement: control before it and after it, its parts, and what it gives and stores
abbrev pub visit_nodes : CoreModule → CoreFunction → Visit → List Node
visit_nodes shader function v = (Before v.statement.number ∷ After v.statement.number ∷ [] ++ part_nodes v.parts) ++ head_nodes shader function v.statement.number v.statement.head

-- ---- of a function

-- the contents of what a parameter of space function points to
abbrev pub content_nodes : ℕ → CoreParam → List Node
content_nodes i param = if points param then ContentsIn i ∷ ContentsOut i ∷ [] else []

-- of parameters from one on
abbrev pub contents_nodes : ℕ → List CoreParam → List Node
contents_nodes i [] = []
contents_nodes i (param ∷ later) = content_nodes i param ++ contents_nodes (i + 1) later

abbrev pub all_nodes : CoreModule → CoreFunction → List Visit → List Node
all_nodes shader function visits = (function_nodes function ++ contents_nodes 0 function.params) ++ flat_map (visit_nodes shader function) visits

-- ---- calls whose arguments have numbers of 32 bits

abbrev pub head_few : Head → Bool
head_few (calls g args) = are_few args
head_few _ = true
