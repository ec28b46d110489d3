-- The definitions of a function's tracked variables, in their order.
use Rattle.std.specs.Prelude.{ℕ, ◌+◌, Bool, true, false, ◌&&◌, nat_lt, if◌then◌else◌, Option, Some, None, List, [], ◌∷◌, ◌++◌, length, slice_get}
use Rattle.shade_values.specs.declared.types.Space.TheVariants as space
use Rattle.shade_core.specs.declared.statement.Base.{Base}
use Rattle.shade_core.specs.declared.statement.Base.TheVariants.{Local, Module, Pointee}
use Rattle.shade_core.specs.declared.module.CoreFunction.{CoreFunction}
use Rattle.shade_core.specs.declared.module.CoreParam.{CoreParam}
use Rattle.shade_core.specs.declared.module.CoreParam.TheVariants as param
use Rattle.shade_core.specs.Code.{code_of}
use Rattle.shade_flow.specs.declared.definition.Definition.{Definition}
use Rattle.shade_flow.specs.declared.definition.Definition.TheVariants.{Entry, At, Argument}
use Rattle.shade_flow.specs.declared.definition.Defined.{Defined}
use Rattle.shade_flow.specs.declared.definition.Write.{Write}
use Rattle.shade_flow.specs.Writes.{defined, writes_of}

-- a parameter that is a pointer of space function
abbrev pub points : CoreParam → Bool
points (param.Plain ty) = false
points (param.Pointer space.Function ty) = true
points (param.Pointer _ ty) = false
points (param.Input input) = false

abbrev pub points_there : Option CoreParam → Bool
points_there None = false
points_there (Some param) = points param

-- The variables whose definitions are followed: the function's locals, and what its parameters of space function point to.
abbrev pub tracked : CoreFunction → Base → Bool
tracked function (Local i) = nat_lt i (length function.locals)
tracked function (Module i) = false
tracked function (Pointee i) = points_there (slice_get function.params i)

-- the definitions that stand at the entry, by the parameters from one on
abbrev pub entries_from : ℕ → List CoreParam → List Defined
entries_from i [] = []
entries_from i (param ∷ later) = (if points param then defined (Pointee i) (Entry i) ∷ [] else []) ++ entries_from (i + 1) later

-- whether a call makes a definition through an argument
abbrev pub by_call : Definition → Bool
by_call (Entry i) = false
by_call (At n) = false
by_call (Argument n j) = true

abbrev pub same_bool : Bool → Bool → Bool
same_bool true b = b
same_bool false true = false
same_bool false false = true

-- the definition of a write, where it is of a tracked variable and by a call, or by another statement
abbrev pub kept_one : CoreFunction → Bool → Write → List Defined
kept_one function calls write = if tracked function write.defined.variable && same_bool (by_call write.defined.by) calls then write.defined ∷ [] else []

-- of some writes the definitions of tracked variables, those by calls or the others
abbrev pub kept : CoreFunction → Bool → List Write → List Defined
kept function calls [] = []
kept function calls (write ∷ later) = kept_one function calls write ++ kept function calls later

-- entries, then statements, then arguments of calls
abbrev pub all_kept : CoreFunction → List Write → List Defined
all_kept function writes = entries_from 0 function.params ++ (kept function false writes ++ kept function true writes)

abbrev pub definitions_of : CoreFunction → List Defined
definitions_of function = all_kept function (writes_of (code_of function.body))
