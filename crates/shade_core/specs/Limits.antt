-- How much a module may have.
use Rattle.std.specs.Prelude.{◌≡◌, ℕ, ◌+◌, ◌*◌, ◌≤◌, ◌<◌, List, [], ◌∷◌, Option, None, Some, map, length, sum, slice_get, slice_index, IsSome}
use Rattle.std.specs.Option.{option_to_list}
use Rattle.std.specs.List.{flat_map}
use Rattle.shade_values.specs.declared.types.Space.{Space}
use Rattle.shade_values.specs.declared.types.Space.TheVariants as space
use Rattle.shade_values.specs.declared.types.ShadeType.{ShadeType}
use Rattle.shade_values.specs.declared.types.TypeId.{TypeId}
use Rattle.shade_values.specs.Table.{Table, StructView}
use Rattle.shade_values.specs.Shape.{shape_of}
use Rattle.shade_values.specs.Layouts.{layout}
use Rattle.shade_core.specs.declared.module.Root.{Root}
use Rattle.shade_core.specs.declared.module.CoreFunction.{CoreFunction}
use Rattle.shade_core.specs.declared.module.CoreModule.{CoreModule}
use Rattle.shade_core.specs.Types.{spelled}
use Rattle.shade_core.specs.Views.{ValueTypes}
use Rattle.shade_core.specs.Chains.{CallsIn, Calls, MeetsIn, Chain}
use Rattle.shade_core.specs.Frames.{frame_length}

-- in bytes
abbrev pub size_at : Table → TypeId → ℕ
size_at t id = (layout (shape_of t id)).size

abbrev pub size_of : Table → ShadeType → ℕ
size_of t ty = (layout (spelled t ty)).size

abbrev pub in_space : Space → Space → ℕ → ℕ
in_space space.Workgroup space.Workgroup size = size
in_space space.Private space.Private size = size
in_space _ _ size = 0

-- the variables of a space, one after another with no room between
abbrev pub space_bytes : Table → Space → List Root → ℕ
space_bytes t s roots = sum (map (λ root. in_space s root.space (size_at t root.ty)) roots)

abbrev pub local_bytes : Table → CoreFunction → ℕ
local_bytes t f = sum (map (size_at t) f.locals)

-- the values that the statements of a function give
abbrev pub value_bytes : Table → ValueTypes → ℕ
value_bytes t values = sum (map (size_of t) (flat_map option_to_list values))

abbrev pub lane_count : List ℕ → ℕ
lane_count size = slice_index size 0 * slice_index size 1 * slice_index size 2

-- the lanes of an entry
abbrev pub lanes_of : Option (List ℕ) → ℕ
lanes_of None = 0
lanes_of (Some size) = lane_count size

-- what a function of a lane keeps, in bytes
pub record Keeps (shader : CoreModule) (values : ℕ → ValueTypes) (k total : ℕ) : Type 0 where
  pub function : CoreFunction
  pub at : slice_get shader.functions k ≡ Some function
  pub bytes : total ≡ local_bytes shader.types function + value_bytes shader.types (values k)

pub record KeepsAndCalls (shader : CoreModule) (values : ℕ → ValueTypes) (k g total : ℕ) : Type 0 where
  pub keeps : Keeps shader values k total
  pub calls : Calls shader k g

-- bytes of a lane over a chain of calls
abbrev pub LaneBytes : CoreModule → (ℕ → ValueTypes) → ℕ → ℕ → Type 0
LaneBytes shader values = Chain (Keeps shader values) (KeepsAndCalls shader values)

-- functions of a chain of calls
abbrev pub Depth : CoreModule → ℕ → ℕ → Type 0
Depth shader = Chain (λ k total. total ≡ 1) (λ k g total. Calls shader k g × (total ≡ 1))

-- how many words an instance has: a frame for each function of a chain of calls, to a place where all lanes meet
abbrev pub InstanceWords : CoreModule → ℕ → ℕ → Type 0
InstanceWords shader = Chain (λ k total. (loops : ℕ) × MeetsIn shader k loops × (total ≡ frame_length loops)) (λ k g total. (loops : ℕ) × CallsIn shader k g loops × (total ≡ frame_length loops))

abbrev pub IsEntry : CoreModule → ℕ → Type 0
IsEntry shader k = (f : CoreFunction) × (slice_get shader.functions k ≡ Some f) × IsSome f.entry

-- no chain of calls from an entry adds up to more
abbrev pub AtMost : CoreModule → (ℕ → ℕ → Type 0) → ℕ → Type 0
AtMost shader Adds most = (k total : ℕ) → IsEntry shader k → Adds k total → total ≤ most

-- what holds of each function
pub record KeepsFunctionLimits (t : Table) (f : CoreFunction) : Type 0 where
  pub params : length f.params ≤ 255
  pub lanes : lanes_of f.entry ≤ 256
  pub locals : local_bytes t f ≤ 8192

-- The limits: a struct has at most 1,023 members, a lane keeps at most 65,536 words of four bytes.
pub record KeepsLimits (shader : CoreModule) (values : ℕ → ValueTypes) : Type 0 where
  pub functions : (k : ℕ) (f : CoreFunction) → slice_get shader.functions k ≡ Some f → KeepsFunctionLimits shader.types f
  pub members : (k : ℕ) (s : StructView) → slice_get shader.types.structs k ≡ Some s → length s.members ≤ 1023
  pub workgroup : space_bytes shader.types space.Workgroup shader.roots ≤ 16384
  pub private : space_bytes shader.types space.Private shader.roots ≤ 8192
  pub lane : AtMost shader (LaneBytes shader values) 262144
  pub depth : AtMost shader (Depth shader) 32
  pub words : AtMost shader (InstanceWords shader) 128
