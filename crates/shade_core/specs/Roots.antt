-- The variables of a module. (WGSL, "Address Spaces" and "Module Scope Variables".)
use Rattle.std.specs.Prelude.{◌<◌, length, Bool, true, false, ◌&&◌, ◌||◌, not, Option, None, Some, IsTrue}
use Rattle.shade_values.specs.declared.types.Space.{Space}
use Rattle.shade_values.specs.declared.types.Space.TheVariants as space
use Rattle.shade_values.specs.declared.types.Access.{Access}
use Rattle.shade_values.specs.declared.types.Access.TheVariants.{Read, ReadWrite}
use Rattle.shade_values.specs.declared.value.Value.{Value}
use Rattle.shade_values.specs.Table.{Table}
use Rattle.shade_values.specs.Shape.{Shape, shape_of}
use Rattle.shade_values.specs.Typed.{IsValueOf}
use Rattle.shade_core.specs.declared.module.Root.{Root}
use Rattle.shade_core.specs.Types.{is_data, is_constructible, is_buffer, holds_bool, holds_atomic}

-- the memory that a space has may be read alone, written, or either
abbrev pub access_fits : Space → Access → Bool
access_fits space.Uniform Read = true
access_fits space.Uniform ReadWrite = false
access_fits space.Storage access = true
access_fits _ Read = false
access_fits _ ReadWrite = true

abbrev pub is_writable : Access → Bool
is_writable Read = false
is_writable ReadWrite = true

-- a type that a variable of the module may have: uniform and storage memory have no bool, and atomics stand in workgroup memory
-- and in storage that may be written
abbrev pub space_takes : Space → Access → Shape → Bool
space_takes space.Function access shape = false
space_takes space.Private access shape = is_constructible shape
space_takes space.Workgroup access shape = is_data shape
space_takes space.Uniform access shape = is_constructible shape && not (holds_bool shape)
space_takes space.Storage access shape = is_buffer shape && (not (holds_bool shape) && (is_writable access || not (holds_atomic shape)))

-- a variable may begin with a value of its own in private memory alone
abbrev pub MayBegin : Shape → Space → Option Value → Type 0
MayBegin shape in_space None = Unit {0}
MayBegin shape space.Private (Some value) = IsValueOf shape value
MayBegin shape _ (Some value) = ⊥

-- the space, the access and the type of a variable go together
pub record IsPlaced (t : Table) (root : Root) : Type 0 where
  pub known : root.ty.0 < length t.types
  pub access : IsTrue (access_fits root.space root.access)
  pub takes : IsTrue (space_takes root.space root.access (shape_of t root.ty))

pub record IsRoot (t : Table) (root : Root) : Type 0 where
  pub placed : IsPlaced t root
  pub begins : MayBegin (shape_of t root.ty) root.space root.initial
