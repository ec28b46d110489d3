-- Rules: the variables of a module in memory. (WGSL, "Address Spaces" and "Variable and Value Declarations".)
use Rattle.std.specs.Prelude.{ℕ, Bool, true, false, Option, None, Some, slice_get, if◌then◌else◌}
use Rattle.shade_values.specs.declared.types.Space.{Space}
use Rattle.shade_values.specs.declared.types.Space.TheVariants as space
use Rattle.shade_values.specs.declared.value.Value.{Value}
use Rattle.shade_values.specs.Shape.{Shape, pointer, shape_of}
use Rattle.shade_words.specs.Types.{lay_of}
use Rattle.shade_words.specs.Words.{word_in, word_or}
use Rattle.shade_core.specs.declared.module.CoreModule.{CoreModule}
use Rattle.shade_core.specs.declared.module.Root.{Root}
use Rattle.shade_spots.specs.Spots.{Variable, shared, private, Spot}

-- memory of which each lane has its own
abbrev pub is_private : Space → Bool
is_private space.Private = true
is_private _ = false

abbrev pub variable_in : Bool → ℕ → Variable
variable_in true root = private root
variable_in false root = shared root

-- what stands where there is no such variable
abbrev pub no_spot : Spot
no_spot = record { variable = private 0; first = 0; shape = pointer }

abbrev pub root_spot_by : CoreModule → ℕ → Option Root → Spot
root_spot_by shader number None = no_spot
root_spot_by shader number (Some root) = record { variable = variable_in (is_private root.space) number; first = 0; shape = shape_of shader.types root.ty }

-- the whole of the variable with this number
abbrev pub root_spot : CoreModule → ℕ → Spot
root_spot shader number = root_spot_by shader number (slice_get shader.roots number)

abbrev pub space_by : Option Root → Option Space
space_by None = None
space_by (Some root) = Some root.space

-- the space of the variable with this number
abbrev pub space_of : CoreModule → ℕ → Option Space
space_of shader number = space_by (slice_get shader.roots number)

-- ---- what private variables begin with

abbrev pub initial_word : Shape → Option Value → ℕ → ℕ
initial_word shape None i = 0
initial_word shape (Some v) i = word_or 0 (word_in (lay_of shape) v i)

abbrev pub private_word_by : CoreModule → Option Root → ℕ → ℕ
private_word_by shader None i = 0
private_word_by shader (Some root) i = if is_private root.space then initial_word (shape_of shader.types root.ty) root.initial i else 0

-- A private variable begins as its initial value, and as zero where it has none.
abbrev pub private_word : CoreModule → (number i : ℕ) → ℕ
private_word shader number i = private_word_by shader (slice_get shader.roots number) i
