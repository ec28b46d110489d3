-- What a run of a module with buffers may be handed. (WGSL, "Address Spaces" and "Buffer Binding Determines Runtime-Sized Array Element Count".)
use Rattle.std.specs.Prelude.{◌≡◌, ℕ, ◌/◌, ◌<◌, ◌≤◌, Bool, true, false, List, [], ◌∷◌, map, length, sum, is_some, slice_index}
use Rattle.shade_values.specs.declared.types.Space.{Space}
use Rattle.shade_values.specs.declared.types.Space.TheVariants as space
use Rattle.shade_values.specs.Shape.{shape_of}
use Rattle.shade_values.specs.Layouts.{layout}
use Rattle.shade_core.specs.declared.module.Root.{Root}
use Rattle.shade_core.specs.declared.module.CoreModule.{CoreModule}
use Rattle.shade_mem.specs.declared.inputs.Inputs.{Inputs}
use Rattle.shade_mem.specs.Inputs.{size_of}

abbrev pub is_shared : Space → Bool
is_shared space.Storage = true
is_shared space.Uniform = true
is_shared _ = false

-- a variable whose words are handed in
abbrev pub is_buffer : Root → Bool
is_buffer root = is_shared root.space

-- the words of a variable's type; a runtime-sized array counts with one element
abbrev pub least_words : CoreModule → Root → ℕ
least_words shader root = (layout (shape_of shader.types root.ty)).size / 4

-- a buffer has at least the words of its type, and no other variable is handed any
abbrev pub WordsFitBy : Bool → ℕ → List ℕ → Type 0
WordsFitBy true least words = least ≤ length words
WordsFitBy false least words = words ≡ []

abbrev pub WordsFit : CoreModule → Root → List ℕ → Type 0
WordsFit shader root words = WordsFitBy (is_buffer root) (least_words shader root) words

-- one list of words for each variable
abbrev pub AllFit : CoreModule → List Root → List (List ℕ) → Type 0
AllFit shader [] [] = Unit {0}
AllFit shader (root ∷ roots) (words ∷ others) = WordsFit shader root words × AllFit shader roots others
AllFit shader _ _ = ⊥

-- An entry, from 1 to 65,535 workgroups in each direction, one of them, and words for each buffer, at most 1,048,576 together.
pub record IsFitting (shader : CoreModule) (inputs : Inputs) : Type 0 where
  pub entry : is_some (size_of shader inputs.entry) ≡ true
  pub some : (i : ℕ) → i < 3 → 1 ≤ slice_index inputs.groups i
  pub most : (i : ℕ) → i < 3 → slice_index inputs.groups i ≤ 65535
  pub group : (i : ℕ) → i < 3 → slice_index inputs.group i < slice_index inputs.groups i
  pub words : AllFit shader shader.roots inputs.words
  pub few : sum (map (λ words. length words) inputs.words) ≤ 1048576
