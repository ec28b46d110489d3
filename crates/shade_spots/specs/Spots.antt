-- Rules: what a view names while a lane runs: a variable, and the words of it that hold a value of a type. (WGSL, "Memory Views" and
-- "Forming Reference and Pointer Values".)
use Rattle.std.specs.Prelude.{ℕ, ◌+◌, ◌-◌, ◌/◌, List, [], ◌∷◌, Option, None, Some}
use Rattle.shade_values.specs.declared.value.Leaf.{Leaf}
use Rattle.shade_values.specs.declared.value.Value.{Value}
use Rattle.shade_values.specs.Layouts.{layout, stride_of}
use Rattle.shade_values.specs.Numbers.{nearest}
use Rattle.shade_values.specs.Parts.{own_leaf}
use Rattle.shade_values.specs.Shape.{Shape, runtime_array}
use Rattle.shade_words.specs.Lays.{size}
use Rattle.shade_words.specs.PartShapes.{part_shape}
use Rattle.shade_words.specs.Types.{lay_of}
use Rattle.shade_words.specs.Ways.{part_offset, part_count}
use Rattle.shade_core.specs.declared.statement.Operand.{Operand}
use Rattle.shade_core.specs.declared.statement.ViewStep.{ViewStep}
use Rattle.shade_core.specs.declared.statement.ViewStep.TheVariants.{Member, Index}

-- A variable that is there while a lane runs: one of the module, which all lanes share or of which each lane has its own, or a local one
-- of an open call, which has so many others outside of it.
pub data Variable : Type 0 where
  shared : (root : ℕ) → Variable
  private : (root : ℕ) → Variable
  local : (depth number : ℕ) → Variable

-- the words of a variable, from one on, in which a value of a type lies
pub record Spot : Type 0 where
  pub variable : Variable
  pub first : ℕ
  pub shape : Shape

-- The words of a variable from one on, as far as a runtime-sized array may need them: it stands at the end of a buffer, and no other
-- variable holds one. The number of words of each variable of the module is given.
abbrev pub words_left : (lengths : ℕ → ℕ) → Variable → (first : ℕ) → ℕ
words_left lengths (shared root) first = lengths root - first
words_left lengths (private root) first = 0
words_left lengths (local depth number) first = 0

-- How many parts a type has; a runtime-sized array has as many elements as its buffer has room for behind the array's first word. (WGSL,
-- "Buffer Binding Determines Runtime-Sized Array Element Count".)
abbrev pub parts_there : (left : ℕ) → Shape → ℕ
parts_there left (runtime_array element) = left / (stride_of (layout element) / 4)
parts_there left shape = part_count (lay_of shape)

-- how many parts stand at a spot
abbrev pub part_total : (ℕ → ℕ) → Spot → ℕ
part_total lengths s = parts_there (words_left lengths s.variable s.first) s.shape

-- the spot of the part with this number
abbrev pub part_spot : Spot → ℕ → Spot
part_spot s k = record { variable = s.variable; first = s.first + part_offset (lay_of s.shape) k; shape = part_shape s.shape k }

-- the spot of the part that an index names, or of the nearest one where it names none
abbrev pub element_spot : (ℕ → ℕ) → Spot → Leaf → Spot
element_spot lengths s index = part_spot s (nearest index.number (part_total lengths s))

-- where a step of a view leads, by the values of operands
abbrev pub step_spot : (ℕ → ℕ) → (Operand → Value) → Spot → ViewStep → Spot
step_spot lengths values s (Member k) = part_spot s k
step_spot lengths values s (Index operand) = element_spot lengths s (own_leaf (values operand))

-- where the steps of a view lead, from left to right
abbrev pub steps_spot : (ℕ → ℕ) → (Operand → Value) → Spot → List ViewStep → Spot
steps_spot lengths values s [] = s
steps_spot lengths values s (step ∷ steps) = steps_spot lengths values (step_spot lengths values s step) steps

-- ---- spots of the memory that lanes share

-- so many words, from one on, of a variable of the module that all lanes share
pub record Piece : Type 0 where
  pub root : ℕ
  pub first : ℕ
  pub count : ℕ

abbrev pub piece_by : Variable → (first count : ℕ) → Option Piece
piece_by (shared root) first count = Some (record { root = root; first = first; count = count })
piece_by (private root) first count = None
piece_by (local depth number) first count = None

-- All words of a spot of what lanes share, from the first to the last, those between the parts of a composite too.
abbrev pub piece_of : Spot → Option Piece
piece_of s = piece_by s.variable s.first (size (lay_of s.shape))
