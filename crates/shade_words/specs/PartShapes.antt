-- Rules: the types of the parts of a type.
use Rattle.std.specs.Prelude.{◌≡◌, ℕ, zero, suc, ◌<◌, List, [], length, slice_index_or}
use Rattle.shade_values.specs.declared.types.TypeId.{TypeId}
use Rattle.shade_values.specs.declared.types.Scalar.TheVariants as scalar
use Rattle.shade_values.specs.declared.value.Value.{Value}
use Rattle.shade_values.specs.Parts.{no_value}
use Rattle.shade_values.specs.Typed.{IsValueOf}
use Rattle.shade_words.specs.Types.{lay_of}
use Rattle.shade_words.specs.Ways.{part_count, IsComposite}
use Rattle.shade_values.specs.Shape.{Shape, plain, vector, array, runtime_array, atomic, structure, exchanged, pointer, Shapes, no_member, member}

abbrev pub member_at : Shapes → ℕ → Shape
member_at no_member k = pointer
member_at (member m ms) zero = m
member_at (member m ms) (suc k) = member_at ms k

-- the component, the element or the member with a number
abbrev pub part_shape : Shape → ℕ → Shape
part_shape (plain s) k = pointer
part_shape (vector n s) k = plain s
part_shape (array element n) k = element
part_shape (runtime_array element) k = element
part_shape (atomic s) k = pointer
part_shape (structure members) k = member_at members k
part_shape (exchanged s) zero = plain s
part_shape (exchanged s) (suc k) = plain scalar.Bool
part_shape pointer k = pointer

-- values of the types of all parts of a composite
pub record ArePartsOf (s : Shape) (parts : List Value) : Type 0 where
  pub composite : IsComposite (lay_of s)
  pub count : length parts ≡ part_count (lay_of s)
  pub typed : (k : ℕ) → k < length parts → IsValueOf (part_shape s k) (slice_index_or parts k no_value)

-- the type of the member with a number
abbrev pub member_id : List (List ℕ × TypeId) → ℕ → TypeId
member_id members k = (slice_index_or members k ([], record { 0 = 0 })).1
