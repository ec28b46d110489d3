-- On the way to a proof: operations whose result is a scalar or a vector, part by part.
use Rattle.std.specs.Prelude.{◌≡◌, ℕ, length, Bool, true, false, List, [], ◌∷◌, Option, Some, None, slice_index_or, pos}
use Rattle.std.specs.List.{flat_map, list_all, list_any}
use Rattle.shade_values.specs.declared.types.Scalar.{Scalar}
use Rattle.shade_values.specs.declared.types.ShadeType.{ShadeType}
use Rattle.shade_values.specs.declared.types.ShadeType.TheVariants as type
use Rattle.shade_values.specs.declared.value.Leaf.{Leaf}
use Rattle.shade_values.specs.declared.value.Value.{Value}
use Rattle.shade_values.specs.declared.op.Op.{Op}
use Rattle.shade_values.specs.declared.op.Op.TheVariants.{Vector, Make, Swizzle, All, Any, Dot, Member, Index}
use Rattle.shade_values.specs.Numbers.{truth}
use Rattle.shade_values.specs.Operations.{converted}
use Rattle.shade_values.specs.Parts.{no_leaf, leaves_of, lane}
use Rattle.shade_values.specs.Apply.{at_lane, is_true, dot}
use Rattle.shade_values.specs.Shape.{Shape, plain, vector}

-- a scalar type, or a vector
abbrev pub IsFormed : ShadeType → Type 0
IsFormed (type.Plain s) = Unit {0}
IsFormed (type.Vector n s) = Unit {0}
IsFormed _ = ⊥

-- an operation that moves parts as they are
abbrev pub moves : Op → Bool
moves (Make ty) = true
moves (Member k) = true
moves Index = true
moves _ = false

-- a swizzle has four letters, of which the first ones count
abbrev pub HasLetters : Op → Type 0
HasLetters (Swizzle n letters) = length letters ≡ 4
HasLetters _ = Unit {0}

-- the shape of a scalar, and that of a vector of so many parts
abbrev pub form_shape : Option ℕ → Scalar → Shape
form_shape None s = plain s
form_shape (Some n) s = vector n s

-- how many parts
abbrev pub count_of : Option ℕ → ℕ
count_of None = 1
count_of (Some n) = n

-- part k of a vector of these arguments
abbrev pub vector_leaf : Scalar → List Value → ℕ → Leaf
vector_leaf s [] k = record { scalar = s; number = pos 0 }
vector_leaf s (v ∷ []) k = converted s (lane k v)
vector_leaf s args k = converted s (slice_index_or (flat_map leaves_of args) k no_leaf)

-- part k of what an operation gives
abbrev pub part_leaf : Op → List Value → ℕ → Leaf
part_leaf (Vector n s) args k = vector_leaf s args k
part_leaf (Swizzle n letters) (v ∷ []) k = lane (slice_index_or letters k 0) v
part_leaf All (v ∷ []) k = truth (list_all is_true (leaves_of v))
part_leaf Any (v ∷ []) k = truth (list_any is_true (leaves_of v))
part_leaf Dot (a ∷ b ∷ []) k = dot a b
part_leaf op args k = at_lane op args k
