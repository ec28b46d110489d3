-- The value of an operation on values.
use Rattle.std.specs.Prelude.{ℕ, List, [], ◌∷◌, Option, Some, None, map, length, take, replicate, fold, ℤ, pos, ◌+ℤ◌, ◌*ℤ◌, Bool, not}
use Rattle.std.specs.List.{flat_map, list_all, list_any, range_with_len}
use Rattle.shade_values.specs.declared.types.Scalar.{Scalar}
use Rattle.shade_values.specs.declared.value.Leaf.{Leaf}
use Rattle.shade_values.specs.declared.value.Value.{Value, Value-F, out-Value}
use Rattle.shade_values.specs.declared.value.Value.TheOpen.{One, Many}
use Rattle.shade_values.specs.declared.value.Value.TheVariants as value
use Rattle.shade_values.specs.declared.op.Op.{Op}
use Rattle.shade_values.specs.declared.op.Op.TheVariants.{Vector, Make, Member, Index, Swizzle, All, Any, Dot}
use Rattle.shade_values.specs.Numbers.{kept, truth, nearest}
use Rattle.shade_values.specs.Operations.{unary, binary, ternary, quaternary, converted, is_zero}
use Rattle.shade_values.specs.Parts.{no_leaf, own_leaf, parts_of, part_at, leaves_of, lane, lanes}

-- ---- part by part

-- the operation on part k of each argument
abbrev pub at_lane : Op → List Value → ℕ → Leaf
at_lane op (a ∷ []) k = unary op (lane k a)
at_lane op (a ∷ b ∷ []) k = binary op (lane k a) (lane k b)
at_lane op (a ∷ b ∷ c ∷ []) k = ternary op (lane k a) (lane k b) (lane k c)
at_lane op (a ∷ b ∷ c ∷ d ∷ []) k = quaternary op (lane k a) (lane k b) (lane k c) (lane k d)
at_lane op _ k = no_leaf

abbrev pub over_lanes : Op → List Value → Option ℕ → Value
over_lanes op args None = value.One (at_lane op args 0)
over_lanes op args (Some n) = value.Many (map (λ k. value.One (at_lane op args k)) (range_with_len 0 n))

abbrev pub by_parts : Op → List Value → Value
by_parts op args = over_lanes op args (lanes args)

-- ---- over the parts of a vector

abbrev pub is_true : Leaf → Bool
is_true leaf = not (is_zero leaf.number)

-- the products of the parts, added
abbrev pub products : Value → Value → List ℤ
products a b = map (λ k. (lane k a).number *ℤ (lane k b).number) (range_with_len 0 (length (parts_of a)))

abbrev pub dot : Value → Value → Leaf
dot a b = kept (lane 0 a) (fold (λ s x. s +ℤ x) (pos 0) (products a b))

-- ---- constructors and accesses

-- a part of a vector of this scalar
abbrev pub converted_part : Scalar → Leaf → Value
converted_part s leaf = value.One (converted s leaf)

abbrev pub vector_of_one : ℕ → Scalar → Value-F Value → List Value
vector_of_one n s (One leaf) = replicate n (converted_part s leaf)
vector_of_one n s (Many parts) = map (λ v. converted_part s (own_leaf v)) parts

-- the parts of a vector: zeros, one scalar for all, or the parts of the arguments in order
abbrev pub vector_parts : ℕ → Scalar → List Value → List Value
vector_parts n s [] = replicate n (value.One (record { scalar = s; number = pos 0 }))
vector_parts n s (v ∷ []) = vector_of_one n s (out-Value v)
vector_parts n s args = map (converted_part s) (flat_map leaves_of args)

-- the part that an index names, or the nearest one
abbrev pub element : Value → Value → Value
element v index = part_at v (nearest (own_leaf index).number (length (parts_of v)))

abbrev pub Apply : Op → List Value → Value
Apply (Vector n s) args = value.Many (vector_parts n s args)
Apply (Make ty) args = value.Many args
Apply (Member k) (v ∷ []) = part_at v k
Apply Index (v ∷ index ∷ []) = element v index
Apply (Swizzle n letters) (v ∷ []) = value.Many (map (λ k. value.One (lane k v)) (take n letters))
Apply All (v ∷ []) = value.One (truth (list_all is_true (leaves_of v)))
Apply Any (v ∷ []) = value.One (truth (list_any is_true (leaves_of v)))
Apply Dot (a ∷ b ∷ []) = value.One (dot a b)
Apply op args = by_parts op args
