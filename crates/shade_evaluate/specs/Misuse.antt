-- Rule: the operations on constants that are faults, told at their operator or name. (WGSL, "Arithmetic Expressions", "Bit Expressions",
-- "Array Access Expression", `clamp`, `extractBits`, `insertBits`.) Vectors are taken part by part, and the first part with a fault tells it.
use Rattle.std.specs.Prelude.{ℕ, ◌^◌, List, [], ◌∷◌, Option, Some, None, map, length, fold, ℤ, pos, negsuc, neg_ℤ, ◌+ℤ◌, ◌-ℤ◌, ◌*ℤ◌, Bool, not, ◌&&◌, unsigned_abs, int_lt, int_le, nat_lt, is_none, if◌then◌else◌}
use Rattle.std.specs.List.{range_with_len}
use Rattle.std.specs.Option.{unwrap_or}
use Rattle.std.specs.Ordering.{int_eq}
use Rattle.shade_base.specs.declared.place.Place.{Place}
use Rattle.shade_values.specs.declared.types.Scalar.{Scalar}
use Rattle.shade_values.specs.declared.types.Scalar.TheVariants as scalar
use Rattle.shade_values.specs.declared.value.Leaf.{Leaf}
use Rattle.shade_values.specs.declared.value.Value.{Value}
use Rattle.shade_values.specs.declared.op.Op.{Op}
use Rattle.shade_values.specs.declared.op.Op.TheVariants.{Add, Subtract, Multiply, Divide, Remainder, ShiftLeft, ShiftRight, Negate, Abs, Clamp, Dot, Index, ExtractBits, InsertBits}
use Rattle.shade_values.specs.Numbers.{width}
use Rattle.shade_values.specs.Operations.{is_zero, amount}
use Rattle.shade_values.specs.Parts.{own_leaf, parts_of, lane, lanes}
use Rattle.shade_values.specs.Apply.{products}
use Rattle.shade_evaluate.specs.declared.fault.ConstFault.{ConstFault}
use Rattle.shade_evaluate.specs.declared.fault.ConstFault.TheVariants as fault
use Rattle.shade_evaluate.specs.Fits.{has_number, is_abstract}

-- the fault where something is so
abbrev pub told_if : Bool → ConstFault → Option ConstFault
told_if b f = if b then Some f else None

-- an exact result of AbstractInt that is outside of 64 bits; results of other scalars wrap
abbrev pub overflow : Scalar → ℤ → Place → Option ConstFault
overflow s exact at = told_if (is_abstract s && not (has_number scalar.Abstract exact)) (fault.Overflow at)

-- ---- two operands

-- the least number of a scalar
abbrev pub least : Scalar → ℤ
least scalar.Bool = pos 0
least scalar.I32 = negsuc 2147483647
least scalar.U32 = pos 0
least scalar.Abstract = negsuc 9223372036854775807

abbrev pub quotient_misuse : Leaf → Leaf → Place → Option ConstFault
quotient_misuse left right at =
    if is_zero right.number then Some (fault.ZeroDivisor at)
    else told_if (int_eq left.number (least left.scalar) && int_eq right.number (negsuc 0)) (fault.Overflow at)

-- an amount of at least as many bits as the shifted number has
abbrev pub is_too_far : Leaf → Leaf → Bool
is_too_far left right = int_le (pos (width left.scalar)) right.number

abbrev pub shift_misuse : Leaf → Leaf → Place → Option ConstFault
shift_misuse left right at =
    if is_too_far left right then Some (fault.ShiftTooLarge at)
    else overflow left.scalar (left.number *ℤ pos (2 ^ amount left right)) at

abbrev pub misuse_two : Op → Leaf → Leaf → Place → Option ConstFault
misuse_two Add left right at = overflow left.scalar (left.number +ℤ right.number) at
misuse_two Subtract left right at = overflow left.scalar (left.number -ℤ right.number) at
misuse_two Multiply left right at = overflow left.scalar (left.number *ℤ right.number) at
misuse_two Divide left right at = quotient_misuse left right at
misuse_two Remainder left right at = told_if (is_zero right.number) (fault.ZeroDivisor at)
misuse_two ShiftLeft left right at = shift_misuse left right at
misuse_two ShiftRight left right at = told_if (is_too_far left right) (fault.ShiftTooLarge at)
misuse_two _ left right at = None

-- ---- one operand and three

abbrev pub misuse_one : Op → Leaf → Place → Option ConstFault
misuse_one Negate leaf at = overflow leaf.scalar (neg_ℤ leaf.number) at
misuse_one Abs leaf at = overflow leaf.scalar (pos (unsigned_abs leaf.number)) at
misuse_one _ leaf at = None

abbrev pub misuse_three : Op → Leaf → Leaf → Leaf → Place → Option ConstFault
misuse_three Clamp leaf low high at = told_if (int_lt high.number low.number) (fault.BadRange at)
misuse_three _ first second third at = None

-- ---- part by part

-- the fault of part k
abbrev pub misuse_at : Op → List Value → Place → ℕ → Option ConstFault
misuse_at op (a ∷ []) at k = misuse_one op (lane k a) at
misuse_at op (a ∷ b ∷ []) at k = misuse_two op (lane k a) (lane k b) at
misuse_at op (a ∷ b ∷ c ∷ []) at k = misuse_three op (lane k a) (lane k b) (lane k c) at
misuse_at op _ at k = None

abbrev pub first_fault : List (Option ConstFault) → Option ConstFault
first_fault [] = None
first_fault (Some f ∷ others) = Some f
first_fault (None ∷ others) = first_fault others

abbrev pub misuse_by_parts : Op → List Value → Place → Option ConstFault
misuse_by_parts op args at = first_fault (map (misuse_at op args at) (range_with_len 0 (unwrap_or (lanes args) 1)))

-- ---- over whole values

-- the exact sum of the products of the parts
abbrev pub exact_dot : Value → Value → ℤ
exact_dot a b = fold (λ s x. s +ℤ x) (pos 0) (products a b)

abbrev pub dot_misuse : List Value → Place → Option ConstFault
dot_misuse (a ∷ b ∷ []) at = overflow (lane 0 a).scalar (exact_dot a b) at
dot_misuse _ at = None

abbrev pub named_below : ℕ → ℤ → Option ℕ
named_below count (pos n) = if nat_lt n count then Some n else None
named_below count (negsuc n) = None

-- the part that an index names, where it is there
abbrev pub named_part : Value → Value → Option ℕ
named_part whole index = named_below (length (parts_of whole)) (own_leaf index).number

abbrev pub index_misuse : List Value → Place → Option ConstFault
index_misuse (whole ∷ index ∷ []) at = told_if (is_none (named_part whole index)) (fault.IndexOutside at)
index_misuse _ at = None

-- a field of bits that ends above the 32nd
abbrev pub field_misuse : Value → Value → Place → Option ConstFault
field_misuse offset count at = told_if (int_lt (pos 32) ((own_leaf offset).number +ℤ (own_leaf count).number)) (fault.BadRange at)

abbrev pub extract_misuse : List Value → Place → Option ConstFault
extract_misuse (from ∷ offset ∷ count ∷ []) at = field_misuse offset count at
extract_misuse _ at = None

abbrev pub insert_misuse : List Value → Place → Option ConstFault
insert_misuse (into ∷ new ∷ offset ∷ count ∷ []) at = field_misuse offset count at
insert_misuse _ at = None

-- ---- the table

abbrev pub misuse_of : Op → List Value → Place → Option ConstFault
misuse_of Add args at = misuse_by_parts Add args at
misuse_of Subtract args at = misuse_by_parts Subtract args at
misuse_of Multiply args at = misuse_by_parts Multiply args at
misuse_of Divide args at = misuse_by_parts Divide args at
misuse_of Remainder args at = misuse_by_parts Remainder args at
misuse_of ShiftLeft args at = misuse_by_parts ShiftLeft args at
misuse_of ShiftRight args at = misuse_by_parts ShiftRight args at
misuse_of Negate args at = misuse_by_parts Negate args at
misuse_of Abs args at = misuse_by_parts Abs args at
misuse_of Clamp args at = misuse_by_parts Clamp args at
misuse_of Dot args at = dot_misuse args at
misuse_of Index args at = index_misuse args at
misuse_of ExtractBits args at = extract_misuse args at
misuse_of InsertBits args at = insert_misuse args at
misuse_of _ args at = None
