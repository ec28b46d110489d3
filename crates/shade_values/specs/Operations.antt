-- The operation table: what each operator and built-in function makes of its arguments. (WGSL, "Operators and Expressions" and
-- "Built-in Functions".) An operation that takes no such arguments is given a value all the same, which no caller sees.
use Rattle.std.specs.Prelude.{ℕ, ◌+◌, ◌-◌, ◌*◌, ◌/◌, ◌%◌, ◌^◌, min, ℤ, pos, negsuc, neg_ℤ, ◌+ℤ◌, ◌-ℤ◌, ◌*ℤ◌, Bool, not, ◌&&◌, ◌||◌, ◌==◌, nat_lt, unsigned_abs, count_ones, int_div, int_rem, int_lt, int_le, if◌then◌else◌}
use Rattle.std.specs.Int.{w32, w64, int_min, int_max, int_signum, int_bit_and, int_bit_or, int_bit_xor, int_bit_not, int_shl, int_shr, leading_zeros, trailing_zeros, reverse_bits, bit_not}
use Rattle.std.specs.Ordering.{int_eq}
use Rattle.shade_values.specs.declared.types.Scalar.{Scalar}
use Rattle.shade_values.specs.declared.types.Scalar.TheVariants as scalar
use Rattle.shade_values.specs.declared.value.Leaf.{Leaf}
use Rattle.shade_values.specs.declared.op.Op.{Op}
use Rattle.shade_values.specs.declared.op.Op.TheVariants.{Add, Subtract, Multiply, Divide, Remainder, Negate, Complement, And, Or, Xor, ShiftLeft, ShiftRight, Equal, NotEqual, Less, LessEqual, Greater, GreaterEqual, Not, LogicalAnd, LogicalOr, Convert, Bitcast, Select, Abs, Sign, Min, Max, Clamp, CountOneBits, CountLeadingZeros, CountTrailingZeros, ReverseBits, FirstLeadingBit, FirstTrailingBit, ExtractBits, InsertBits}
use Rattle.shade_values.specs.Numbers.{modulo, word, wrapped, width, kept, truth}

abbrev pub is_zero : ℤ → Bool
is_zero z = int_eq z (pos 0)

-- ---- two operands

-- towards zero; a division by zero leaves the dividend
abbrev pub quotient : ℤ → ℤ → ℤ
quotient a b = if is_zero b then a else int_div a b

-- with the dividend's sign; 0 of a division by zero
abbrev pub remainder : ℤ → ℤ → ℤ
remainder a b = if is_zero b then pos 0 else int_rem a b

-- how far a leaf is shifted: modulo its width
abbrev pub amount : Leaf → Leaf → ℕ
amount left right = modulo (width left.scalar) right.number

abbrev pub binary : Op → Leaf → Leaf → Leaf
binary Add left right = kept left (left.number +ℤ right.number)
binary Subtract left right = kept left (left.number -ℤ right.number)
binary Multiply left right = kept left (left.number *ℤ right.number)
binary Divide left right = kept left (quotient left.number right.number)
binary Remainder left right = kept left (remainder left.number right.number)
binary And left right = kept left (int_bit_and w64 left.number right.number)
binary Or left right = kept left (int_bit_or w64 left.number right.number)
binary Xor left right = kept left (int_bit_xor w64 left.number right.number)
binary ShiftLeft left right = kept left (int_shl w64 left.number (amount left right))
binary ShiftRight left right = kept left (int_shr left.number (amount left right))
binary Min left right = kept left (int_min left.number right.number)
binary Max left right = kept left (int_max left.number right.number)
binary Equal left right = truth (int_eq left.number right.number)
binary NotEqual left right = truth (not (int_eq left.number right.number))
binary Less left right = truth (int_lt left.number right.number)
binary LessEqual left right = truth (int_le left.number right.number)
binary Greater left right = truth (int_lt right.number left.number)
binary GreaterEqual left right = truth (int_le right.number left.number)
binary LogicalAnd left right = truth (not (is_zero left.number) && not (is_zero right.number))
binary LogicalOr left right = truth (not (is_zero left.number) || not (is_zero right.number))
binary _ left right = left

-- ---- one operand

-- the value in another scalar: the same 32 bits, and of a `bool` whether they are not 0
abbrev pub converted : Scalar → Leaf → Leaf
converted scalar.Bool leaf = truth (not (word leaf.number == 0))
converted s leaf = record { scalar = s; number = wrapped s leaf.number }

-- the place of the highest 1 bit, and -1 where there is none
abbrev pub highest_bit : ℕ → ℤ
highest_bit n = if n == 0 then negsuc 0 else pos (31 - leading_zeros w32 n)

-- the place of the lowest 1 bit, and -1 where there is none
abbrev pub lowest_bit : ℕ → ℤ
lowest_bit n = if n == 0 then negsuc 0 else pos (trailing_zeros w32 n)

-- a number's own bits, and of a negative one the flipped bits, whose highest 1 is the highest 0 of its own
abbrev pub sign_flipped : ℤ → ℕ
sign_flipped (pos n) = word (pos n)
sign_flipped (negsuc n) = bit_not w32 (word (negsuc n))

abbrev pub unary : Op → Leaf → Leaf
unary Negate leaf = kept leaf (neg_ℤ leaf.number)
unary Complement leaf = kept leaf (int_bit_not w64 leaf.number)
unary Not leaf = truth (is_zero leaf.number)
unary (Convert s) leaf = converted s leaf
unary (Bitcast parts s) leaf = converted s leaf
unary Abs leaf = kept leaf (pos (unsigned_abs leaf.number))
unary Sign leaf = kept leaf (int_signum leaf.number)
unary CountOneBits leaf = kept leaf (pos (count_ones (word leaf.number)))
unary CountLeadingZeros leaf = kept leaf (pos (leading_zeros w32 (word leaf.number)))
unary CountTrailingZeros leaf = kept leaf (pos (trailing_zeros w32 (word leaf.number)))
unary ReverseBits leaf = kept leaf (pos (reverse_bits w32 (word leaf.number)))
unary FirstLeadingBit leaf = kept leaf (highest_bit (sign_flipped leaf.number))
unary FirstTrailingBit leaf = kept leaf (lowest_bit (word leaf.number))
unary _ leaf = leaf

-- ---- three and four operands

-- where a field of bits begins, and how many it has: the offset at most 32, and the count at most what is left of 32
abbrev pub field_offset : Leaf → ℕ
field_offset offset = min (word offset.number) 32

abbrev pub field_count : Leaf → Leaf → ℕ
field_count offset count = min (word count.number) (32 - field_offset offset)

-- a field of `count` bits as a number, with its sign
abbrev pub signed_field : ℕ → ℕ → ℤ
signed_field count n = if nat_lt (2 * n) (2 ^ count) then pos n else pos n -ℤ pos (2 ^ count)

abbrev pub field : Scalar → ℕ → ℕ → ℤ
field scalar.I32 count n = signed_field count n
field _ count n = pos n

-- the bits of `count` places from `offset` on
abbrev pub extracted : Leaf → ℕ → ℕ → ℤ
extracted leaf offset count = field leaf.scalar count (word leaf.number / 2 ^ offset % 2 ^ count)

-- the bits below the field, the lowest bits of the new number in it, and the bits above it
abbrev pub inserted : ℕ → ℕ → ℕ → ℕ → ℕ
inserted old new offset count =
    old % 2 ^ offset + new % 2 ^ count * 2 ^ offset + old / 2 ^ (offset + count) * 2 ^ (offset + count)

abbrev pub ternary : Op → Leaf → Leaf → Leaf → Leaf
ternary Select otherwise chosen test = if is_zero test.number then otherwise else chosen
ternary Clamp leaf low high = kept leaf (int_min (int_max leaf.number low.number) high.number)
ternary ExtractBits leaf offset count = kept leaf (extracted leaf (field_offset offset) (field_count offset count))
ternary _ first second third = first

abbrev pub quaternary : Op → Leaf → Leaf → Leaf → Leaf → Leaf
quaternary InsertBits leaf new offset count =
    kept leaf (pos (inserted (word leaf.number) (word new.number) (field_offset offset) (field_count offset count)))
quaternary _ first second third fourth = first
