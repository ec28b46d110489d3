-- The results of the operations on scalars are in the range of their scalar.
use Rattle.std.proofs.Common.{◌≡◌, refl, ap, ℕ, ◌%◌, ◌<◌, ℤ, pos, negsuc, arith, w32, w64}
use Rattle.std.specs.Prelude.{Bool, true, false, cond}
use Rattle.std.proofs.Math.Nat.{mod-eq_of_lt}
use Rattle.std.proofs.lemmas.Nat.{mod_below}
use Rattle.std.specs.Int.{int_wrap}
use Rattle.std.proofs.lemmas.Int.{int_wrap_fits, SFits-int_wrap}
use Rattle.shade_values.specs.declared.types.Scalar.{Scalar}
use Rattle.shade_values.specs.declared.types.Scalar.TheVariants as scalar
use Rattle.shade_values.specs.declared.value.Leaf.{Leaf}
use Rattle.shade_values.specs.declared.op.Op.{Op}
use Rattle.shade_values.specs.declared.op.Op.TheVariants.{Add, Subtract, Multiply, Divide, Remainder, Negate, Complement, And, Or, Xor, ShiftLeft, ShiftRight, Equal, NotEqual, Less, LessEqual, Greater, GreaterEqual, Not, LogicalAnd, LogicalOr, Convert, Bitcast, Select, Abs, Sign, Min, Max, Clamp, CountOneBits, CountLeadingZeros, CountTrailingZeros, ReverseBits, FirstLeadingBit, FirstTrailingBit, ExtractBits, InsertBits}
use Rattle.shade_values.specs.Numbers.{modulo, wrapped, truth}
use Rattle.shade_values.specs.Operations.{unary, binary, ternary, quaternary, converted, is_zero}
use Rattle.shade_values.specs.Typed.{IsRanged}

modulo_below : (n : ℕ) (z : ℤ) → 0 < n → modulo n z < n
modulo_below n (pos a) h = mod_below a n h
modulo_below n (negsuc a) h = omega arith

again : (n : ℕ) (z : ℤ) → 0 < n → modulo n z % n ≡ modulo n z
again n z h = mod-eq_of_lt (modulo_below n z h)

-- what was taken into the range stays
pub wrapped_twice : (s : Scalar) (z : ℤ) → wrapped s (wrapped s z) ≡ wrapped s z
wrapped_twice scalar.Bool z = ap pos (again 2 z (omega arith))
wrapped_twice scalar.I32 z = int_wrap_fits w32 (int_wrap w32 z) (SFits-int_wrap w32 z)
wrapped_twice scalar.U32 z = ap pos (again 4294967296 z (omega arith))
wrapped_twice scalar.Abstract z = int_wrap_fits w64 (int_wrap w64 z) (SFits-int_wrap w64 z)

pub truth_ranged : (b : Bool) → IsRanged (truth b)
truth_ranged true = refl
truth_ranged false = refl

pub converted_ranged : (s : Scalar) (leaf : Leaf) → IsRanged (converted s leaf)
converted_ranged scalar.Bool leaf = truth_ranged _
converted_ranged scalar.I32 leaf = wrapped_twice scalar.I32 leaf.number
converted_ranged scalar.U32 leaf = wrapped_twice scalar.U32 leaf.number
converted_ranged scalar.Abstract leaf = wrapped_twice scalar.Abstract leaf.number

pub unary_ranged : (op : Op) (leaf : Leaf) → IsRanged leaf → IsRanged (unary op leaf)
unary_ranged Negate leaf h = wrapped_twice leaf.scalar _
unary_ranged Complement leaf h = wrapped_twice leaf.scalar _
unary_ranged Abs leaf h = wrapped_twice leaf.scalar _
unary_ranged Sign leaf h = wrapped_twice leaf.scalar _
unary_ranged CountOneBits leaf h = wrapped_twice leaf.scalar _
unary_ranged CountLeadingZeros leaf h = wrapped_twice leaf.scalar _
unary_ranged CountTrailingZeros leaf h = wrapped_twice leaf.scalar _
unary_ranged ReverseBits leaf h = wrapped_twice leaf.scalar _
unary_ranged FirstLeadingBit leaf h = wrapped_twice leaf.scalar _
unary_ranged FirstTrailingBit leaf h = wrapped_twice leaf.scalar _
unary_ranged Not leaf h = truth_ranged _
unary_ranged (Convert s) leaf h = converted_ranged s leaf
unary_ranged (Bitcast parts s) leaf h = converted_ranged s leaf
unary_ranged _ leaf h = h

pub binary_ranged : (op : Op) (left right : Leaf) → IsRanged left → IsRanged (binary op left right)
binary_ranged Add left right h = wrapped_twice left.scalar _
binary_ranged Subtract left right h = wrapped_twice left.scalar _
binary_ranged Multiply left right h = wrapped_twice left.scalar _
binary_ranged Divide left right h = wrapped_twice left.scalar _
binary_ranged Remainder left right h = wrapped_twice left.scalar _
binary_ranged And left right h = wrapped_twice left.scalar _
binary_ranged Or left right h = wrapped_twice left.scalar _
binary_ranged Xor left right h = wrapped_twice left.scalar _
binary_ranged ShiftLeft left right h = wrapped_twice left.scalar _
binary_ranged ShiftRight left right h = wrapped_twice left.scalar _
binary_ranged Min left right h = wrapped_twice left.scalar _
binary_ranged Max left right h = wrapped_twice left.scalar _
binary_ranged Equal left right h = truth_ranged _
binary_ranged NotEqual left right h = truth_ranged _
binary_ranged Less left right h = truth_ranged _
binary_ranged LessEqual left right h = truth_ranged _
binary_ranged Greater left right h = truth_ranged _
binary_ranged GreaterEqual left right h = truth_ranged _
binary_ranged LogicalAnd left right h = truth_ranged _
binary_ranged LogicalOr left right h = truth_ranged _
binary_ranged _ left right h = h

select_ranged : (b : Bool) (x y : Leaf) → IsRanged x → IsRanged y → IsRanged (cond b x y)
select_ranged true x y h k = h
select_ranged false x y h k = k

pub ternary_ranged : (op : Op) (a b c : Leaf) → IsRanged a → IsRanged b → IsRanged (ternary op a b c)
ternary_ranged Select a b c h k = select_ranged (is_zero c.number) a b h k
ternary_ranged Clamp a b c h k = wrapped_twice a.scalar _
ternary_ranged ExtractBits a b c h k = wrapped_twice a.scalar _
ternary_ranged _ a b c h k = h

pub quaternary_ranged : (op : Op) (a b c d : Leaf) → IsRanged a → IsRanged (quaternary op a b c d)
quaternary_ranged InsertBits a b c d h = wrapped_twice a.scalar _
quaternary_ranged _ a b c d h = h
