-- The whole numbers of the scalar types.
use Rattle.std.specs.Prelude.{ℕ, ◌-◌, ◌^◌, ℤ, pos, negsuc, Bool, min, unsigned_abs}
use Rattle.std.specs.Int.{w32, w64, int_rem_euclid, int_wrap, from_bool}
use Rattle.shade_values.specs.declared.types.Scalar.{Scalar}
use Rattle.shade_values.specs.declared.types.Scalar.TheVariants as scalar
use Rattle.shade_values.specs.declared.value.Leaf.{Leaf}

-- z modulo n, from 0 to n - 1
abbrev pub modulo : ℕ → ℤ → ℕ
modulo n z = unsigned_abs (int_rem_euclid z (pos n))

-- the 32 bits of a number, as two's complement has them
abbrev pub word : ℤ → ℕ
word z = modulo (2 ^ 32) z

-- the number of a scalar's range that differs from z by a multiple of 2 ^ 32 (of 2 ^ 64 for Abstract, of 2 for Bool)
abbrev pub wrapped : Scalar → ℤ → ℤ
wrapped scalar.Bool z = pos (modulo 2 z)
wrapped scalar.I32 z = int_wrap w32 z
wrapped scalar.U32 z = pos (word z)
wrapped scalar.Abstract z = int_wrap w64 z

-- how many bits a number has that is shifted
abbrev pub width : Scalar → ℕ
width scalar.Abstract = 64
width scalar.Bool = 32
width scalar.I32 = 32
width scalar.U32 = 32

-- a leaf of the same scalar, wrapped
abbrev pub kept : Leaf → ℤ → Leaf
kept leaf z = record { scalar = leaf.scalar; number = wrapped leaf.scalar z }

-- `true` and `false`
abbrev pub truth : Bool → Leaf
truth b = record { scalar = scalar.Bool; number = pos (from_bool b) }

-- the index below `length` that is nearest to z
abbrev pub nearest : ℤ → ℕ → ℕ
nearest (pos n) length = min n (length - 1)
nearest (negsuc n) length = 0
