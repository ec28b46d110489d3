-- Numbers as digits write them.
use Rattle.std.specs.Prelude.{◌≡◌, ℕ, ◌<◌, ◌^◌, List, Option, None, Some}
use Rattle.std.specs.Fmt.{decimal}

-- The number below 2^32 that these bytes are the decimal digits of, without a leading zero, or none where they are those of no such number.
abbrev pub IsValueOf : List ℕ → Option ℕ → Type 0
IsValueOf text None = (n : ℕ) → n < 2 ^ 32 → ¬ (text ≡ decimal n)
IsValueOf text (Some n) = text ≡ decimal n
