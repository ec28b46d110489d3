use Rattle.std.specs.Prelude.{ℕ, ◌+◌, ◌-◌, ◌^◌, ◌≤◌, min}

-- one more, in a counter of 64 bits, which stands still at its last number
abbrev pub one_more : ℕ → ℕ
one_more n = min (n + 1) (2 ^ 64 - 1)

-- the counter rose, or stands at its last number
abbrev pub Rose : ℕ → ℕ → Type 0
Rose before now = one_more before ≤ now
