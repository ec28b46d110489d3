-- Lines and columns are no greater than the bytes before them allow.
use Rattle.std.proofs.Common.{ℕ, zero, suc, ◌+◌, ◌≤◌, List, arith, Bool, true, false, cond}
use Rattle.shade_base.specs.Lines.{line_at, column_at, ends_break}

more : (b : Bool) (m n : ℕ) → m ≤ n + 1 → cond b (m + 1) m ≤ suc n + 1
more true m n h = omega (arith, h)
more false m n h = omega (arith, h)

again : (b : Bool) (m n : ℕ) → m ≤ n + 1 → cond b 1 (m + 1) ≤ suc n + 1
again true m n h = omega arith
again false m n h = omega (arith, h)

pub line_at-small : (text : List ℕ) (n : ℕ) → line_at text n ≤ n + 1
line_at-small text zero = omega arith
line_at-small text (suc n) = more (ends_break text (suc n)) (line_at text n) n (line_at-small text n)

pub column_at-small : (text : List ℕ) (n : ℕ) → column_at text n ≤ n + 1
column_at-small text zero = omega arith
column_at-small text (suc n) = again (ends_break text (suc n)) (column_at text n) n (column_at-small text n)
