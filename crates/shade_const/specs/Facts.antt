-- Rule: what is known of the nodes of a tree: at most one fact of each.
use Rattle.std.specs.Prelude.{◌≡◌, ℕ, List, Option, Some, slice_get, ◌==◌, if◌then◌else◌}
use Rattle.std.specs.Option.{option_flatten}
use Rattle.shade_const.specs.declared.fact.Fact.{Fact}

abbrev pub fact_at : List (Option Fact) → ℕ → Option Fact
fact_at facts node = option_flatten (slice_get facts node)

-- all facts are as they were
abbrev pub AreSame : List (Option Fact) → List (Option Fact) → Type 0
AreSame old new = (node : ℕ) → fact_at new node ≡ fact_at old node

-- one node has a new fact, and all others are as they were
abbrev pub IsPut : ℕ → Fact → List (Option Fact) → List (Option Fact) → Type 0
IsPut node fact old new = (other : ℕ) → fact_at new other ≡ (if other == node then Some fact else fact_at old other)
