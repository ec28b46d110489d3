use Rattle.std.proofs.Common.{ℕ, ◌<◌, get_or}
use Rattle.shade_flow.specs.Tables.{Joins}
use Rattle.shade_flow.proofs.numbers.node_count.Given as goal

abbrev pub invariant-loop-edge : goal.invariant-loop-edge
invariant-loop-edge l = record { first : l.first < l.count; edges : (k : ℕ) (d : ℕ × ℕ) → k < l.edge-index → Joins l.count (get_or l.edges k d) }
