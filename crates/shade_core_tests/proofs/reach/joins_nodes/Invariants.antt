use Rattle.std.proofs.Common.{ℕ, ◌<◌}
use Rattle.shade_reach.specs.Rows.{source_at, target_at}
use Rattle.shade_core_tests.proofs.reach.joins_nodes.Given as goal

abbrev pub invariant-loop-edge : goal.invariant-loop-edge
invariant-loop-edge l = (k : ℕ) → k < l.edge-index → (source_at l.edges k < l.nodes) × (target_at l.edges k < l.nodes)
