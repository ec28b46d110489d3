use Rattle.std.proofs.Common.{◌≡◌, ℕ, ◌+◌, ◌≤◌, length, get_or}
use Rattle.shade_reach.specs.Rows.{IsRowStart}
use Rattle.shade_reach.proofs.rows.row_starts.Given as goal

abbrev pub invariant-loop-node : goal.invariant-loop-node
invariant-loop-node l = record {
  here : IsRowStart l.edges l.node l.start;
  long : length l.starts.items ≡ l.node + 1;
  each : (node : ℕ) → node ≤ l.node → IsRowStart l.edges node (get_or l.starts.items node 0);
}
