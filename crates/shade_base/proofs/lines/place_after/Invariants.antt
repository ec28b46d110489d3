use Rattle.std.proofs.Common.{◌≡◌, ◌≤◌, ◌+◌}
use Rattle.shade_base.specs.Lines.{line_at, column_at}
use Rattle.shade_base.proofs.lines.place_after.Given as goal

abbrev pub invariant-loop-at : goal.invariant-loop-at
invariant-loop-at l = record {
  line_is : l.line ≡ line_at l.text l.at;
  column_is : l.column ≡ column_at l.text l.at;
  line_small : l.line ≤ l.at + 1;
  column_small : l.column ≤ l.at + 1;
}
