use Rattle.std.proofs.Common.{◌≡◌}
use Rattle.shade_uniformity.specs.HeldRows.{Adds, IsContentsRow}
use Rattle.shade_uniformity.proofs.held.add_contents.Given as goal

abbrev pub invariant-params : goal.invariant-params
invariant-params l = record {
  count : l.number ≡ l.param-index;
  out : Adds (IsContentsRow l.function l.statement l.number) l.initial.rows.items l.rows.items;
}
