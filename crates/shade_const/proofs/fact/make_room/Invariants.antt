use Rattle.std.proofs.Common.{◌≡◌, ◌+◌, length}
use Rattle.shade_const.specs.Facts.{AreSame}
use Rattle.shade_const.proofs.fact.make_room.Given as goal

abbrev pub invariant-loop-missing : goal.invariant-loop-missing
invariant-loop-missing l = record {
  same : AreSame l.initial.facts.items l.facts.items;
  longer : length l.facts.items ≡ length l.initial.facts.items + l._missing;
}
