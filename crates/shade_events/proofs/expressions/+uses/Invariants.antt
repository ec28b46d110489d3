use Rattle.std.proofs.Common.{◌≡◌, ◌++◌, drop, map}
use Rattle.shade_events.specs.Events.{all_in, uses_in}
use Rattle.shade_events.proofs.expressions.+uses.Given as goal

abbrev pub invariant-add_all_uses-loop-e : goal.invariant-add_all_uses-loop-e
invariant-add_all_uses-loop-e l = l.out ++ all_in l.role (map uses_in (drop l.e-index l.e-items)) ≡ l.initial.out ++ all_in l.role (map uses_in l.e-items)
