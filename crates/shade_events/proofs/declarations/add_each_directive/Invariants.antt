use Rattle.std.proofs.Common.{◌≡◌, ◌++◌, drop}
use Rattle.std.specs.List.{flat_map}
use Rattle.shade_events.specs.Events.{directive_events}
use Rattle.shade_events.proofs.declarations.add_each_directive.Given as goal

abbrev pub invariant-loop-directive : goal.invariant-loop-directive
invariant-loop-directive l = l.out ++ flat_map (directive_events l.names) (drop l.directive-index l.directives) ≡ l.initial.out ++ flat_map (directive_events l.names) l.directives
