use Rattle.std.proofs.Common.{◌≡◌, ◌++◌, drop}
use Rattle.std.specs.List.{flat_map}
use Rattle.shade_events.specs.Events.{param_events}
use Rattle.shade_events.proofs.declarations.add_params.Given as goal

abbrev pub invariant-loop-param : goal.invariant-loop-param
invariant-loop-param l = l.out ++ flat_map (param_events l.names) (drop l.param-index l.params) ≡ l.initial.out ++ flat_map (param_events l.names) l.params
