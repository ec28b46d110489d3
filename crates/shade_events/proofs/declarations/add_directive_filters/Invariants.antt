use Rattle.std.proofs.Common.{◌≡◌, ◌++◌, drop}
use Rattle.std.specs.List.{flat_map}
use Rattle.shade_events.specs.Events.{filter_events}
use Rattle.shade_events.specs.Filters.{directive_filter}
use Rattle.shade_events.proofs.declarations.add_directive_filters.Given as goal

abbrev pub invariant-loop-directive : goal.invariant-loop-directive
invariant-loop-directive l =
    l.out ++ flat_map (λ d. filter_events (directive_filter l.names d)) (drop l.directive-index l.directives) ≡ l.initial.out ++ flat_map (λ d. filter_events (directive_filter l.names d)) l.directives
