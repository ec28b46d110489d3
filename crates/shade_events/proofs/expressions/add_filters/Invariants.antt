use Rattle.std.proofs.Common.{◌≡◌, ◌++◌, drop}
use Rattle.std.specs.List.{flat_map}
use Rattle.shade_events.specs.Events.{filter_events}
use Rattle.shade_events.specs.Filters.{filter_of}
use Rattle.shade_events.proofs.expressions.add_filters.Given as goal

abbrev pub invariant-loop-attr : goal.invariant-loop-attr
invariant-loop-attr l =
    l.out ++ flat_map (λ a. filter_events (filter_of l.names a)) (drop l.attr-index l.attrs) ≡ l.initial.out ++ flat_map (λ a. filter_events (filter_of l.names a)) l.attrs
