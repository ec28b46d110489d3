use Rattle.std.proofs.Common.{◌≡◌, ◌++◌, drop}
use Rattle.shade_events.specs.Events.{attrs_events}
use Rattle.shade_events.proofs.expressions.add_attrs.Given as goal

abbrev pub invariant-loop-attr : goal.invariant-loop-attr
invariant-loop-attr l = l.out ++ attrs_events l.names (drop l.attr-index l.attrs) ≡ l.initial.out ++ attrs_events l.names l.attrs
