use Rattle.std.proofs.Common.{◌≡◌, ◌++◌, drop}
use Rattle.std.specs.List.{flat_map}
use Rattle.shade_events.specs.Events.{node_of}
use Rattle.shade_events.proofs.declarations.add_nodes.Given as goal

abbrev pub invariant-loop-name : goal.invariant-loop-name
invariant-loop-name l = l.out ++ flat_map node_of (drop l.name-index l.listed) ≡ l.initial.out ++ flat_map node_of l.listed
