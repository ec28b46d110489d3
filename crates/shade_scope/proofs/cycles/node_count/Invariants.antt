use Rattle.std.proofs.Common.{take}
use Rattle.std.specs.Prelude.{All}
use Rattle.shade_scope.proofs.CycleLaws.{Below}
use Rattle.shade_scope.proofs.cycles.node_count.Given as goal

abbrev pub invariant-loop-link : goal.invariant-loop-link
invariant-loop-link l = All (Below l.nodes) (take l.link-index l.links)
