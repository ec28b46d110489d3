use Rattle.std.proofs.Common.{◌≡◌, List, Some, slice_get}
use Rattle.shade_core.specs.declared.module.CoreFunction.{CoreFunction}
use Rattle.shade_graph.specs.Order.{severity_rank}
use Rattle.shade_graph.specs.Numbered.{IsGraphOf}
use Rattle.shade_verdict.specs.Found.{AreFound, NoNode, IsEarly}
use Rattle.shade_verdict.proofs.verdict.add_severity.Given as goal

abbrev pub invariant-targets : goal.invariant-targets
invariant-targets l =
    (functions : List CoreFunction) (f : CoreFunction) → slice_get functions l.finder.function ≡ Some f → IsGraphOf f l.finder.graph.now
    → AreFound functions l.finder.function (severity_rank l.severity) NoNode l.initial.out.items
    → AreFound functions l.finder.function (severity_rank l.severity) (IsEarly l.finder.graph.now.nodes l.target-items l.target-index) l.out.items
