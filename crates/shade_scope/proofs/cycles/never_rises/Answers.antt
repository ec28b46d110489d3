use Rattle.std.proofs.Common.{sym, ◌∙◌, arith}
use Rattle.shade_scope.proofs.CycleLaws.{one_more, all_of}
use Rattle.shade_scope.proofs.cycles.never_rises.Goals as goal

pub loop-node-preserved : goal.loop-node-preserved
loop-node-preserved c = one_more c.args.graph.now.edges c.args.ranks.now _ _ c.targets.ensures.targets (sym c.holds_at.ensures ∙ c.if-not-holds_at.false) c.loop-node.invariant

pub returns : goal.returns
returns c = λ e. all_of c.args.graph.now.edges c.args.ranks.now _ c.args.nodes c.requires.joins (omega arith) c.loop-node.invariant
