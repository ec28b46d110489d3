use Rattle.shade_scope.proofs.NodeLaws.{tree_event_nodes}
use Rattle.shade_scope.proofs.laws.events_have_each_node.Goals as goal

pub returns : goal.returns
returns c = tree_event_nodes c.args.tree.now
