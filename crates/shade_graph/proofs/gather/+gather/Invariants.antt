use Rattle.std.proofs.Common.{◌≡◌, ◌++◌, drop}
use Rattle.shade_core.specs.Code.{code_of}
use Rattle.shade_core.specs.Behaviour.{behaviour, in_turn}
use Rattle.shade_graph.specs.Graph.{end_of}
use Rattle.shade_graph.specs.Gathered.{nodes_of, edges_of}
use Rattle.shade_graph.proofs.WalkLaws.{read_of}
use Rattle.shade_graph.proofs.gather.+gather.Given as goal

abbrev pub invariant-gather_list-statements : goal.invariant-gather_list-statements
invariant-gather_list-statements l = record {
  nodes : l.out.nodes.items ++ read_of l.reads (nodes_of (code_of (drop l.statement-index l.statement-items))) ≡ l.initial.out.nodes.items ++ nodes_of (code_of l.statement-items);
  edges : l.out.edges.items ++ read_of l.reads (edges_of l.end.node (code_of (drop l.statement-index l.statement-items))) ≡ l.initial.out.edges.items ++ edges_of l.fn.under (code_of l.statement-items);
  ways : in_turn l.end.ways (behaviour (code_of (drop l.statement-index l.statement-items))) ≡ behaviour (code_of l.statement-items);
  node : end_of l.end.node (code_of (drop l.statement-index l.statement-items)) ≡ end_of l.fn.under (code_of l.statement-items);
}
