use Rattle.std.proofs.Common.{ap, ◌∙◌}
use Rattle.shade_core.specs.Behaviour.{behaviour}
use Rattle.shade_core.specs.Code.{code_of}
use Rattle.shade_core.proofs.CodeLaws.{turn_step}
use Rattle.shade_graph.specs.Graph.{end_of}
use Rattle.shade_graph.proofs.WalkLaws.{nodes_on, edges_on, ways_all, end_stop, end_more}
use Rattle.shade_graph.proofs.gather.+gather.Goals as goal

pub gather_list-returns-then-not-ways-clause-ways : goal.gather_list-returns-then-not-ways-clause-ways
gather_list-returns-then-not-ways-clause-ways t c =
    ways_all c.as_slice-statement-items.result.now c.statements.statement-index _ c.statements.end.ways c.then.result c.in_ok-ways.ways _ c.statements-test.true c.statement-item.is c.then.ensures c.in_ok-ways.ensures.ways c.if-not-ways.true
    c.statements.invariant.ways
    ∙ ap (λ xs. behaviour (code_of xs)) c.as_slice-statement-items.ensures

pub gather_list-returns-then-not-ways-clause-node : goal.gather_list-returns-then-not-ways-clause-node
gather_list-returns-then-not-ways-clause-node t c =
    end_stop c.as_slice-statement-items.result.now c.statements.statement-index _ c.statements.end.node _ c.in_ok-ways.ways c.statements-test.true c.statement-item.is c.in_ok-ways.ensures.ways c.if-not-ways.true c.statements.invariant.node
    ∙ ap (λ xs. end_of c.args.under (code_of xs)) c.as_slice-statement-items.ensures

pub gather_list-statements-preserved : goal.gather_list-statements-preserved
gather_list-statements-preserved t c = record {
  nodes = rw c.reads_on-reads.ensures
      (nodes_on c.as_slice-statement-items.result.now c.statements.statement-index c.statement-item.result c.statements.reads c.in_ok-ways.ways c.statements-test.true c.statement-item.is c.in_ok-ways.ensures.ways
      c.statements.out.nodes.items c.gather_next.new.out.nodes.items _ c.if-not-ways.false c.in_ok-ways.ensures.nodes c.statements.invariant.nodes);
  edges = rw c.reads_on-reads.ensures
      (edges_on c.as_slice-statement-items.result.now c.statements.statement-index c.statement-item.result c.statements.reads c.in_ok-ways.ways c.statements-test.true c.statement-item.is c.in_ok-ways.ensures.ways c.statements.end.node
      c.statements.out.edges.items c.gather_next.new.out.edges.items _ c.if-not-ways.false c.in_ok-ways.ensures.edges c.statements.invariant.edges);
  ways = turn_step c.as_slice-statement-items.result.now c.statements.statement-index _ c.statements.end.ways c.then.result c.in_ok-ways.ways _ c.statements-test.true c.statement-item.is c.then.ensures c.in_ok-ways.ensures.ways
      c.statements.invariant.ways;
  node = end_more c.as_slice-statement-items.result.now c.statements.statement-index _ c.statements.end.node _ c.in_ok-ways.ways c.statements-test.true c.statement-item.is c.in_ok-ways.ensures.ways c.if-not-ways.false c.statements.invariant.node;
}
