use borrow.Author.Rules.{rules, get_or_read}
use Rattle.std.proofs.Common.{ap, ◌∙◌, ◌+◌, ◌++◌, map, refl}
use Rattle.shade_core.specs.declared.statement.Act.TheFolds
use Rattle.shade_core.specs.Behaviour.{behaviour}
use Rattle.shade_core.specs.Code.{code_of}
use Rattle.shade_core.proofs.CodeLaws.{turn_step, part_step}
use Rattle.shade_graph.specs.Graph.{end_of}
use Rattle.shade_graph.proofs.WalkLaws.{ways_all, end_stop, end_more}
use Rattle.shade_uniformity.specs.Visits.{visit_of, visits}
use Rattle.shade_uniformity.proofs.FewLaws.{each_few, each_part_few, few_long}
use Rattle.shade_uniformity.proofs.WalkSteps.{visits_on, visits_stop, part_on, span_on, pushed}
use Rattle.shade_uniformity.proofs.walk.+walk.Goals as goal

pub walk_list-walk_statement-requires : goal.walk_list-walk_statement-requires
walk_list-walk_statement-requires t c = (search (rules, TheFolds.the_lemmas, get_or_read), each_few _ _ c.statements.statement-index c.statement-item.result c.statement-item.is c.statements-test.true c.as_slice-statement-items.ensures c.requires)

pub walk_parts-walk_list-requires : goal.walk_parts-walk_list-requires
walk_parts-walk_list-requires t c = (search (rules, TheFolds.the_lemmas, get_or_read), each_part_few _ _ c.parts.part-index c.part-item.result c.part-item.is c.parts-test.true c.as_slice-part-items.ensures c.requires)

pub walk_list-returns-then-not-ways-clause-visits : goal.walk_list-returns-then-not-ways-clause-visits
walk_list-returns-then-not-ways-clause-visits t c =
    visits_stop c.as_slice-statement-items.result.now c.statements.statement-index _ c.in_ok-ways.ways c.statements-test.true c.statement-item.is c.in_ok-ways.ensures.ways c.statements.end.node _ _ _ c.if-not-ways.true c.in_ok-ways.ensures.visits
    c.statements.invariant.visits
    ∙ ap (λ xs. map visit_of c.args.out.now.items ++ visits c.args.under (code_of xs)) c.as_slice-statement-items.ensures

pub walk_list-returns-then-not-ways-clause-ways : goal.walk_list-returns-then-not-ways-clause-ways
walk_list-returns-then-not-ways-clause-ways t c =
    ways_all c.as_slice-statement-items.result.now c.statements.statement-index _ c.statements.end.ways c.then.result c.in_ok-ways.ways _ c.statements-test.true c.statement-item.is c.then.ensures c.in_ok-ways.ensures.ways c.if-not-ways.true
    c.statements.invariant.ways
    ∙ ap (λ xs. behaviour (code_of xs)) c.as_slice-statement-items.ensures

pub walk_list-returns-then-not-ways-clause-node : goal.walk_list-returns-then-not-ways-clause-node
walk_list-returns-then-not-ways-clause-node t c =
    end_stop c.as_slice-statement-items.result.now c.statements.statement-index _ c.statements.end.node _ c.in_ok-ways.ways c.statements-test.true c.statement-item.is c.in_ok-ways.ensures.ways c.if-not-ways.true c.statements.invariant.node
    ∙ ap (λ xs. end_of c.args.under (code_of xs)) c.as_slice-statement-items.ensures

pub walk_list-statements-preserved : goal.walk_list-statements-preserved
walk_list-statements-preserved t c = record {
  visits = visits_on c.as_slice-statement-items.result.now c.statements.statement-index _ c.in_ok-ways.ways c.statements-test.true c.statement-item.is c.in_ok-ways.ensures.ways c.statements.end.node _ _ _ c.if-not-ways.false
      c.in_ok-ways.ensures.visits c.statements.invariant.visits;
  ways = turn_step c.as_slice-statement-items.result.now c.statements.statement-index _ c.statements.end.ways c.then.result c.in_ok-ways.ways _ c.statements-test.true c.statement-item.is c.then.ensures c.in_ok-ways.ensures.ways
      c.statements.invariant.ways;
  node = end_more c.as_slice-statement-items.result.now c.statements.statement-index _ c.statements.end.node _ c.in_ok-ways.ways c.statements-test.true c.statement-item.is c.in_ok-ways.ensures.ways c.if-not-ways.false c.statements.invariant.node;
}

pub walk_parts-parts-preserved : goal.walk_parts-parts-preserved
walk_parts-parts-preserved t c = record {
  count = ap (λ n. n + 1) c.parts.invariant.count;
  visits = part_on c.args.number c.parts.which c.as_slice-part-items.result.now c.parts.part-index _ _ _ _ c.parts-test.true c.part-item.is c.in_ok-end.ensures.visits c.parts.invariant.visits;
  ways = part_step c.as_slice-part-items.result.now c.parts.part-index _ c.parts.ways c.joined-ways.result c.in_ok-end.end.ways _ c.parts-test.true c.part-item.is c.joined-ways.ensures c.in_ok-end.ensures.ways c.parts.invariant.ways;
  spans = span_on c.args.number c.parts.which c.as_slice-part-items.result.now c.parts.part-index _ c.in_ok-end.end.node _ _ _ c.parts-test.true c.part-item.is c.in_ok-end.ensures.node c.in_ok-push.ensures.items c.parts.invariant.spans;
}
