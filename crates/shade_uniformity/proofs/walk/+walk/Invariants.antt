use Rattle.std.proofs.Common.{◌≡◌, ◌++◌, drop, map}
use Rattle.shade_core.specs.Code.{code_of, part_code, parts_from}
use Rattle.shade_core.specs.Behaviour.{behaviour, in_turn, joined}
use Rattle.shade_graph.specs.Graph.{end_of}
use Rattle.shade_uniformity.specs.Visits.{part_visits, spans_of, visit_of, visits}
use Rattle.shade_uniformity.proofs.walk.+walk.Given as goal

abbrev pub invariant-walk_list-statements : goal.invariant-walk_list-statements
invariant-walk_list-statements l = record {
  visits : map visit_of l.out.items ++ visits l.end.node (code_of (drop l.statement-index l.statement-items)) ≡ map visit_of l.initial.out.items ++ visits l.fn.under (code_of l.statement-items);
  ways : in_turn l.end.ways (behaviour (code_of (drop l.statement-index l.statement-items))) ≡ behaviour (code_of l.statement-items);
  node : end_of l.end.node (code_of (drop l.statement-index l.statement-items)) ≡ end_of l.fn.under (code_of l.statement-items);
}

abbrev pub invariant-walk_parts-parts : goal.invariant-walk_parts-parts
invariant-walk_parts-parts l = record {
  count : l.which ≡ l.part-index;
  visits : map visit_of l.out.items ++ part_visits (parts_from l.number l.which (map part_code (drop l.part-index l.part-items))) ≡ map visit_of l.initial.out.items ++ part_visits (parts_from l.number 0 (map part_code l.part-items));
  ways : joined l.ways (behaviour (parts_from 0 0 (map part_code (drop l.part-index l.part-items)))) ≡ behaviour (parts_from 0 0 (map part_code l.part-items));
  spans : l.spans.items ++ spans_of (parts_from l.number l.which (map part_code (drop l.part-index l.part-items))) ≡ spans_of (parts_from l.number 0 (map part_code l.part-items));
}
