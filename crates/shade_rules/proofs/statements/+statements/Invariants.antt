use Rattle.std.proofs.Common.{◌≡◌, ◌++◌, true, map, drop}
use Rattle.shade_core.specs.Behaviour.{behaviour, in_turn, joined}
use Rattle.shade_core.specs.Code.{code_of, part_code, parts_from}
use Rattle.shade_core.specs.Places.{all_of, list_places, part_places}
use Rattle.shade_rules.specs.Findings.{findings, place_of, told_of}
use Rattle.shade_rules.proofs.statements.+statements.Given as goal

abbrev pub invariant-add_list-statements : goal.invariant-add_list-statements
invariant-add_list-statements l = record {
  set : in_turn l.so_far (behaviour (code_of (drop l.statement-index l.statement-items))) ≡ behaviour (code_of l.statement-items);
  told : map told_of l.out.items ++ findings l.around.breaks l.around.continues (code_of (drop l.statement-index l.statement-items))
      ≡ map told_of l.initial.out.items ++ findings l.around.breaks l.around.continues (code_of l.statement-items);
  places : map place_of l.out.items ++ list_places (drop l.statement-index l.statement-items) ≡ map place_of l.initial.out.items ++ list_places l.statement-items;
}

abbrev pub invariant-add_parts-parts : goal.invariant-add_parts-parts
invariant-add_parts-parts l = record {
  set : joined l.so_far (behaviour (parts_from 0 0 (map part_code (drop l.part-index l.part-items)))) ≡ behaviour (parts_from 0 0 (map part_code l.part-items));
  told : map told_of l.out.items ++ findings true l.continues (parts_from 0 0 (map part_code (drop l.part-index l.part-items)))
      ≡ map told_of l.initial.out.items ++ findings true l.continues (parts_from 0 0 (map part_code l.part-items));
  places : map place_of l.out.items ++ all_of (map part_places (drop l.part-index l.part-items)) ≡ map place_of l.initial.out.items ++ all_of (map part_places l.part-items);
}
