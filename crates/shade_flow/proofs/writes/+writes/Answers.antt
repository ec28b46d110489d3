use borrow.Author.Rules.{rules, get_or_read}
use Rattle.shade_core.specs.declared.statement.Act.TheFolds
use Rattle.shade_flow.proofs.CountedLaws.{each_counted, each_part_counted}
use Rattle.shade_flow.proofs.WriteWalks.{list_step, part_step}
use Rattle.shade_flow.proofs.writes.+writes.Goals as goal

pub add_list-statements-preserved : goal.add_list-statements-preserved
add_list-statements-preserved t c =
    list_step c.as_slice-statement-items.result.now c.statements.statement-index c.statement-item.result _ _ _ c.statements-test.true c.statement-item.is c.in_ok-add_statement.ensures c.statements.invariant

pub add_parts-parts-preserved : goal.add_parts-parts-preserved
add_parts-parts-preserved t c = part_step c.as_slice-part-items.result.now c.parts.part-index _ _ _ _ c.args.number c.parts-test.true c.part-item.is c.in_ok-add_list.ensures c.parts.invariant

pub add_list-add_statement-requires : goal.add_list-add_statement-requires
add_list-add_statement-requires t c = (search (rules, TheFolds.the_lemmas, get_or_read), each_counted _ _ c.statements.statement-index c.statement-item.result c.statement-item.is c.statements-test.true c.as_slice-statement-items.ensures c.requires)

pub add_parts-add_list-requires : goal.add_parts-add_list-requires
add_parts-add_list-requires t c = (search (rules, TheFolds.the_lemmas, get_or_read), each_part_counted _ _ c.parts.part-index c.part-item.result c.part-item.is c.parts-test.true c.as_slice-part-items.ensures c.requires)
