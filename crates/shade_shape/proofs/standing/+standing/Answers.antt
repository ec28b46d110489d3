use Rattle.std.proofs.Common.{ap, ◌∙◌, map}
use Rattle.std.proofs.lemmas.List.{map-append}
use Rattle.shade_core.specs.Standing.{by_itself}
use Rattle.shade_shape.proofs.StandingLaws.{statement_step, part_step}
use Rattle.shade_shape.proofs.standing.+standing.Goals as goal

pub add_list-statements-preserved : goal.add_list-statements-preserved
add_list-statements-preserved t c =
    statement_step c.as_slice-statement-items.result.now c.statements.statement-index _ _ (map (λ s. by_itself s.now) c.push.new.self.items) _ _ c.statements-test.true c.statement-item.is
    (ap (map (λ s. by_itself s.now)) c.in_ok-push.ensures.items ∙ map-append (λ s. by_itself s.now) c.statements.out.items _)
    c.in_ok-add_parts_of.ensures c.statements.invariant

pub add_parts-parts-preserved : goal.add_parts-parts-preserved
add_parts-parts-preserved t c =
    part_step c.as_slice-part-items.result.now c.parts.part-index _ _ _ _ c.parts-test.true c.part-item.is c.in_ok-add_list.ensures c.parts.invariant
