use Rattle.std.proofs.Common.{◌≡◌, ◌∙◌, ◌++◌, ◌∷◌, ap, ℕ, length, map, rules}
use Rattle.std.specs.Prelude.{slice_set}
use Rattle.shade_core.specs.Code.{act_code, done}
use Rattle.shade_core.proofs.CodeLaws as laws
use Rattle.shade_rules.specs.Findings.{inside, place_of, told_of}
use Rattle.shade_rules.specs.declared.statements.Finding.{Finding}
use Rattle.shade_rules.specs.declared.statements.Told.{Told}
use Rattle.shade_rules.proofs.FindingLaws.{statement_step, part_step, place_step, part_place_step, written}
use Rattle.shade_rules.proofs.statements.+statements.Goals as goal

pub add_list-statements-preserved : goal.add_list-statements-preserved
add_list-statements-preserved t c = record {
  set = laws.turn_step c.as_slice-statement-items.result.now c.statements.statement-index _ c.statements.so_far c.then-so_far.result c.in_ok-set.set _ c.statements-test.true c.statement-item.is c.then-so_far.ensures c.in_ok-set.ensures.set c.statements.invariant.set;
  told = statement_step _ _ c.as_slice-statement-items.result.now c.statements.statement-index _ _ _ _ c.statements-test.true c.statement-item.is c.in_ok-set.ensures.told c.statements.invariant.told;
  places = place_step c.as_slice-statement-items.result.now c.statements.statement-index _ _ _ _ c.statements-test.true c.statement-item.is c.in_ok-set.ensures.places c.statements.invariant.places;
}

pub add_parts-parts-preserved : goal.add_parts-parts-preserved
add_parts-parts-preserved t c = record {
  set = laws.part_step c.as_slice-part-items.result.now c.parts.part-index _ c.parts.so_far c.joined-so_far.result c.in_ok-set.set _ c.parts-test.true c.part-item.is c.joined-so_far.ensures c.in_ok-set.ensures.set c.parts.invariant.set;
  told = part_step _ _ c.as_slice-part-items.result.now c.parts.part-index _ _ _ _ c.parts-test.true c.part-item.is c.in_ok-set.ensures.told c.parts.invariant.told;
  places = part_place_step c.as_slice-part-items.result.now c.parts.part-index _ _ _ _ c.parts-test.true c.part-item.is c.in_ok-set.ensures.places c.parts.invariant.places;
}

pub add_statement-returns-clause-told : goal.add_statement-returns-clause-told
add_statement-returns-clause-told t c =
    let at : c.len-at.result ≡ length c.args.out.now.items = search rules in
    let own : Finding = record { told = c.in_ok-told.told; place = c.args.statement.now.place } in
    ap (λ (n : ℕ). map told_of (slice_set c.add_inside.new.out.items n own)) at
    ∙ (written told_of c.args.out.now.items c.push.new.self.items c.add_inside.new.out.items _ _ c.in_ok-push.ensures.items c.in_ok-told.ensures.inside own
    ∙ ap (λ (x : Told). map told_of c.args.out.now.items ++ x ∷ inside c.args.around.breaks c.args.around.continues (act_code c.args.statement.now.act 0 done)) c.in_ok-told.ensures.told)

pub add_statement-returns-clause-places : goal.add_statement-returns-clause-places
add_statement-returns-clause-places t c =
    let at : c.len-at.result ≡ length c.args.out.now.items = search rules in
    let own : Finding = record { told = c.in_ok-told.told; place = c.args.statement.now.place } in
    ap (λ (n : ℕ). map place_of (slice_set c.add_inside.new.out.items n own)) at
    ∙ written place_of c.args.out.now.items c.push.new.self.items c.add_inside.new.out.items _ _ c.in_ok-push.ensures.items c.in_ok-told.ensures.places own
