use Rattle.std.proofs.Common.{ap, ◌∙◌, ◌++◌, ◌∷◌, [], arith}
use Rattle.shade_shape.specs.Facts.{facts_by}
use Rattle.shade_shape.proofs.FactLaws.{facts_step}
use Rattle.shade_shape.proofs.facts.facts_of_types.Goals as goal

pub types-preserved : goal.types-preserved
types-preserved c =
    let t = c.args.table.now in
    record {
      within = omega (arith, c.types-test.true);
      long = omega (arith, c.in_ok-push.ensures.len, c.types.invariant.long);
      are = facts_step t c.types.number _ c.types.facts.items _ (omega (arith, c.types-test.true, c.count-count.ensures.count)) c.get.ensures.ty c.types.invariant.are
          (c.in_ok-push.ensures.items ∙ ap (λ x. c.types.facts.items ++ x ∷ []) (c.facts_by-fact.ensures ∙ ap (λ k. facts_by k t.structs c.get.result.now) c.deref.ensures.value));
    }
