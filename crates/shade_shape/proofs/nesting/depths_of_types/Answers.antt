use Rattle.std.proofs.Common.{ap, ◌∙◌, ◌++◌, ◌∷◌, [], arith}
use Rattle.shade_shape.specs.Depths.{depth_by}
use Rattle.shade_shape.proofs.DepthLaws.{depths_step}
use Rattle.shade_shape.proofs.nesting.depths_of_types.Goals as goal

pub types-preserved : goal.types-preserved
types-preserved c =
    let t = c.args.table.now in
    record {
      within = omega (arith, c.types-test.true);
      long = omega (arith, c.in_ok-push.ensures.len, c.types.invariant.long);
      are = depths_step t c.types.number _ c.types.depths.items _ (omega (arith, c.types-test.true, c.count-count.ensures.count)) c.get.ensures.ty c.types.invariant.are
          (c.in_ok-push.ensures.items ∙ ap (λ x. c.types.depths.items ++ x ∷ []) (c.depth_by-depth.ensures ∙ ap (λ k. depth_by k t.structs c.get.result.now) c.deref.ensures.value));
    }
