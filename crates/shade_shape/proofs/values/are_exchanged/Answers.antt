use Rattle.std.proofs.Common.{arith}
use Rattle.shade_shape.proofs.Tells.{refutes}
use Rattle.shade_shape.proofs.ValueLaws.{pair_is, pair_long, pair_first, pair_second}
use Rattle.shade_shape.proofs.values.are_exchanged.Goals as goal

pub returns-then-parts-ne2 : goal.returns-then-parts-ne2
returns-then-parts-ne2 c = refutes (λ h. absurd (omega (arith, pair_long _ _ h)))

pub returns-then-not-is_scalar_of : goal.returns-then-not-is_scalar_of
returns-then-not-is_scalar_of c =
    refutes (λ h. absurd (let f = c.is_scalar_of.ensures.1 (pair_first _ _ _ c.index-parts-0.is h) in cc (f, c.if-not-is_scalar_of.true)))

pub returns : goal.returns
returns c = (
  λ h. pair_is _ c.args.parts.now _ _ (omega arith) c.index-parts-0.is c.index-parts-1.is (c.is_scalar_of.ensures.0 c.if-not-is_scalar_of.false) (c.is_scalar_of-2.ensures.0 h),
  λ h. c.is_scalar_of-2.ensures.1 (pair_second _ _ _ c.index-parts-1.is h),
)
