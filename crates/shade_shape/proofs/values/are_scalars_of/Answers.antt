use Rattle.std.proofs.Common.{subst, arith}
use Rattle.std.specs.Prelude.{All}
use Rattle.std.proofs.lemmas.List.{take_all}
use Rattle.std.proofs.lemmas.List.Elements.{All-get_or, All-more}
use Rattle.shade_values.specs.Shape.{plain}
use Rattle.shade_values.specs.Typed.{IsValueOf}
use Rattle.shade_shape.proofs.Tells.{refutes, confirms}
use Rattle.shade_shape.proofs.ValueLaws.{all_at, all_with}
use Rattle.shade_shape.proofs.values.are_scalars_of.Goals as goal

pub returns-then-not-is_scalar_of : goal.returns-then-not-is_scalar_of
returns-then-not-is_scalar_of c =
    refutes (λ all. absurd (let h = c.is_scalar_of.ensures.1 (all_at (IsValueOf (plain c.args.scalar)) c.args.parts.now c.parts.part-index _ c.parts-test.true c.part-item.is all) in cc (h, c.if-not-is_scalar_of.true)))

pub parts-preserved : goal.parts-preserved
parts-preserved c =
    all_with (IsValueOf (plain c.args.scalar)) c.args.parts.now c.parts.part-index _ c.parts-test.true c.part-item.is c.parts.invariant (c.is_scalar_of.ensures.0 c.if-not-is_scalar_of.false)

pub returns : goal.returns
returns c = confirms (subst (All (IsValueOf (plain c.args.scalar))) (take_all c.parts.part-index c.args.parts.now (omega arith)) c.parts.invariant)
