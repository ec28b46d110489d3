use Rattle.std.proofs.Common.{subst, arith}
use Rattle.std.specs.Prelude.{All}
use Rattle.std.proofs.lemmas.List.{take_all}
use Rattle.std.proofs.lemmas.List.Elements.{All-more}
use Rattle.shade_core.specs.HasShape.{MayTake}
use Rattle.shade_shape.proofs.Tells.{confirms}
use Rattle.shade_shape.proofs.signature.may_take_all.Goals as goal

pub loop-param-preserved : goal.loop-param-preserved
loop-param-preserved c = All-more (MayTake c.args.types.now c.args.entry) c.args.params.now c.loop-param.param-index _ c.loop-param-test.true c.loop-param.invariant (c.may_take.ensures.0 c.if-not-may_take.false)

pub returns : goal.returns
returns c = confirms (subst (All (MayTake c.args.types.now c.args.entry)) (take_all c.loop-param.param-index c.args.params.now (omega arith)) c.loop-param.invariant)
