use Rattle.std.proofs.Common.{subst, arith}
use Rattle.std.specs.Prelude.{All}
use Rattle.std.proofs.lemmas.List.{take_all}
use Rattle.std.proofs.lemmas.List.Elements.{All-more}
use Rattle.shade_core.specs.Types.{NamesHeld}
use Rattle.shade_shape.proofs.Tells.{confirms}
use Rattle.shade_shape.proofs.signature.are_held.Goals as goal

pub loop-id-preserved : goal.loop-id-preserved
loop-id-preserved c = All-more (NamesHeld c.args.types.now) c.args.ids.now c.loop-id.id-index _ c.loop-id-test.true c.loop-id.invariant (c.is_held.ensures.0 c.if-not-is_held.false)

pub returns : goal.returns
returns c = confirms (subst (All (NamesHeld c.args.types.now)) (take_all c.loop-id.id-index c.args.ids.now (omega arith)) c.loop-id.invariant)
