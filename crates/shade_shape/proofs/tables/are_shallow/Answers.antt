use Rattle.std.proofs.Common.{◌<◌, subst, arith}
use Rattle.std.specs.Prelude.{All}
use Rattle.std.proofs.lemmas.List.{take_all}
use Rattle.std.proofs.lemmas.List.Elements.{All-more}
use Rattle.shade_shape.proofs.Tells.{confirms}
use Rattle.shade_shape.proofs.tables.are_shallow.Goals as goal

pub loop-depth-preserved : goal.loop-depth-preserved
loop-depth-preserved c = All-more (λ depth. depth < 256) c.args.depths.now c.loop-depth.depth-index _ c.loop-depth-test.true c.loop-depth.invariant c.if-depth-ge-TOO_DEEP.false

pub returns : goal.returns
returns c = confirms (subst (All (λ depth. depth < 256)) (take_all c.loop-depth.depth-index c.args.depths.now (omega arith)) c.loop-depth.invariant)
