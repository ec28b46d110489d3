use Rattle.std.proofs.Common.{sym, ◌∙◌}
use Rattle.shade_overload.proofs.VectorLaws.{fill_step}
use Rattle.shade_overload.proofs.vector.fills.Goals as goal

pub loop-ty-preserved : goal.loop-ty-preserved
loop-ty-preserved c = fill_step c.args.types.now c.args.types.now c.loop-ty.ty-index _ c.args.count c.loop-ty.left c.in-Some.parts c.loop-ty-test.true (sym c.parts_of.ensures ∙ c.in-Some.is) c.if-left-parts.false c.loop-ty.invariant
