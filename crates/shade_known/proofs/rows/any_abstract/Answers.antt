use Rattle.shade_known.specs.Operates.{is_abstract}
use Rattle.shade_known.proofs.Turns.{any_here, any_turn, any_none}
use Rattle.shade_known.proofs.rows.any_abstract.Goals as goal

pub returns-in_default : goal.returns-in_default
returns-in_default c = any_none is_abstract c.args.params.now c.loop-place.place c.in_default.ensures c.loop-place.invariant

pub returns-then-is_abstract : goal.returns-then-is_abstract
returns-then-is_abstract c = any_here is_abstract c.args.params.now c.loop-place.place c.in-Some.ty c.is_abstract.result c.in-Some.ensures c.is_abstract.ensures c.if-is_abstract.true c.loop-place.invariant

pub loop-place-preserved : goal.loop-place-preserved
loop-place-preserved c = any_turn is_abstract c.args.params.now c.loop-place.place c.in-Some.ty c.is_abstract.result c.in-Some.ensures c.is_abstract.ensures c.if-is_abstract.false c.loop-place.invariant
