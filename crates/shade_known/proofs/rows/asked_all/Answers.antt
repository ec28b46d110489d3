use Rattle.shade_known.specs.Operates.{asked_of}
use Rattle.shade_known.proofs.Turns.{map_turn, map_none}
use Rattle.shade_known.proofs.rows.asked_all.Goals as goal

pub returns-in_default : goal.returns-in_default
returns-in_default c = map_none asked_of c.args.params.now c.loop-place.place c.loop-place.made.items c.in_default.ensures c.loop-place.invariant

pub loop-place-preserved : goal.loop-place-preserved
loop-place-preserved c =
    map_turn asked_of c.args.params.now c.loop-place.place c.in-Some.ty c.asked_of.result c.loop-place.made.items c.in-Some.ensures c.asked_of.ensures c.in_ok-push.ensures.items c.loop-place.invariant
