use Rattle.std.proofs.Common.{List, map, subst}
use Rattle.std.proofs.lemmas.List.{take_all}
use Rattle.shade_uniformity.specs.declared.walk.Spot.{Spot}
use Rattle.shade_uniformity.specs.HeldRows.{Adds, AnyHeld}
use Rattle.shade_uniformity.specs.Visits.{visit_of}
use Rattle.shade_uniformity.proofs.AddLaws.{any_none, any_turn}
use Rattle.shade_uniformity.proofs.held.add_all_held.Goals as goal

pub spots-init : goal.spots-init
spots-init c = any_none c.args.function.now c.args.rows.now.items

pub spots-preserved : goal.spots-preserved
spots-preserved c = any_turn c.args.function.now c.args.spots.now c.spots.spot-index c.spot-item.result _ _ _ c.spots-test.true c.spot-item.is c.in_ok-add_held_by.ensures c.spots.invariant

pub returns : goal.returns
returns c = subst (λ (xs : List Spot). Adds (AnyHeld c.args.function.now (map visit_of xs)) c.args.rows.now.items c.spots.rows.items) (take_all _ c.args.spots.now c.spots-test.false) c.spots.invariant
