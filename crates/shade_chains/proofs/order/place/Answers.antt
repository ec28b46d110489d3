use Rattle.std.proofs.Common.{refl}
use Rattle.shade_chains.proofs.OrderLaws.{place_more, in_rows, one_longer}
use Rattle.shade_chains.proofs.order.place.Goals as goal

pub returns-clause-after : goal.returns-clause-after
returns-clause-after c =
    place_more _ c.args.order.now.items _ c.args.placed.now.items _ c.args.number c.requires.before (in_rows _ c.args.rows.now c.args.number c.requires.known) c.requires.ready refl c.in_ok-push.ensures.items

pub returns-clause-one : goal.returns-clause-one
returns-clause-one c = one_longer _ c.args.order.now.items c.args.number c.in_ok-push.ensures.items
