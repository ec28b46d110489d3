use Rattle.shade_typed.proofs.PlaceLaws.{index_is}
use Rattle.shade_typed.proofs.places.index_type.Goals as goal

pub returns-clause-found : goal.returns-clause-found
returns-clause-found c = index_is c.args.context.now c.args.index.now c.args.from c.in-Some.ty _ c.in-Some.ensures (c.is_index.ensures.0 c.if-not-is_index.false) c.part_type.ensures.found
