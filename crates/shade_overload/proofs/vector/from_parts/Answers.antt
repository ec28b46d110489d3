use Rattle.shade_overload.proofs.VectorLaws.{short}
use Rattle.shade_overload.proofs.vector.from_parts.Goals as goal

pub recast_all-requires : goal.recast_all-requires
recast_all-requires c = short c.args.types.now c.args.count c.requires.few c.requires.parts (c.make_up.ensures.0 c.if-not-make_up.false)
