use Rattle.shade_values.proofs.NumberLaws.{placed_small}
use Rattle.shade_values.proofs.bits.placed.Goals as goal

pub returns-clause-small : goal.returns-clause-small
returns-clause-small c = rw c.power.ensures.value (placed_small _ c.args.count c.args.offset c.requires.below c.requires.small)
