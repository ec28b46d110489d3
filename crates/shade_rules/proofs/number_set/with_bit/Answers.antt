use Rattle.std.proofs.Common.{refl}
use Rattle.shade_rules.proofs.NumberLaws.{one_here, others_stay}
use Rattle.shade_rules.proofs.number_set.with_bit.Goals as goal

pub returns-clause-bit : goal.returns-clause-bit
returns-clause-bit c = one_here c.args.word c.args.bit _ c.requires refl

pub returns-clause-others : goal.returns-clause-others
returns-clause-others c = others_stay c.args.word c.args.bit _ c.requires refl
