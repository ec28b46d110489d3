use Rattle.std.proofs.Common.{sym}
use Rattle.shade_steps.proofs.Layers.{own_is}
use Rattle.shade_steps.proofs.expressions.own_of.Goals as goal

pub returns : goal.returns
returns c = sym (own_is c.args.e.now)
