use Rattle.std.proofs.Common.{arith}
use Rattle.shade_typed.proofs.SetLaws.{one_as}
use Rattle.shade_typed.proofs.sets.one_of.Goals as goal

pub returns-in-len1 : goal.returns-in-len1
returns-in-len1 c = one_as c.args.types.now _ (omega arith) (omega arith)
