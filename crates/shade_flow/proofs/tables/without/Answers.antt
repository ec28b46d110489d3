use Rattle.std.proofs.Common.{refl}
use Rattle.shade_flow.proofs.BitLaws.{left_out}
use Rattle.shade_flow.proofs.tables.without.Goals as goal

pub returns : goal.returns
returns c = left_out c.args.word c.args.bits _ c.ranges.bits.fits refl
