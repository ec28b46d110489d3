use Rattle.shade_known.proofs.Answering.{nothing_to_convert, cannot_convert, stays_so, becomes_so}
use Rattle.shade_known.proofs.convert.converted.Goals as goal

pub returns-in_default : goal.returns-in_default
returns-in_default c = rw c.unconverted.ensures (nothing_to_convert c.args.known.now c.args.idle c.args.operand c.args.to c.in_default.ensures.ty)

pub returns-in-Cannot : goal.returns-in-Cannot
returns-in-Cannot c = rw c.unconverted-in-Cannot.ensures (cannot_convert c.args.known.now c.args.idle c.args.operand c.args.to c.in-Some.from c.in-Some.ensures.ty c.in-Cannot.ensures)

pub returns-in-Stays : goal.returns-in-Stays
returns-in-Stays c =
    stays_so c.args.known.now c.args.idle c.args.operand c.args.to c.in-Some.from c.in-Some.ensures.ty _ c.taken.result c.value_at-value.ensures c.in-Stays.ensures c.taken.ensures

pub returns-in-Becomes : goal.returns-in-Becomes
returns-in-Becomes c =
    becomes_so c.args.known.now c.args.idle c.args.operand c.args.to c.in-Some.from c.in-Some.ensures.ty c.in-Becomes.scalar _ c.taken-in-Becomes.result c.value_at-value.ensures c.in-Becomes.ensures c.taken-in-Becomes.ensures
