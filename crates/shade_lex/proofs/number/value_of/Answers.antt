use Rattle.std.proofs.Common.{sym}
use Rattle.shade_lex.proofs.ValueLaws.{value_run-large}
use Rattle.shade_lex.proofs.number.value_of.Goals as goal

pub returns-in-None : goal.returns-in-None
returns-in-None c = value_run-large _ _ _ _ _ c.requires c.loop-c-test.true c.c-item.is (sym c.if-is_suffix.ensures) c.loop-c.invariant (rw c.digit_of.ensures at c.in-None.ensures)
