use Rattle.std.proofs.Common.{zero, suc, arith, rules}
use Rattle.shade_run_tests.proofs.lane.builtins.Goals as goal

pub returns : goal.returns
returns c zero lt = search rules
returns c (suc zero) lt = search rules
returns c (suc (suc zero)) lt = search rules
returns c (suc (suc (suc i))) lt = absurd (omega (arith, lt))
