use Rattle.shade_tasks.proofs.Leading.{Leads}
use Rattle.shade_tasks.proofs.taking.take.Given as goal

abbrev pub invariant-loop-taken : goal.invariant-loop-taken
invariant-loop-taken l = Leads l.uses l.names l.steps l.initial.known l.taken l.known
