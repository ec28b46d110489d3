use Rattle.shade_typed.proofs.ContextLaws.{NotAmong}
use Rattle.shade_typed.proofs.simple.find_simple.Given as goal

abbrev pub invariant-ids : goal.invariant-ids
invariant-ids l = NotAmong l.table l.ids l.ty l.id-index
