use Rattle.shade_typed.proofs.SetLaws.{NamedFrom}
use Rattle.shade_typed.proofs.sets.are_members.Given as goal

abbrev pub invariant-loop-place : goal.invariant-loop-place
invariant-loop-place l = NamedFrom l.context.shader.types l.members l.types l.place
