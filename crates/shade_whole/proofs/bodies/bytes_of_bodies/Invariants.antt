use Rattle.shade_whole.proofs.BodyLaws.{KeptSoFar}
use Rattle.shade_whole.proofs.bodies.bytes_of_bodies.Given as goal

abbrev pub invariant-functions : goal.invariant-functions
invariant-functions l = KeptSoFar l.«module» l.kept.items l.function-index
