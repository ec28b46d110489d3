use Rattle.std.proofs.Common.{◌≡◌, ◌++◌, drop}
use Rattle.shade_job.specs.Pointers.{escaped}
use Rattle.shade_job.proofs.refusal.add_escaped.Given as goal

abbrev pub invariant-loop-byte : goal.invariant-loop-byte
invariant-loop-byte l = l.bytes.items ++ escaped (drop l.byte-index l.name) ≡ l.initial.bytes.items ++ escaped l.name
