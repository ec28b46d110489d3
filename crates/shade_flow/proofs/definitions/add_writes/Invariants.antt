use Rattle.std.proofs.Common.{◌≡◌, ◌++◌, drop}
use Rattle.shade_flow.specs.Definitions.{kept}
use Rattle.shade_flow.proofs.definitions.add_writes.Given as goal

abbrev pub invariant-loop-write : goal.invariant-loop-write
invariant-loop-write l = l.out.items ++ kept l.function l.calls (drop l.write-index l.writes) ≡ l.initial.out.items ++ kept l.function l.calls l.writes
