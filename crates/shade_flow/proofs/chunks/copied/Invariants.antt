use Rattle.std.proofs.Common.{◌≡◌, take}
use Rattle.shade_flow.proofs.chunks.copied.Given as goal

abbrev pub invariant-loop-defined : goal.invariant-loop-defined
invariant-loop-defined l = l.copy.items ≡ take l.defined-index l.definitions
