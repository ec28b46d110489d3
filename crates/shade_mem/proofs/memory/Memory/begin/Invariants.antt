use Rattle.std.proofs.Common.{◌≡◌, take}
use Rattle.shade_mem.proofs.memory.Memory.begin.Given as goal

-- the words of the roots so far
abbrev pub invariant-loop-root : goal.invariant-loop-root
invariant-loop-root l = l.roots.items ≡ take l.root-index l.root-items
