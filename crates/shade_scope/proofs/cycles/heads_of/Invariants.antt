use Rattle.std.proofs.Common.{◌≡◌, take, map}
use Rattle.shade_scope.specs.Cycles.{head_of}
use Rattle.shade_scope.proofs.cycles.heads_of.Given as goal

abbrev pub invariant-loop-decl : goal.invariant-loop-decl
invariant-loop-decl l = l.heads ≡ map head_of (take l.decl-index l.decls)
