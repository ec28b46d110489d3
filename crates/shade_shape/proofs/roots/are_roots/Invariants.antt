use Rattle.std.proofs.Common.{take}
use Rattle.std.specs.Prelude.{All}
use Rattle.shade_core.specs.Roots.{IsRoot}
use Rattle.shade_shape.proofs.roots.are_roots.Given as goal

abbrev pub invariant-roots : goal.invariant-roots
invariant-roots l = All (IsRoot l.types) (take l.root-index l.roots)
