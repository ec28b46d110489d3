use Rattle.std.proofs.Common.{◌≡◌, drop}
use Rattle.shade_scope.specs.Index.{bounds_of}
use Rattle.shade_scope.specs.Scopes.{newest, or_else}
use Rattle.shade_scope.proofs.scopes.scan.Given as goal

abbrev pub invariant-loop-k : goal.invariant-loop-k
invariant-loop-k l = or_else (newest (bounds_of (drop l.k-index l.kept)) l.name) l.last ≡ newest (bounds_of l.kept) l.name
