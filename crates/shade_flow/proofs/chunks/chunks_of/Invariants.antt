use Rattle.std.proofs.Common.{◌≡◌, ◌++◌, length}
use Rattle.std.specs.Prelude.{All}
use Rattle.shade_flow.specs.Routes.{IsSearched, defined_in}
use Rattle.shade_flow.proofs.chunks.chunks_of.Given as goal

abbrev pub invariant-rest : goal.invariant-rest
invariant-rest l = record { definitions : defined_in l.chunks.items ++ l.rest ≡ l.definitions; rows : All (IsSearched l.routes) l.chunks.items }

abbrev pub decreases-rest : goal.decreases-rest
decreases-rest l = length l.rest
