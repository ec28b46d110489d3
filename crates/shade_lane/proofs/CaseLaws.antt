-- The last statement of a list.
use Rattle.std.proofs.Common.{Bool, List, [], ◌∷◌}
use Rattle.shade_core.specs.declared.statement.CoreStatement.{CoreStatement}
use Rattle.shade_core.specs.Code.{code_of}
use Rattle.shade_lane.specs.Lane.{ends_in_return}

-- whether a list ends in a return, where what went before it did
abbrev pub ends_after : Bool → List CoreStatement → Bool
ends_after before [] = before
ends_after before (s ∷ statements) = ends_in_return (code_of (s ∷ statements))
