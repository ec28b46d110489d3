use Rattle.std.proofs.Common.{◌≡◌, ◌++◌, drop}
use Rattle.shade_core.specs.Code.{code_of}
use Rattle.shade_core.specs.Scopes.{unskipped}
use Rattle.shade_shape.proofs.scopes.add_unskipped.Given as goal

abbrev pub invariant-statements : goal.invariant-statements
invariant-statements l = l.seen ++ unskipped (code_of (drop l.statement-index l.statement-items)) ≡ l.initial.seen ++ unskipped (code_of l.statement-items)
