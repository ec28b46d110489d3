use Rattle.std.proofs.Common.{◌≡◌, ◌++◌, drop}
use Rattle.shade_core.specs.Code.{code_of}
use Rattle.shade_core.specs.Scopes.{listed}
use Rattle.shade_shape.proofs.scopes.add_listed.Given as goal

abbrev pub invariant-statements : goal.invariant-statements
invariant-statements l = l.seen ++ listed (code_of (drop l.statement-index l.statement-items)) ≡ l.initial.seen ++ listed (code_of l.statement-items)
