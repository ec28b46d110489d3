use Rattle.std.proofs.Common.{◌≡◌, drop, false}
use Rattle.shade_shape.proofs.EndLaws.{ends_after}
use Rattle.shade_shape.proofs.bodies.ends_with_return.Given as goal

abbrev pub invariant-statements : goal.invariant-statements
invariant-statements l = ends_after l.ends (drop l.statement-index l.statement-items) ≡ ends_after false l.statement-items
