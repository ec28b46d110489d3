use Rattle.std.proofs.Common.{◌≡◌, drop, map}
use Rattle.shade_core.specs.Standing.{are_numbered, by_itself}
use Rattle.shade_shape.proofs.bodies.are_numbered.Given as goal

abbrev pub invariant-statements : goal.invariant-statements
invariant-statements l = record {
  count : l.next ≡ l.statement-index;
  same : are_numbered l.next (map (λ s. by_itself s.now) (drop l.statement-index l.statements)) ≡ are_numbered 0 (map (λ s. by_itself s.now) l.statements);
}
