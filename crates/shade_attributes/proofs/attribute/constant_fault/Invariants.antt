use Rattle.std.proofs.Common.{◌≡◌, drop}
use Rattle.shade_attributes.specs.Attributes.{constant_fault}
use Rattle.shade_attributes.proofs.attribute.constant_fault.Given as goal

abbrev pub invariant-loop-argument : goal.invariant-loop-argument
invariant-loop-argument l = constant_fault l.facts (drop l.argument-index l.arguments) ≡ constant_fault l.facts l.arguments
