use Rattle.std.proofs.Common.{◌≡◌, ◌++◌, drop}
use Rattle.shade_flow.specs.Writes.{call_writes}
use Rattle.shade_flow.proofs.writes.add_arguments.Given as goal

abbrev pub invariant-arguments : goal.invariant-arguments
invariant-arguments l = (l.place ≡ l.argument-index) × (l.writes.items ++ call_writes l.number l.place (drop l.argument-index l.arguments) ≡ l.initial.writes.items ++ call_writes l.number 0 l.arguments)
