use Rattle.std.proofs.Common.{take}
use Rattle.std.specs.Prelude.{All}
use Rattle.shade_rules.specs.Faults.{IsNone}
use Rattle.shade_rules.specs.Findings.{fault_of}
use Rattle.shade_rules.proofs.functions.first_fault.Given as goal

abbrev pub invariant-found : goal.invariant-found
invariant-found l = All (λ f. IsNone (fault_of f)) (take l.finding-index l.found)
