use Rattle.std.proofs.Common.{◌≡◌, drop}
use Rattle.shade_known.specs.Operates.{first_unfit}
use Rattle.shade_known.proofs.rows.first_unfit.Given as goal

abbrev pub invariant-loop-i : goal.invariant-loop-i
invariant-loop-i l = first_unfit l.facts (drop l.i l.operands) (drop l.i l.params) ≡ first_unfit l.facts l.operands l.params
