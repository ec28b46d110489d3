use Rattle.std.proofs.Common.{◌≡◌, replicate}
use Rattle.shade_makes.proofs.zeros.repeated.Given as goal

abbrev pub invariant-loop-part : goal.invariant-loop-part
invariant-loop-part l = (l.parts ≡ replicate l._part l.fn.element) × (l.element ≡ l.fn.element)
