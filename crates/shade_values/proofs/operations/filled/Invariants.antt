use Rattle.std.proofs.Common.{◌≡◌, replicate}
use Rattle.shade_values.specs.declared.value.Value.TheVariants as value
use Rattle.shade_values.proofs.operations.filled.Given as goal

abbrev pub invariant-loop-part : goal.invariant-loop-part
invariant-loop-part l = l.parts ≡ replicate l._part (value.One l.leaf)
