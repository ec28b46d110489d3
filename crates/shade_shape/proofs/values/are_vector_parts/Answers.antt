use Rattle.std.proofs.Common.{arith}
use Rattle.shade_shape.proofs.Tells.{refutes}
use Rattle.shade_shape.proofs.values.are_vector_parts.Goals as goal

pub returns-then-parts-count : goal.returns-then-parts-count
returns-then-parts-count c = refutes (λ h. absurd (omega (arith, h.0)))

pub returns : goal.returns
returns c = (λ h. (omega arith, c.are_scalars_of.ensures.0 h), λ h. c.are_scalars_of.ensures.1 h.1)
