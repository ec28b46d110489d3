use Rattle.shade_shape.proofs.Tells.{refutes}
use Rattle.shade_shape.proofs.roots.is_root.Goals as goal

pub returns-then-not-is_placed : goal.returns-then-not-is_placed
returns-then-not-is_placed c = refutes (λ r. absurd (let h = c.is_placed.ensures.1 r.placed in cc (h, c.if-not-is_placed.true)))

pub returns : goal.returns
returns c = (λ h. record { placed = c.is_placed.ensures.0 c.if-not-is_placed.false; begins = c.may_begin.ensures.0 h }, λ r. c.may_begin.ensures.1 r.begins)
