use Rattle.std.proofs.lemmas.Result.{IfOk-weaker}
use Rattle.shade_shape.proofs.Tells.{refutes}
use Rattle.shade_shape.proofs.tables.is_table.Goals as goal

pub returns-then-not-has_scalars : goal.returns-then-not-has_scalars
returns-then-not-has_scalars c = refutes (λ t. absurd (let h = c.has_scalars.ensures.1 t.scalars in cc (h, c.if-not-has_scalars.true)))

pub returns : goal.returns
returns c =
    IfOk-weaker c.are_nested.result _ _
    (λ b h. (λ t. record { sound = c.count-sound.ensures.sound; nested = h.0 t; scalars = c.has_scalars.ensures.0 c.if-not-has_scalars.false }, λ s. h.1 s.nested))
    c.are_nested.ensures
