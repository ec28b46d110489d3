use Rattle.std.proofs.Common.{sym, subst}
use Rattle.std.specs.Prelude.{◌↔◌, IsTrue}
use Rattle.std.proofs.lemmas.Result.{IfOk-weaker}
use Rattle.shade_core.specs.HasShape.{SwitchIs}
use Rattle.shade_whole.proofs.BodyLaws.{switch_head}
use Rattle.shade_whole.proofs.bodies.switch_is.Goals as goal

pub returns-in-Switch : goal.returns-in-Switch
returns-in-Switch c =
    IfOk-weaker c.is_switch.result _ _
    (λ b h. subst (λ head. IsTrue b ↔ SwitchIs head) (sym (switch_head c.args.act.now c.in-Switch.selector c.in-Switch.parts c.in-Switch.is)) h)
    (rw c.as_slice.ensures at c.is_switch.ensures)
