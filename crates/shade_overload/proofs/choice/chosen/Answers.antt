use Rattle.shade_overload.proofs.PatternLaws.{has_forms, found_chosen}
use Rattle.shade_overload.proofs.choice.chosen.Goals as goal

pub returns : goal.returns
returns c = found_chosen _ _ _ _ _ _ _ c.in_ok-forms.ensures.some.0 c.in_ok-forms.ensures.some.1 (c.allows.ensures.0 c.if-not-allows.false) c.nearest.ensures

pub returns-in_err-forms : goal.returns-in_err-forms
returns-in_err-forms c = rw c.from_residual.ensures (has_forms c.args.op c.args.pattern c.args.types.now c.in_err-forms.ensures.none)
