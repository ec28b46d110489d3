use Rattle.std.proofs.Common.{refl, rules, subst}
use Rattle.shade_top.specs.declared.text.Reading.TheVariants as reading
use Rattle.shade_top.specs.Report.{IsReadingOf}
use Rattle.shade_top.proofs.ReadLaws.{run_refused, run_stops}
use Rattle.shade_top.proofs.run.run_bytes.Goals as goal

pub run_shader-requires : goal.run_shader-requires
run_shader-requires g c =
    let is : IsReadingOf c.args.bytes.now (reading.Shader c.in-Ok-Shader.shader) = subst (IsReadingOf c.args.bytes.now) c.in-Ok-Shader.field-0-is c.in-Ok-Shader.ensures in
    c.first_form_is_ready.ensures c.args.bytes.now c.in-Ok-Shader.shader is.stands

pub returns-in-Ok-Shader-clause-outcome : goal.returns-in-Ok-Shader-clause-outcome
returns-in-Ok-Shader-clause-outcome g c =
    let is : IsReadingOf c.args.bytes.now (reading.Shader c.in-Ok-Shader.shader) = subst (IsReadingOf c.args.bytes.now) c.in-Ok-Shader.field-0-is c.in-Ok-Shader.ensures in
    c.run_shader.ensures.outcome c.args.bytes.now is

pub returns-in-Ok-Refused-clause-outcome : goal.returns-in-Ok-Refused-clause-outcome
returns-in-Ok-Refused-clause-outcome g c =
    run_refused c.refused.result _ c.args.bytes.now c.args.job.now c.in-Ok-Refused.refusal (subst (IsReadingOf c.args.bytes.now) c.in-Ok-Refused.field-0-is c.in-Ok-Refused.ensures) refl c.refused.ensures

pub returns-in-Err-clause-outcome : goal.returns-in-Err-clause-outcome
returns-in-Err-clause-outcome g c = run_stops _ _ c.args.bytes.now c.args.job.now (search rules) refl
