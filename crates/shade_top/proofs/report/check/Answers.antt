use Rattle.std.proofs.Common.{subst}
use Rattle.shade_top.specs.declared.text.Reading.TheVariants as reading
use Rattle.shade_top.specs.Report.{IsReadingOf}
use Rattle.shade_top.proofs.ReadLaws.{refused_checked}
use Rattle.shade_top.proofs.report.check.Goals as goal

pub judge-requires : goal.judge-requires
judge-requires c =
    let is : IsReadingOf c.args.bytes.now (reading.Shader c.in-Ok-Shader.shader) = subst (IsReadingOf c.args.bytes.now) c.in-Ok-Shader.field-0-is c.in-Ok-Shader.ensures in
    c.first_form_is_ready.ensures c.args.bytes.now c.in-Ok-Shader.shader is.stands

pub returns-in-Ok-Refused : goal.returns-in-Ok-Refused
returns-in-Ok-Refused c = refused_checked c.refused.result c.args.bytes.now c.in-Ok-Refused.refusal (subst (IsReadingOf c.args.bytes.now) c.in-Ok-Refused.field-0-is c.in-Ok-Refused.ensures) c.refused.ensures
