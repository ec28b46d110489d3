use Rattle.shade_top.proofs.ReadLaws.{verdict_checked}
use Rattle.shade_top.proofs.report.judge.Goals as goal

pub returns : goal.returns
returns c bytes of = verdict_checked c.verdict.result bytes c.args.shader.now c.in_ok-violations.violations.items of c.in_ok-violations.ensures (rw c.deref.ensures.value at c.verdict.ensures)
