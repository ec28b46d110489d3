use Rattle.std.proofs.Common.{map}
use Rattle.shade_report.proofs.ReportLaws.{one_more}
use Rattle.shade_report.proofs.check_report.check_text.Goals as goal

pub loop-violation-preserved : goal.loop-violation-preserved
loop-violation-preserved c =
    one_more c.as_slice-functions.result.now (map (λ sources. sources.items) c.in_ok-all.all.items) c.args.violations.now c.loop-violation.violation-index c.violation-item.result c.sources_at-sources.result.now _ _ _ c.loop-violation-test.true c.violation-item.is c.in_ok-all.ensures (rw c.deref.ensures.value at c.sources_at-sources.ensures) c.in_ok-add_lines.ensures c.loop-violation.invariant
