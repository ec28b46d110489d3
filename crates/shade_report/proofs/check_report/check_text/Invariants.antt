use Rattle.std.proofs.Common.{◌≡◌, ◌++◌, drop}
use Rattle.std.specs.List.{flat_map}
use Rattle.shade_report.specs.CheckReport.{violation_text}
use Rattle.shade_report.proofs.check_report.check_text.Given as goal

abbrev pub invariant-loop-violation : goal.invariant-loop-violation
invariant-loop-violation l =
    l.out.items ++ flat_map (violation_text l.functions) (drop l.violation-index l.violations) ≡ l.initial.out.items ++ flat_map (violation_text l.functions) l.violations
