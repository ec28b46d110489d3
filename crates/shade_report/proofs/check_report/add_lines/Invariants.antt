use Rattle.std.proofs.Common.{◌≡◌, ◌++◌, drop}
use Rattle.std.specs.List.{flat_map}
use Rattle.shade_report.specs.CheckReport.{step_line}
use Rattle.shade_report.proofs.check_report.add_lines.Given as goal

abbrev pub invariant-loop-step : goal.invariant-loop-step
invariant-loop-step l =
    l.out.items ++ flat_map (step_line l.functions l.sources) (drop l.step-index l.step-items) ≡ l.initial.out.items ++ flat_map (step_line l.functions l.sources) l.step-items
