use Rattle.std.proofs.Common.{◌≡◌, ◌++◌, drop}
use Rattle.shade_group.specs.Seen.{machine_of}
use Rattle.shade_report.specs.RunReport.{release_lines}
use Rattle.shade_report.proofs.run_report.add_releases.Given as goal

abbrev pub invariant-loop-number : goal.invariant-loop-number
invariant-loop-number l =
    l.out.items ++ release_lines l.functions l.number (drop l.number (machine_of l.group).released) ≡ l.initial.out.items ++ release_lines l.functions 0 (machine_of l.group).released
