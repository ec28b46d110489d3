use Rattle.std.proofs.Common.{◌≡◌, map, take}
use Rattle.shade_report.specs.Sources.{list_sources}
use Rattle.shade_report.proofs.check_report.all_sources.Given as goal

abbrev pub invariant-loop-function : goal.invariant-loop-function
invariant-loop-function l = map (λ sources. sources.items) l.all.items ≡ map (λ function. list_sources function.body) (take l.function-index l.functions)
