use Rattle.std.proofs.Common.{◌≡◌, ◌++◌, drop}
use Rattle.std.specs.List.{flat_map}
use Rattle.shade_run_lines.specs.Races.{race_line}
use Rattle.shade_run_lines.proofs.races.add_races.Given as goal

abbrev pub invariant-loop-race : goal.invariant-loop-race
invariant-loop-race l = l.out.items ++ flat_map (race_line l.roots) (drop l.race-index l.races) ≡ l.initial.out.items ++ flat_map (race_line l.roots) l.races
