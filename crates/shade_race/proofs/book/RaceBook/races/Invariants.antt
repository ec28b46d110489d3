use Rattle.std.proofs.Common.{◌≡◌, ◌++◌, map, drop}
use Rattle.shade_race.specs.History.{root_races}
use Rattle.shade_race.specs.Roots.{seen_root}
use Rattle.shade_race.proofs.book.RaceBook.races.Given as goal

abbrev pub invariant-loop-number : goal.invariant-loop-number
invariant-loop-number l = l.races.items ++ root_races l.number (map seen_root (drop l.number l.fn.self.roots.items)) ≡ root_races 0 (map seen_root l.fn.self.roots.items)
