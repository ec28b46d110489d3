use Rattle.std.proofs.Common.{◌≡◌, ◌++◌, [], map, drop}
use Rattle.shade_race.specs.History.{roots_from, sizes_of}
use Rattle.shade_race.specs.Roots.{seen_root}
use Rattle.shade_race.proofs.book.RaceBook.begin.Given as goal

abbrev pub invariant-loop-number : goal.invariant-loop-number
invariant-loop-number l = map seen_root l.roots.items ++ roots_from [] l.number (drop l.number (sizes_of l.words l.spaces)) ≡ roots_from [] 0 (sizes_of l.words l.spaces)
