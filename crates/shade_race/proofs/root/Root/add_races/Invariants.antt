use Rattle.std.proofs.Common.{◌≡◌, ◌++◌, drop}
use Rattle.shade_race.specs.History.{word_races}
use Rattle.shade_race.proofs.root.Root.add_races.Given as goal

abbrev pub invariant-loop-word : goal.invariant-loop-word
invariant-loop-word l = l.races.items ++ word_races l.number l.word (drop l.word l.fn.self.cells.items) ≡ l.initial.races.items ++ word_races l.number 0 l.fn.self.cells.items
