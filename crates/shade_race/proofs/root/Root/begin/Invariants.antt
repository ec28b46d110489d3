use Rattle.std.proofs.Common.{◌≡◌, []}
use Rattle.shade_race.specs.History.{row}
use Rattle.shade_race.proofs.root.Root.begin.Given as goal

abbrev pub invariant-loop-word : goal.invariant-loop-word
invariant-loop-word l = l.cells.items ≡ row [] 0 0 l.word
