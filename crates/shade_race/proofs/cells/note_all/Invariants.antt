use Rattle.std.proofs.Common.{◌≡◌, ◌++◌, map, take, drop}
use Rattle.shade_race.specs.Word.{noted as noted_of}
use Rattle.shade_race.proofs.cells.note_all.Given as goal

abbrev pub invariant-loop-word : goal.invariant-loop-word
invariant-loop-word l = l.words ≡ map (noted_of l.epoch l.act) (take l.word-index l.fn.words) ++ drop l.word-index l.fn.words
