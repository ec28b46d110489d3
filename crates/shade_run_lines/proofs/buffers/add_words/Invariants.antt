use Rattle.std.proofs.Common.{◌≡◌, ◌++◌, drop}
use Rattle.std.specs.List.{flat_map}
use Rattle.shade_run_lines.specs.Buffers.{word_text}
use Rattle.shade_run_lines.proofs.buffers.add_words.Given as goal

abbrev pub invariant-loop-word : goal.invariant-loop-word
invariant-loop-word l = l.out.items ++ flat_map word_text (drop l.word-index l.words) ≡ l.initial.out.items ++ flat_map word_text l.words
