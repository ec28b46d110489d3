use Rattle.std.proofs.Common.{◌≡◌, map}
use Rattle.std.specs.Prelude.{slice_get}
use Rattle.std.specs.List.{range_with_len}
use Rattle.shade_spots.specs.Memory.{first_by, words_of}
use Rattle.shade_memory.proofs.memory.Memory.begin.Given as goal

abbrev pub invariant-roots : goal.invariant-roots
invariant-roots l = l.roots.items ≡ map (λ root. first_by l.«module» (slice_get l.«module».roots root) (words_of l.handed root)) (range_with_len 0 l.number)
