use Rattle.std.proofs.Common.{◌≡◌, map, None}
use Rattle.std.specs.List.{range_with_len}
use Rattle.shade_evaluate.specs.Misuse.{misuse_at, first_fault}
use Rattle.shade_evaluate.proofs.misuses.misuse_by_parts.Given as goal

abbrev pub invariant-loop-k : goal.invariant-loop-k
invariant-loop-k l = first_fault (map (misuse_at l.op l.args l.at) (range_with_len 0 l.k)) ≡ None
