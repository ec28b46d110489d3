use Rattle.std.proofs.Common.{◌≡◌, ap, length, true}
use Rattle.std.specs.Prelude.{◌==◌}
use Rattle.shade_overload.proofs.MemoryLaws.{barrier_none}
use Rattle.shade_overload.proofs.memory.barrier_row.Goals as goal

pub returns-then-not-is_empty : goal.returns-then-not-is_empty
returns-then-not-is_empty c =
    barrier_none c.args.types.now (λ e. absurd (let t : (length c.args.types.now == 0) ≡ true = ap (λ x. length x == 0) e in cc (t, c.is_empty.ensures, c.if-not-is_empty.true)))
