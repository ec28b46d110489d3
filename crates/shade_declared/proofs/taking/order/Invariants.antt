use Rattle.std.proofs.Common.{◌+◌, false, length, map, replicate, reverse, [], ◌++◌}
use Rattle.shade_declared.specs.declared.taking.Turn.TheVariants as turn
use Rattle.shade_declared.specs.Order.{numbers}
use Rattle.shade_declared.specs.Turns.{to_come}
use Rattle.shade_declared.proofs.Leading.{Leads}
use Rattle.shade_declared.proofs.taking.order.Given as goal

abbrev pub invariant-turns : goal.invariant-turns
invariant-turns l =
    Leads l.named (replicate (length l.named) false) (map turn.Begin (numbers (length l.named)) ++ []) l.begun.items (reverse l.turns.items) l.order.items

abbrev pub decreases-turns : goal.decreases-turns
decreases-turns l = length l.turns.items + to_come l.begun.items l.named
