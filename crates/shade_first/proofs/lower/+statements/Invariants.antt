use Rattle.std.proofs.Common.{◌+◌, ◌^◌, ◌<◌, drop, take}
use Rattle.shade_first.specs.Lowering.{Lowers, count_all}
use Rattle.shade_first.proofs.lower.+statements.Given as goal

abbrev pub invariant-statements-items : goal.invariant-statements-items
invariant-statements-items l = record {
  so_far : Lowers (take l.item-index l.item-items) l.fn.number l.made l.next;
  room : l.next + count_all (drop l.item-index l.item-items) < 2 ^ 32;
}
