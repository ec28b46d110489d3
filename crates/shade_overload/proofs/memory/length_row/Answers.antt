use Rattle.shade_overload.proofs.MemoryLaws.{length_none, length_chosen}
use Rattle.shade_overload.proofs.memory.length_row.Goals as goal

pub returns-in_err-pointer : goal.returns-in_err-pointer
returns-in_err-pointer c = rw c.from_residual.ensures (length_none c.args.table.now c.args.types.now c.in_err-pointer.ensures.none)

pub returns : goal.returns
returns c =
    length_chosen c.args.table.now c.args.types.now _ c.in_ok-pointer.pointer c.in_ok-pointer.pointee c.in-RuntimeArray.field-0 c.taking.result
    c.in_ok-pointer.ensures.some c.in-RuntimeArray.is c.of.ensures c.taking.ensures.row c.taking.ensures.taken c.taking.ensures.refused
