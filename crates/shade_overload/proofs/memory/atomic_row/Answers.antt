use Rattle.shade_overload.proofs.MemoryLaws.{atomic_none, atomic_row_chosen}
use Rattle.shade_overload.proofs.memory.atomic_row.Goals as goal

pub returns-in_err-pointer : goal.returns-in_err-pointer
returns-in_err-pointer c = rw c.from_residual.ensures (atomic_none c.args.table.now c.args.op c.args.atomics c.args.types.now c.in_err-pointer.ensures.none)

pub returns : goal.returns
returns c =
    atomic_row_chosen c.args.table.now c.args.op c.args.atomics c.args.types.now _ c.in_ok-pointer.pointer c.in_ok-pointer.pointee c.in-Atomic.scalar _ c.taking.result
    c.in_ok-pointer.ensures.some c.in-Atomic.is c.params.ensures c.gives.ensures c.taking.ensures.row c.taking.ensures.taken c.taking.ensures.refused
