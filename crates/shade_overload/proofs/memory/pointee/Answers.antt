use Rattle.shade_overload.proofs.ResultLaws.{named_of}
use Rattle.shade_overload.proofs.memory.pointee.Goals as goal

pub returns-in-Pointer-clause-of : goal.returns-in-Pointer-clause-of
returns-in-Pointer-clause-of c = named_of c.args.table.now c.in-Pointer.id c.get.result.now c.get.ensures.sound c.get.ensures.ty
