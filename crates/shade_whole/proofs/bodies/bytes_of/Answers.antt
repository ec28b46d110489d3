use Rattle.std.proofs.Common.{rules}
use Rattle.shade_whole.proofs.SizeLaws.{id_bytes}
use Rattle.shade_whole.proofs.bodies.bytes_of.Goals as goal

pub returns-in-Some-clause-bytes : goal.returns-in-Some-clause-bytes
returns-in-Some-clause-bytes c = id_bytes c.args.types.now c.in-Some.id c.args.id c.from.result (rw c.table.ensures at c.layout_of.ensures.sound) c.in-Some.is c.requires (search rules)
