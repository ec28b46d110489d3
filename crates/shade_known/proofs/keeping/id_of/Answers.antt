use Rattle.shade_known.proofs.OneId.{is_id_of}
use Rattle.shade_known.proofs.keeping.id_of.Goals as goal

pub returns-in-Ok-clause-id : goal.returns-in-Ok-clause-id
returns-in-Ok-clause-id c =
    is_id_of c.args.table.now c.add.new.self c.args.ty c.in-Ok.id c.in-Ok.ensures.id c.in-Ok.ensures.grows (λ has. (c.in-Ok.ensures.known has).1)
    c.count.ensures.sound c.requires c.in-Ok.ensures.new
