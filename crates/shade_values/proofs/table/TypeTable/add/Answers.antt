use Rattle.std.proofs.Common.{arith}
use Rattle.shade_values.proofs.SoundLaws.{known_small, added_id, grows}
use Rattle.shade_values.proofs.table.TypeTable.add.Goals as goal

pub returns-in-Some-clause-large : goal.returns-in-Some-clause-large
returns-in-Some-clause-large c =
    rw (← c.self.view_is) (λ h. absurd (omega (arith, known_small c.self.inside.entries.items c.self.inside.structs.items c.in-Some.place c.args.ty c.self.invariant (rw c.deref.ensures.value at c.in-Some.ensures.found), h)))

pub returns-clause-id : goal.returns-clause-id
returns-clause-id c = added_id c.add_new.result c.args.self.now c.add_new.new.self c.args.ty c.add_new.ensures.id c.add_new.ensures.added

pub returns-clause-grows : goal.returns-clause-grows
returns-clause-grows c = grows c.add_new.result c.args.self.now c.add_new.new.self c.args.ty c.add_new.ensures.added c.add_new.ensures.refused
