use Rattle.shade_typed.proofs.PartLaws.{struct_stands, past_member, member_at}
use Rattle.shade_typed.proofs.parts.struct_member.Goals as goal

pub members-members-requires : goal.members-members-requires
members-members-requires c = rw c.table.ensures (rw c.types.ensures.same (struct_stands c.args.context.now.shader.types c.args.number c.types.ensures.sound c.requires))

pub returns-in_default-clause-found : goal.returns-in_default-clause-found
returns-in_default-clause-found c = past_member c.args.context.now.shader.types c.args.number c.args.place c.members-members.result.now (rw c.types.ensures.same at (rw c.table.ensures at c.members-members.ensures)) c.in_default.ensures

pub returns-clause-found : goal.returns-clause-found
returns-clause-found c = member_at c.args.context.now.shader.types c.args.number c.args.place c.members-members.result.now c.in-Some.member _ (rw c.types.ensures.same at (rw c.table.ensures at c.members-members.ensures)) c.in-Some.ensures c.typed.ensures.found
