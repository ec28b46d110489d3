use Rattle.shade_typed.proofs.parts.member_type.Goals as goal

pub returns-in-Vector-clause-found : goal.returns-in-Vector-clause-found
returns-in-Vector-clause-found c = rw c.in-Vector.is c.component_type.ensures.found

pub returns-in-Struct-clause-found : goal.returns-in-Struct-clause-found
returns-in-Struct-clause-found c = rw c.in-Struct.is c.struct_member.ensures.found

pub returns-in-Exchanged-clause-found : goal.returns-in-Exchanged-clause-found
returns-in-Exchanged-clause-found c = rw c.in-Exchanged.is c.exchanged_member.ensures.found
