use Rattle.shade_typed.proofs.sets.rule_type.Goals as goal

pub returns-in-Make-clause-found : goal.returns-in-Make-clause-found
returns-in-Make-clause-found c = rw c.in-Make.is c.made_type.ensures.found

pub returns-in-Member-clause-found : goal.returns-in-Member-clause-found
returns-in-Member-clause-found c = rw c.in-Member.is c.one_member.ensures.found

pub returns-in-Index-clause-found : goal.returns-in-Index-clause-found
returns-in-Index-clause-found c = rw c.in-Index.is c.indexed_type.ensures.found

pub returns-in-Swizzle-clause-found : goal.returns-in-Swizzle-clause-found
returns-in-Swizzle-clause-found c = rw c.in-Swizzle.is c.swizzled_type.ensures.found
