use Rattle.shade_typed.proofs.places.step_type.Goals as goal

pub returns-in-Index-clause-found : goal.returns-in-Index-clause-found
returns-in-Index-clause-found c = rw c.in-Index.is c.index_type.ensures.found
