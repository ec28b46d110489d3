use Rattle.shade_scope.proofs.EndLaws.{rest_by, last_by}
use Rattle.shade_scope.proofs.scopes.pop_start.Goals as goal

pub returns-clause-rest : goal.returns-clause-rest
returns-clause-rest c = rest_by _ _ _ c.pop.ensures

pub returns-clause-last : goal.returns-clause-last
returns-clause-last c = last_by _ _ _ c.pop.ensures
