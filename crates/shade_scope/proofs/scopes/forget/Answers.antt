use Rattle.shade_scope.proofs.EndLaws.{without_of}
use Rattle.shade_scope.proofs.IndexLaws.{kept_less}
use Rattle.shade_scope.proofs.scopes.forget.Goals as goal

pub returns-in-Some-clause-indexed : goal.returns-in-Some-clause-indexed
returns-in-Some-clause-indexed c = kept_less _ _ _ _ _ c.requires c.in-Some.ensures c.put.ensures

pub returns-in-Some-clause-rest : goal.returns-in-Some-clause-rest
returns-in-Some-clause-rest c = without_of _ _ _ c.in-Some.ensures
