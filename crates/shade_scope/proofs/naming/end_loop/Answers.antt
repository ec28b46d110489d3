use Rattle.shade_scope.proofs.EndLaws.{without_of}
use Rattle.shade_scope.proofs.naming.end_loop.Goals as goal

pub returns : goal.returns
returns c = without_of _ _ _ c.in-Some.ensures
