use Rattle.std.proofs.Common.{subst}
use Rattle.shade_scope.specs.Faults.{IsLeast}
use Rattle.shade_scope.specs.Resolved.{IsFault}
use Rattle.shade_scope.proofs.LeastLaws.{answered, refused}
use Rattle.shade_scope.proofs.resolving.resolve.Goals as goal

pub returns-in-Some : goal.returns-in-Some
returns-in-Some c =
    answered c.args.tree c.refuse-in-Some.result c.in-Some.fault c.refuse-in-Some.ensures
    (refused c.args.tree c.in-Some.fault (subst (IsLeast (IsFault c.args.tree)) c.in-Some.is c.in-Ok.ensures.least))
