use Rattle.shade_scope.specs.Seen.{continued}
use Rattle.shade_scope.proofs.EndLaws.{on_pushed}
use Rattle.shade_scope.proofs.naming.add_continue.Goals as goal

pub returns : goal.returns
returns c = on_pushed _ (continued c.args.place) _ _ _ _ _ c.in-Some.ensures c.continued.ensures c.push.ensures.ok
