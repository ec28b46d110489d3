use Rattle.std.proofs.Common.{refl}
use Rattle.shade_scope.specs.Seen.{turned}
use Rattle.shade_scope.proofs.EndLaws.{on_pushed}
use Rattle.shade_scope.proofs.naming.turn_loop.Goals as goal

pub returns : goal.returns
returns c = on_pushed _ turned _ _ _ _ _ c.in-Some.ensures refl c.push.ensures.ok
