use Rattle.std.proofs.Common.{ap, ◌∙◌}
use Rattle.shade_scope.specs.Scopes.{closed}
use Rattle.shade_scope.proofs.IndexLaws.{closed_by}
use Rattle.shade_scope.proofs.scopes.Scopes.close.Goals as goal

pub returns-in-Some : goal.returns-in-Some
returns-in-Some c = closed_by _ _ _ _ _ c.pop_start.ensures.rest c.in-Some.ensures.last c.cut.ensures.first ∙ ap closed c.self.view_is
