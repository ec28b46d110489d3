use Rattle.shade_scope.proofs.GivenLaws.{filter_kept}
use Rattle.shade_scope.proofs.conflicts.keep_filter.Goals as goal

pub returns-in_ok-insert-in-Filters : goal.returns-in_ok-insert-in-Filters
returns-in_ok-insert-in-Filters c =
    filter_kept _ _ _ _ _ _ _ c.in-Filters.is c.given_to.ensures c.joined-given.ensures c.key.ensures c.in_ok-insert-in-Filters.ensures.updates
