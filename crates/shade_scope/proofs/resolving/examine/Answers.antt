use Rattle.std.proofs.Common.{◌∙◌}
use Rattle.shade_scope.proofs.LeastLaws.{answer}
use Rattle.shade_scope.proofs.GradeLaws.{severities}
use Rattle.shade_scope.proofs.NodeLaws.{uses_told}
use Rattle.shade_scope.proofs.LinkLaws.{small_links}
use Rattle.shade_scope.proofs.resolving.examine.Goals as goal

pub returns-clause-least : goal.returns-clause-least
returns-clause-least c =
    answer c.args.tree.now _ _ _ _ _ _ _ _ (c.as_slice-row.ensures ∙ c.in_ok-events.ensures) c.in_ok-naming.ensures.least c.in_ok-conflict.ensures c.in_ok-naming.ensures.links c.as_slice.ensures
    c.in_ok-cycle.ensures c.earlier.ensures c.earlier-2.ensures

pub returns-clause-filters : goal.returns-clause-filters
returns-clause-filters c = severities c.args.tree.now _ _ c.requires (c.as_slice-row.ensures ∙ c.in_ok-events.ensures) (c.from_vec-2.ensures ∙ c.in_ok-filters.ensures)

pub least_cycle-requires : goal.least_cycle-requires
least_cycle-requires c = small_links c.args.tree.now _ _ c.requires (c.as_slice-row.ensures ∙ c.in_ok-events.ensures) c.in_ok-naming.ensures.links

pub returns-clause-uses : goal.returns-clause-uses
returns-clause-uses c = uses_told c.args.tree.now _ _ (c.as_slice-row.ensures ∙ c.in_ok-events.ensures) (c.from_vec.ensures ∙ c.in_ok-naming.ensures.uses)
