use Rattle.std.proofs.Common.{ap, ◌∙◌}
use Rattle.shade_values.specs.Shape.{shape_of}
use Rattle.shade_shape.specs.Facts.{fact_in, facts_of}
use Rattle.shade_shape.proofs.TypeLaws.{facts_at}
use Rattle.shade_shape.proofs.types.Types.facts.Goals as goal

pub returns : goal.returns
returns c =
    c.fact_at.ensures ∙ (ap (λ k. fact_in k c.args.id) c.deref.ensures.value
    ∙ (facts_at c.self.inside.table.now c.self.inside.facts.items c.self.invariant c.args.id ∙ ap (λ t. facts_of (shape_of t c.args.id)) c.self.view_is))
