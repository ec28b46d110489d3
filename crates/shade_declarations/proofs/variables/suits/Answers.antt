use Rattle.std.proofs.Common.{◌∙◌}
use Rattle.shade_values.specs.Shape.{shape_of}
use Rattle.shade_declarations.specs.Variables.{access_in, space_in}
use Rattle.shade_declarations.proofs.Holding.{kept_fact, suits_so}
use Rattle.shade_declarations.proofs.variables.suits.Goals as goal

pub returns : goal.returns
returns c =
    suits_so _ (space_in c.args.known.now c.args.var.now) _ (access_in c.args.known.now c.args.var.now) c.args.of.1 _ (shape_of c.args.known.now.types c.args.of.0) _
    c.suits_by.ensures c.space_in-space.ensures c.access_in-access.ensures
    (c.fact_at-fact.ensures ∙ kept_fact c.args.known.now.types c.args.of.0 c.args.facts.now c.requires)
