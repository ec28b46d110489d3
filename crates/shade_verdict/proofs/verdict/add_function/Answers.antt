use Rattle.shade_graph.specs.Graph
use Rattle.shade_graph.specs.declared.node.Node.TheVariants.{NonUniform}
use Rattle.shade_verdict.proofs.FoundLaws.{next_function}
use Rattle.shade_verdict.proofs.TargetLaws.{has_number, number_fits, leads_there}
use Rattle.shade_verdict.proofs.verdict.add_function.Goals as goal

pub returns-in_default : goal.returns-in_default
returns-in_default c functions f at is a = absurd (has_number f c.args.graph.now NonUniform is Graph.non_uniform c.in_default.ensures.none)

pub paths_to-requires : goal.paths_to-requires
paths_to-requires c = number_fits c.args.graph.now c.graph.result.now c.in-Some.non_uniform _ c.graph.ensures.graph c.in-Some.ensures.some

pub add_severity-requires : goal.add_severity-requires
add_severity-requires c = leads_there c.args.graph.now c.graph.result.now _ c.in-Some.non_uniform c.graph.ensures.graph c.graph.ensures.within c.in-Some.ensures.some c.in_ok-paths_to.ensures.graph c.in_ok-paths_to.ensures.target

pub returns : goal.returns
returns c functions f at is a =
    next_function functions c.args.function _
    (c.in_ok-add_severity-3.ensures functions f at is
    (c.in_ok-add_severity-2.ensures functions f at is (c.in_ok-add_severity.ensures functions f at is a)))
