use Rattle.std.proofs.Common.{ℕ, List, Option, refl, subst, inl, inr}
use Rattle.std.specs.Prelude.{IfSome, IfNone}
use Rattle.shade_reach.specs.Digraph.{HasEdge, IsLeastEdgePath}
use Rattle.shade_reach.specs.Paths.{NoPath}
use Rattle.shade_verdict.proofs.TargetLaws.{node_is, not_asked, from_fits, steps_fit, told, not_led}
use Rattle.shade_verdict.proofs.verdict.add_target.Goals as goal

pub returns-in_default : goal.returns-in_default
returns-in_default c f is asked = absurd (not_asked f c.args.severity c.args.finder.now.graph.now c.nodes.result.now c.args.target _ c.nodes.ensures.nodes c.requires.target c.in_default.not-Before asked)

pub least_from-requires : goal.least_from-requires
least_from-requires c = from_fits c.args.finder.now.graph.now c.args.finder.now.paths c.args.target c.requires.paths c.requires.target

pub returns-in_default-2 : goal.returns-in_default-2
returns-in_default-2 c f is asked =
    inr (
      refl,
      not_led f c.args.finder.now.graph.now c.args.finder.now.paths.graph c.args.target c.args.finder.now.paths.target is c.requires.paths.same c.requires.target c.requires.paths.target
          (subst (λ (o : Option (List ℕ)). IfNone o (NoPath (HasEdge c.args.finder.now.paths.graph.edges) c.args.target c.args.finder.now.paths.target)) c.in_default-2.is c.in_ok-path.ensures.none),
    )

pub path_steps-requires : goal.path_steps-requires
path_steps-requires c =
    steps_fit c.args.finder.now.graph.now c.nodes-2.result.now c.args.finder.now.paths.graph c.args.target c.args.finder.now.paths.target c.in-Some.path c.as_slice.result.now c.nodes-2.ensures.nodes c.requires.paths.same
    c.requires.paths.within c.requires.target
    (subst (λ (o : Option (List ℕ)). IfSome o (IsLeastEdgePath c.args.finder.now.paths.graph.edges c.args.target c.args.finder.now.paths.target)) c.in-Some.is c.in_ok-path.ensures.path) c.as_slice.ensures

pub returns : goal.returns
returns c f is asked =
    inl (
      _,
      c.in_ok-push.ensures.items,
      told f c.args.finder.now.graph.now c.nodes-2.result.now c.args.finder.now.paths.graph c.args.severity c.args.finder.now.function c.args.target c.args.finder.now.paths.target c.in-Before.site c.in-Some.path
          c.as_slice.result.now c.in_ok-path-2.path is c.nodes-2.ensures.nodes c.requires.paths.same c.requires.target c.requires.paths.target
          (subst (λ (o : Option (List ℕ)). IfSome o (IsLeastEdgePath c.args.finder.now.paths.graph.edges c.args.target c.args.finder.now.paths.target)) c.in-Some.is c.in_ok-path.ensures.path) c.as_slice.ensures
          (node_is c.args.finder.now.graph.now c.nodes.result.now c.args.target _ _ c.nodes.ensures.nodes c.requires.target c.in-Before.is) asked c.in_ok-path-2.ensures,
    )
