use Rattle.std.proofs.Common.{◌≡◌, ◌+◌, ◌-◌, ◌<◌, length, arith}
use Rattle.std.proofs.lemmas.Option.{slice_get_within}
use Rattle.shade_reach.proofs.LeastLaws.{way-begin, way-goes_on, way-step, way-end, marked_at}
use Rattle.shade_reach.proofs.paths.PathsTo.least_from.Goals as goal

pub way-init : goal.way-init
way-init c =
    let within : c.args.from < length c.distances-distances.result.now = omega (arith, c.distances-distances.ensures.long, c.requires) in
    rw (c.in_ok-push.ensures.items, c.in_ok-path.ensures.items) (way-begin _ _ _ _ _ (marked_at _ _ _ _ within c.in-Some.is))

pub targets-requires : goal.targets-requires
targets-requires c =
    let within : c.way.at < length c.distances-distances.result.now = slice_get_within _ _ _ c.way.invariant.here in
    rw c.graph.ensures (omega (arith, c.distances-distances.ensures.long, within))

pub first_at-at-requires-clause-some : goal.first_at-at-requires-clause-some
first_at-at-requires-clause-some c =
    let one_more : c.way.left ≡ (c.way.left - 1) + 1 = omega arith in
    way-goes_on _ _ _ _ _ _ _ _ _ c.distances-distances.ensures (rw one_more at c.way.invariant) (rw c.graph.ensures at c.targets.ensures.targets) (rw c.graph.ensures at c.targets.ensures.nodes)

pub way-preserved : goal.way-preserved
way-preserved c =
    let one_more : c.way.left ≡ (c.way.left - 1) + 1 = omega arith in
    rw c.in_ok-push-2.ensures.items (way-step _ _ _ _ _ _ _ _ _ _ c.distances-distances.ensures (rw one_more at c.way.invariant) (rw c.graph.ensures at c.targets.ensures.targets) (rw c.graph.ensures at c.targets.ensures.nodes) c.first_at-at.ensures)

pub returns-clause-path : goal.returns-clause-path
returns-clause-path c =
    let none : c.way.left ≡ 0 = omega arith in
    rw c.from_vec.ensures (way-end _ _ _ _ _ _ _ _ c.distances-distances.ensures c.way.invariant none)
