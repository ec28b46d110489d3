use Rattle.std.proofs.Common.{arith}
use Rattle.shade_verdict.proofs.TargetLaws.{not_asked_for, number_fits, target_more, targets_end}
use Rattle.shade_verdict.proofs.verdict.add_severity.Goals as goal

pub returns-in_default : goal.returns-in_default
returns-in_default c functions f at is a = not_asked_for functions f c.args.finder.now.graph.now c.args.finder.now.function c.args.severity _ at is c.in_default.ensures.none a

pub targets-target-items-requires : goal.targets-target-items-requires
targets-target-items-requires c = number_fits c.args.finder.now.graph.now c.graph.result.now c.in-Some.required _ c.graph.ensures.graph c.in-Some.ensures.some

pub targets-preserved : goal.targets-preserved
targets-preserved c functions f at is a =
    target_more functions f c.args.finder.now.graph.now c.graph.result.now c.args.finder.now.function c.args.severity c.in-Some.required c.targets.target-index c.targets-target-items.result.now _ _ at is c.in-Some.ensures.some
    c.graph.ensures.graph c.targets-target-items.ensures.targets c.targets-test.true c.in_ok-add_target.ensures (c.targets.invariant functions f at is a)

pub returns : goal.returns
returns c functions f at is a =
    targets_end functions f c.args.finder.now.graph.now c.graph.result.now c.args.finder.now.function c.args.severity c.in-Some.required c.targets.target-index c.targets-target-items.result.now _ at is c.in-Some.ensures.some
    c.graph.ensures.graph c.targets-target-items.ensures.targets (omega (arith, c.targets-test.false)) (c.targets.invariant functions f at is a)
