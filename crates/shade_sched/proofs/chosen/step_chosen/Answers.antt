use Rattle.shade_group.specs.Seen.{machine_of}
use Rattle.shade_sched.proofs.PickLaws.{lane_below, picked_is}
use Rattle.shade_sched.proofs.chosen.step_chosen.Goals as goal

pub step-requires : goal.step-requires
step-requires g c = lane_below (machine_of c.args.group.now) c.pick-pick.result c.able_at-lane.result c.able_at-lane.ensures

pub returns-clause-ok : goal.returns-clause-ok
returns-clause-ok g c =
    picked_is (g.F.Choosing.gives c.args.chooser.now) c.args.step (machine_of c.args.group.now) (machine_of c.step.new.self) c.able_count.result c.pick-pick.result c.able_at-lane.result
    c.requires c.able_count.ensures.able c.pick-pick.ensures.answer c.pick-pick.ensures.below c.able_at-lane.ensures c.in_ok-step.ensures.ok
