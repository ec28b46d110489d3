use Rattle.std.proofs.Common.{◌≡◌, ◌∙◌, ap, true, false, refl, rules, arith}
use Rattle.std.proofs.lemmas.Grind.{common_steps}
use Rattle.std.specs.Prelude.{is_some, slice_set}
use Rattle.shade_lane.specs.Members.{is_able}
use Rattle.shade_group.specs.Group.{settled, settled_event}
use Rattle.shade_group.specs.Inside.{inside, state_at}
use Rattle.shade_group.proofs.LaneLaws.{on_err, same_machine, same_members, step_able, event_able, counted_machine, calm_is}
use Rattle.shade_group.proofs.workgroup.Workgroup.step.Goals as goal

pub returns-in_err-step-clause-err : goal.returns-in_err-step-clause-err
returns-in_err-step-clause-err c =
    let kept : c.reserve.new.self.items ≡ c.args.self.now.released.items = search rules in
    on_err c.from_residual-in_err-step.result
    (same_machine c.args.self.now.lanes.items (slice_set c.args.self.now.lanes.items c.args.lane c.step.new.self) _ _ _ _ _ _ _ _ (same_members c.args.self.now.lanes.items c.args.lane c.index_mut.result.now c.step.new.self c.index_mut.ensures.value c.in_err-step.ensures.err) c.in_err-step.ensures.memory kept)

pub returns-clause-ok : goal.returns-clause-ok
returns-clause-ok c =
    let kept : c.reserve.new.self.items ≡ c.args.self.now.released.items = search rules in
    let able : is_able c.index_mut.result.now.state ≡ true = grind (arith, common_steps) in
    let some : is_some c.args.self.now.diverged ≡ false = search rules in
    step_able (inside c.args.self.now) c.args.self.now.lanes.items c.args.lane c.index_mut.result.now c.step.new.self _ refl c.requires c.index_mut.ensures.value (calm_is _ some) able c.in_ok-step.ensures.ok
    (c.settle.ensures.machine ∙ ap (settled c.args.lane (state_at (slice_set c.args.self.now.lanes.items c.args.lane c.step.new.self) c.args.lane))
    (counted_machine c.args.self.now.lanes.items (slice_set c.args.self.now.lanes.items c.args.lane c.step.new.self) _ _ _ _ _ _ _ _ _ c.in_ok-step.ensures.memory kept c.one_more-self.ensures))

pub returns-clause-event : goal.returns-clause-event
returns-clause-event c =
    let kept : c.reserve.new.self.items ≡ c.args.self.now.released.items = search rules in
    let able : is_able c.index_mut.result.now.state ≡ true = grind (arith, common_steps) in
    let some : is_some c.args.self.now.diverged ≡ false = search rules in
    event_able (inside c.args.self.now) c.args.self.now.lanes.items c.args.lane c.index_mut.result.now c.step.new.self _ refl c.requires c.index_mut.ensures.value (calm_is _ some) able c.in_ok-step.ensures.ok
    (c.settle.ensures.event ∙ ap (settled_event c.args.lane (state_at (slice_set c.args.self.now.lanes.items c.args.lane c.step.new.self) c.args.lane))
    (counted_machine c.args.self.now.lanes.items (slice_set c.args.self.now.lanes.items c.args.lane c.step.new.self) _ _ _ _ _ _ _ _ _ c.in_ok-step.ensures.memory kept c.one_more-self.ensures))
