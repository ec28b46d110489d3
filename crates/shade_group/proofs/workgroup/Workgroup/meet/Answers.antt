use Rattle.std.proofs.Common.{◌∙◌, sym, true, false}
use Rattle.shade_group.proofs.LaneLaws.{settled_waiting, settled_ended}
use Rattle.shade_group.specs.Inside.{inside, state_at}
use Rattle.shade_group.proofs.workgroup.Workgroup.meet.Goals as goal

pub returns-then-all_wait-clause-machine : goal.returns-then-all_wait-clause-machine
returns-then-all_wait-clause-machine c =
    c.release.ensures.machine ∙ sym (settled_waiting c.args.number (state_at c.args.self.now.lanes.items c.args.number) (inside c.args.self.now) true (sym c.is_waiting_at.ensures ∙ c.if-is_waiting_at.true) (sym c.requires.alike) (sym c.if-all_wait.true ∙ c.all_wait.ensures)).0

pub returns-then-all_wait-clause-event : goal.returns-then-all_wait-clause-event
returns-then-all_wait-clause-event c =
    c.release.ensures.event ∙ sym (settled_waiting c.args.number (state_at c.args.self.now.lanes.items c.args.number) (inside c.args.self.now) true (sym c.is_waiting_at.ensures ∙ c.if-is_waiting_at.true) (sym c.requires.alike) (sym c.if-all_wait.true ∙ c.all_wait.ensures)).1

pub returns-then-is_waiting_at-clause-machine : goal.returns-then-is_waiting_at-clause-machine
returns-then-is_waiting_at-clause-machine c =
    sym (settled_waiting c.args.number (state_at c.args.self.now.lanes.items c.args.number) (inside c.args.self.now) false (sym c.is_waiting_at.ensures ∙ c.if-is_waiting_at.true) (sym c.requires.alike) (sym c.if-all_wait.false ∙ c.all_wait.ensures)).0

pub returns-then-is_waiting_at-clause-event : goal.returns-then-is_waiting_at-clause-event
returns-then-is_waiting_at-clause-event c =
    sym (settled_waiting c.args.number (state_at c.args.self.now.lanes.items c.args.number) (inside c.args.self.now) false (sym c.is_waiting_at.ensures ∙ c.if-is_waiting_at.true) (sym c.requires.alike) (sym c.if-all_wait.false ∙ c.all_wait.ensures)).1

pub returns-then-all_ended-clause-machine : goal.returns-then-all_ended-clause-machine
returns-then-all_ended-clause-machine c =
    sym (settled_ended c.args.number (state_at c.args.self.now.lanes.items c.args.number) (inside c.args.self.now) true c.requires.stopped (sym c.is_waiting_at.ensures ∙ c.if-is_waiting_at.false) (sym c.requires.alike) (sym c.if-all_ended.true ∙ c.all_ended.ensures)).0

pub returns-then-all_ended-clause-event : goal.returns-then-all_ended-clause-event
returns-then-all_ended-clause-event c =
    sym (settled_ended c.args.number (state_at c.args.self.now.lanes.items c.args.number) (inside c.args.self.now) true c.requires.stopped (sym c.is_waiting_at.ensures ∙ c.if-is_waiting_at.false) (sym c.requires.alike) (sym c.if-all_ended.true ∙ c.all_ended.ensures)).1

pub returns-clause-machine : goal.returns-clause-machine
returns-clause-machine c =
    sym (settled_ended c.args.number (state_at c.args.self.now.lanes.items c.args.number) (inside c.args.self.now) false c.requires.stopped (sym c.is_waiting_at.ensures ∙ c.if-is_waiting_at.false) (sym c.requires.alike) (sym c.if-all_ended.false ∙ c.all_ended.ensures)).0

pub returns-clause-event : goal.returns-clause-event
returns-clause-event c =
    sym (settled_ended c.args.number (state_at c.args.self.now.lanes.items c.args.number) (inside c.args.self.now) false c.requires.stopped (sym c.is_waiting_at.ensures ∙ c.if-is_waiting_at.false) (sym c.requires.alike) (sym c.if-all_ended.false ∙ c.all_ended.ensures)).1
