use Rattle.shade_group.specs.Inside.{inside}
use Rattle.shade_group.proofs.Able.{able_after_step}
use Rattle.shade_group.proofs.group.Group.step.Goals as goal

pub invariant_of-self : goal.invariant_of-self
invariant_of-self c = record { able = able_after_step c.step.result (inside c.args.self.now.workgroup) (inside c.step.new.self) c.args.lane c.args.self.now.able c.step.ensures.ok c.step.ensures.err }
