use Rattle.shade_group.specs.Inside.{inside}
use Rattle.shade_group.proofs.Able.{able_at_start}
use Rattle.shade_group.proofs.group.Group.begin.Goals as goal

pub invariant_of-result : goal.invariant_of-result
invariant_of-result c = record { able = able_at_start (inside c.in_ok-workgroup.workgroup) c.args.module.now c.args.inputs.now c.in_ok-workgroup.ensures }
