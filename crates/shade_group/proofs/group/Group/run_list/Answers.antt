use Rattle.std.proofs.Common.{◌<◌, ◌∙◌, length, arith}
use Rattle.shade_group.proofs.CountLaws.{lanes_kept}
use Rattle.shade_group.proofs.LaneLaws.{run_left, run_done}
use Rattle.shade_group.proofs.group.Group.run_list.Goals as goal

pub loop-number-preserved : goal.loop-number-preserved
loop-number-preserved c =
    let within : c.loop-number.number-index < length c.args.numbers.now = omega arith in
    record {
      left = run_left _ _ _ _ within c.in_ok-step.ensures.ok ∙ c.loop-number.invariant.left;
      done = run_done _ _ _ _ _ within c.in_ok-step.ensures.ok c.loop-number.invariant.done;
      lanes = lanes_kept _ _ _ c.in_ok-step.ensures.ok ∙ c.loop-number.invariant.lanes;
    }
