use Rattle.std.proofs.Common.{◌<◌, ◌-◌, ◌+◌, ◌∙◌, ◌++◌, ap, length, rules}
use Rattle.shade_lane.specs.Members.{begin_member}
use Rattle.shade_group.specs.Group.{lane_count, members_from}
use Rattle.shade_group.specs.Inside.{members_of}
use Rattle.shade_group.proofs.SizeLaws.{one_more_lane, length_push}
use Rattle.shade_group.proofs.begin.lanes_of.Goals as goal

pub loop-number-preserved : goal.loop-number-preserved
loop-number-preserved c =
    let within : c.loop-number.number < lane_count c.args.size = search rules in
    record {
      members = ap (λ xs. members_of xs ++ members_from c.args.inputs.now c.args.function.now c.args.size (c.loop-number.number + 1) (lane_count c.args.size - (c.loop-number.number + 1))) c.in_ok-push.ensures.items
          ∙ (one_more_lane c.args.inputs.now c.args.function.now c.args.size c.loop-number.lanes.items c.in_ok-of.field-0 c.loop-number.number (lane_count c.args.size) within (c.in_ok-of.ensures ∙ ap (begin_member c.args.inputs.now.entry c.args.function.now) c.builtins_of-builtins.ensures)
          ∙ c.loop-number.invariant.members);
      len = ap length c.in_ok-push.ensures.items ∙ (length_push c.loop-number.lanes.items c.in_ok-of.field-0 ∙ ap (λ n. n + 1) c.loop-number.invariant.len);
    }
