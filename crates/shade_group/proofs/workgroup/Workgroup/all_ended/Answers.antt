use Rattle.std.proofs.Common.{◌∙◌, ap}
use Rattle.std.specs.List.{list_all}
use Rattle.shade_lane.specs.Members.{is_ended}
use Rattle.shade_group.proofs.LaneLaws.{all_ended_members}
use Rattle.shade_group.proofs.workgroup.Workgroup.all_ended.Goals as goal

pub returns : goal.returns
returns c = c.all_ended.ensures ∙ (ap (λ lanes. list_all (λ lane. is_ended lane.state) lanes) c.deref.ensures.value ∙ all_ended_members c.args.self.now.lanes.items)
