use Rattle.std.proofs.Common.{◌∙◌, ap}
use Rattle.std.specs.List.{list_all}
use Rattle.shade_lane.specs.Members.{is_waiting}
use Rattle.shade_group.proofs.LaneLaws.{all_wait_members}
use Rattle.shade_group.proofs.workgroup.Workgroup.all_wait.Goals as goal

pub returns : goal.returns
returns c = c.all_wait.ensures ∙ (ap (λ lanes. list_all (λ lane. is_waiting lane.state) lanes) c.deref.ensures.value ∙ all_wait_members c.args.self.now.lanes.items)
