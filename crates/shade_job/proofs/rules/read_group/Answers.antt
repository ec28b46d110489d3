use Rattle.std.proofs.Common.{ap, ◌∙◌, length}
use Rattle.serde_json.specs.View.{view}
use Rattle.shade_job.proofs.ListLaws.{numbers_length}
use Rattle.shade_job.proofs.rules.read_group.Goals as goal

pub three-requires : goal.three-requires
three-requires c = ap length c.as_slice.ensures.value ∙ (numbers_length c.parts_of-parts.result (view c.in_ok-value.value.now) c.in_ok-group.group.items c.in_ok-group.ensures ∙ c.parts_of-parts.ensures.three)
