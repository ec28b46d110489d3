use Rattle.std.proofs.Common.{◌∙◌}
use Rattle.shade_flow.proofs.ChunkLaws.{is_before}
use Rattle.shade_flow.proofs.kept.Reaching.before.Goals as goal

pub returns : goal.returns
returns c = is_before c.args.statement c.args.variable _ _ _ c.number_of-point.ensures (c.from_vec.ensures ∙ (rw c.deref.ensures.value at c.in_ok-found.ensures))
