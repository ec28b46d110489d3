use Rattle.std.proofs.Common.{length, ◌-◌, ◌+◌, ◌*◌}
use Rattle.shade_first.specs.Form.{Body}
use Rattle.shade_first.proofs.Stages.{Stage}
use Rattle.shade_first.proofs.Blocks.{Remaining}
use Rattle.shade_first.proofs.parse.+blocks.Given as goal

abbrev pub decreases-block : goal.decreases-block
decreases-block l = 2 * (128 - l.braces) + 1

abbrev pub decreases-item : goal.decreases-item
decreases-item l = 2 * (128 - l.braces)

abbrev pub invariant-block-items : goal.invariant-block-items
invariant-block-items l = Stage (Body l.parameter l.braces) l.tokens l.from l.at (Remaining l.parameter l.braces l.items)

abbrev pub decreases-block-items : goal.decreases-block-items
decreases-block-items l = length l.tokens - l.at
