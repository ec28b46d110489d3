use Rattle.std.proofs.Common.{arith}
use Rattle.std.proofs.lemmas.Grind.{common_steps}
use Rattle.std.proofs.lemmas.List.Folds.{list_any_more}
use Rattle.shade_cursor.proofs.pieces.ends_of.Goals as goal

pub loop-pair-preserved : goal.loop-pair-preserved
loop-pair-preserved c = λ q. (grind (arith, common_steps, list_any_more, c.loop-pair.invariant q), grind (arith, common_steps, list_any_more, c.loop-pair.invariant q))
