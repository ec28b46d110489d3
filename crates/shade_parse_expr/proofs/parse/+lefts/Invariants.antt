use Rattle.std.proofs.Common.{length, ◌+◌, ◌-◌, ◌*◌}
use Rattle.shade_parse_expr.proofs.parse.+lefts.Given as goal

abbrev pub decreases-left_first : goal.decreases-left_first
decreases-left_first l = 4 * (length l.pieces.now - l.from)

abbrev pub decreases-left_singular : goal.decreases-left_singular
decreases-left_singular l = 4 * (length l.pieces.now - l.from) + 1

abbrev pub decreases-left_side : goal.decreases-left_side
decreases-left_side l = 4 * (length l.pieces.now - l.from) + 2
