use Rattle.shade_cursor.proofs.PieceLaws.{piece_more}
use Rattle.shade_cursor.proofs.pieces.pieces_in.Goals as goal

pub loop-token-preserved : goal.loop-token-preserved
loop-token-preserved c = λ pairs ends. piece_more _ _ _ _ _ _ _ _ c.loop-token-test.true c.in_ok-push.ensures.items (c.piece_of.ensures pairs ends) (c.loop-token.invariant pairs ends)
