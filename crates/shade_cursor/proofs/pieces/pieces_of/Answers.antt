use Rattle.std.proofs.Common.{◌≤◌, length}
use Rattle.std.proofs.lemmas.Result.{IfOk-weaker}
use Rattle.shade_lex.proofs.WithinLaws.{tokens_within}
use Rattle.shade_cursor.proofs.PieceLaws.{pieces_few}
use Rattle.shade_cursor.proofs.pieces.pieces_of.Goals as goal

pub pieces_in-requires : goal.pieces_in-requires
pieces_in-requires c = rw (c.text.ensures.text, c.as_slice-2.ensures.items) (tokens_within _ _ (rw c.text.ensures.text at c.text.utf8) c.text.ensures.tokens)

pub returns-clause-few : goal.returns-clause-few
returns-clause-few c =
    IfOk-weaker c.pieces_in.result _ (λ v. length v.items ≤ 1048576)
    (λ v are. pieces_few c.args.tokens.now.text c.as_slice.result.now c.args.tokens.now.tokens v.items (rw (c.text.ensures.text, c.as_slice-2.ensures.items) at (are c.as_slice.result.now c.in_ok-ends.ensures)) (rw c.text.ensures.text at c.text.utf8) c.text.ensures.tokens c.text.ensures.small)
    c.pieces_in.ensures
