use Rattle.std.proofs.Common.{◌≤◌, arith, inl}
use Rattle.std.proofs.Math.Nat.{le-max_left, le-max_right}
use Rattle.shade_lex.proofs.Longest.{word_count-longest, number_count-longest, lexeme-longest, longest-is}
use Rattle.shade_lex.proofs.PieceLaws.{problem-wrong}
use Rattle.shade_lex.proofs.piece.read_token.Goals as goal

pub returns-then-count-eq0-clause-problem : goal.returns-then-count-eq0-clause-problem
returns-then-count-eq0-clause-problem c =
    let longest = rw (← c.word_length-word.ensures, ← c.number_length-number.ensures, ← c.mark_length.ensures, ← c.max.ensures, ← c.max-count.ensures) at (lexeme-longest c.args.text.now) in
    inl (record { not_for_blank = c.requires; longest = rw c.if-count-eq0.true at longest })

pub split_at-requires : goal.split_at-requires
split_at-requires c =
    let longest = rw (← c.word_length-word.ensures, ← c.number_length-number.ensures, ← c.mark_length.ensures, ← c.max.ensures, ← c.max-count.ensures) at (lexeme-longest c.args.text.now) in
    longest.within

pub lexeme_kind-requires-clause-word : goal.lexeme_kind-requires-clause-word
lexeme_kind-requires-clause-word c =
    let longest = rw (← c.word_length-word.ensures, ← c.number_length-number.ensures, ← c.mark_length.ensures, ← c.max.ensures, ← c.max-count.ensures) at (lexeme-longest c.args.text.now) in
    let most : c.word_length-word.result ≤ c.max-count.result = rw c.max-count.ensures (le-max_left _ _) in
    rw c.split_at.ensures.front (longest-is _ _ _ _ (rw (← c.word_length-word.ensures) at (word_count-longest c.args.text.now)) most longest.within (omega arith))

pub lexeme_kind-requires-clause-number : goal.lexeme_kind-requires-clause-number
lexeme_kind-requires-clause-number c =
    let longest = rw (← c.word_length-word.ensures, ← c.number_length-number.ensures, ← c.mark_length.ensures, ← c.max.ensures, ← c.max-count.ensures) at (lexeme-longest c.args.text.now) in
    let more : c.number_length-number.result ≤ c.max.result = rw c.max.ensures (le-max_left _ _) in
    let most : c.max.result ≤ c.max-count.result = rw c.max-count.ensures (le-max_right _ _) in
    rw c.split_at.ensures.front (longest-is _ _ _ _ (rw (← c.number_length-number.ensures) at (number_count-longest c.args.text.now)) (omega (arith, more, most)) longest.within (omega arith))

pub returns-in-Ok-clause-token : goal.returns-in-Ok-clause-token
returns-in-Ok-clause-token c =
    let longest = rw (← c.word_length-word.ensures, ← c.number_length-number.ensures, ← c.mark_length.ensures, ← c.max.ensures, ← c.max-count.ensures) at (lexeme-longest c.args.text.now) in
    let said = rw (c.split_at.ensures.front, c.split_at.ensures.back) at c.in-Ok.ensures.kind in
    record { lexeme = record { not_for_blank = c.requires; longest = longest }; some = omega arith; sound = said.0; kind_is = said.1 }

pub returns-in-Err-clause-problem : goal.returns-in-Err-clause-problem
returns-in-Err-clause-problem c =
    let longest = rw (← c.word_length-word.ensures, ← c.number_length-number.ensures, ← c.mark_length.ensures, ← c.max.ensures, ← c.max-count.ensures) at (lexeme-longest c.args.text.now) in
    problem-wrong _ _ (record { count = c.max-count.result; lexeme = record { not_for_blank = c.requires; longest = longest }; some = omega arith; wrong = rw (c.split_at.ensures.front, c.split_at.ensures.back) at c.in-Err.ensures.problem })
