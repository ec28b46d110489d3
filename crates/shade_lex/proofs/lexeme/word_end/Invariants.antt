use Rattle.std.proofs.Common.{◌≡◌, ◌+◌, drop}
use Rattle.unicode_ident.specs.Ident.{is_xid_continue}
use Rattle.shade_lex.specs.Counts.{count}
use Rattle.shade_lex.proofs.lexeme.word_end.Given as goal

abbrev pub invariant-loop-at : goal.invariant-loop-at
invariant-loop-at l = count is_xid_continue (drop l.at l.text) + l.at ≡ count is_xid_continue (drop l.from l.text) + l.from
