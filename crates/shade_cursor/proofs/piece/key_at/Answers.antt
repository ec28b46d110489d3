use Rattle.std.proofs.Common.{sym, rules}
use denote.Enum.Bare.{same_true, same_false}
use Rattle.shade_ast.specs.contracts.lexeme.Keyword.{the_type}
use Rattle.shade_cursor.proofs.Tokens.{key_stands, key_other}
use Rattle.shade_cursor.proofs.piece.key_at.Goals as goal

pub returns-then-eq-clause-value : goal.returns-then-eq-clause-value
returns-then-eq-clause-value c = key_stands _ _ _ _ c.in_ok-found.ensures.value (same_true the_type (search rules) _ _ (sym c.if-eq.ensures))

pub returns-clause-value : goal.returns-clause-value
returns-clause-value c p is = key_other _ _ _ _ _ c.in_ok-found.ensures.value (λ same. same_false the_type _ _ (sym c.if-eq.ensures) same) is
