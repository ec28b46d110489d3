use Rattle.std.proofs.Common.{sym, rules}
use denote.Enum.Bare.{differs_true, differs_false}
use Rattle.shade_ast.specs.contracts.expr.Infix.{the_type}
use Rattle.shade_cursor.specs.Operators.{one_token, two_tokens}
use Rattle.shade_cursor.proofs.Stands.{greater_stands}
use Rattle.shade_cursor.proofs.Tokens.{isnt}
use Rattle.shade_cursor.proofs.operators.comparison_at.Goals as goal

pub returns-then-ne-clause-value : goal.returns-then-ne-clause-value
returns-then-ne-clause-value c = one_token (sym c.in_ok-operator.ensures.value) (λ same b. differs_true the_type _ _ (sym c.if-ne.ensures) same)

pub returns-then-not-is_behind-clause-value : goal.returns-then-not-is_behind-clause-value
returns-then-not-is_behind-clause-value c = one_token (sym c.in_ok-operator.ensures.value) (λ same b. isnt c.if-not-is_behind.ensures.value b)

pub returns-clause-value : goal.returns-clause-value
returns-clause-value c = two_tokens (greater_stands _ _ _ c.in_ok-operator.ensures.value (differs_false the_type (search rules) _ _ (sym c.if-ne.ensures))) (c.if-not-is_behind.ensures.value.0 (search rules))
