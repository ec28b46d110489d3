-- Tokens have one answer.
use Rattle.std.specs.Prelude.{◌≡◌, ℕ, List}
use Rattle.shade_ast.specs.declared.expr.Expr.{Expr}
use Rattle.shade_ast.specs.Lexemes.{Lexeme}
use Rattle.shade_ast.specs.Shaped.{expr_shape}
use Rattle.shade_parse_expr.specs.declared.goal.Goal.{Goal}
use Rattle.shade_parse_expr.specs.Answers.{IsPhrase, IsUnexpected, IsTooDeep}

-- From a token on there is one phrase of a goal, but for the numbers of names and nodes, or one token that is unexpected, or one
-- that is too deep; and never two of these.
pub record IsAnsweredOnce (goal : Goal) (tokens : List Lexeme) (from : ℕ) : Type 0 where
  pub one_phrase : (old new older newer : List (List ℕ)) (node start : ℕ) (e f : Expr) (end stop next last : ℕ) → IsPhrase goal tokens old new from node e end next → IsPhrase goal tokens older newer from start f stop last → (end ≡ stop) × (expr_shape new e ≡ expr_shape newer f)
  pub one_unexpected : (old new older newer : List (List ℕ)) (at other : ℕ) → IsUnexpected goal tokens old new from at → IsUnexpected goal tokens older newer from other → at ≡ other
  pub one_too_deep : (old new older newer : List (List ℕ)) (at other : ℕ) → IsTooDeep goal tokens old new from at → IsTooDeep goal tokens older newer from other → at ≡ other
  pub phrase_or_unexpected : (old new older newer : List (List ℕ)) (node : ℕ) (e : Expr) (end next at : ℕ) → IsPhrase goal tokens old new from node e end next → IsUnexpected goal tokens older newer from at → ⊥
  pub phrase_or_too_deep : (old new older newer : List (List ℕ)) (node : ℕ) (e : Expr) (end next at : ℕ) → IsPhrase goal tokens old new from node e end next → IsTooDeep goal tokens older newer from at → ⊥
  pub unexpected_or_too_deep : (old new older newer : List (List ℕ)) (at other : ℕ) → IsUnexpected goal tokens old new from at → IsTooDeep goal tokens older newer from other → ⊥
