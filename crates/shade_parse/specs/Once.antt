-- The tokens of a text have at most one answer.
use Rattle.std.specs.Prelude.{◌≡◌, ℕ, List}
use Rattle.shade_ast.specs.declared.tree.Tree.{Tree}
use Rattle.shade_ast.specs.Lexemes.{Lexeme}
use Rattle.shade_ast.specs.Shaped.{tree_shape}
use Rattle.shade_parse.specs.Answers.{IsTree, IsUnexpected, IsTooDeep}

-- Tokens spell at most one tree, but for its numbers, with one list of names; at most one token is unexpected, and at most one is too
-- deep; and never two of these.
pub record IsParsedOnce (tokens : List Lexeme) : Type 0 where
  pub one_tree : (tree other : Tree) → IsTree tokens tree → IsTree tokens other → tree_shape tree ≡ tree_shape other
  pub one_list : (tree other : Tree) → IsTree tokens tree → IsTree tokens other → tree.names ≡ other.names
  pub one_unexpected : (at other : ℕ) → IsUnexpected tokens at → IsUnexpected tokens other → at ≡ other
  pub one_too_deep : (at other : ℕ) → IsTooDeep tokens at → IsTooDeep tokens other → at ≡ other
  pub tree_or_unexpected : (tree : Tree) (at : ℕ) → IsTree tokens tree → IsUnexpected tokens at → ⊥
  pub tree_or_too_deep : (tree : Tree) (at : ℕ) → IsTree tokens tree → IsTooDeep tokens at → ⊥
  pub unexpected_or_too_deep : (at other : ℕ) → IsUnexpected tokens at → IsTooDeep tokens other → ⊥
