-- The tokens of a text have one answer.
use Rattle.std.proofs.Common.{ℕ, ◌<◌, ◌≤◌, ◌⊎◌, inl, inr, List, length}
use Rattle.std.proofs.lemmas.Option.{slice_get_within}
use Rattle.shade_ast.specs.Lexemes.{Lexeme}
use Rattle.shade_ast.specs.Shaped.{tree_shape}
use Rattle.shade_ast.specs.Declarations.{Module}
use Rattle.shade_parse_expr.proofs.OnceLaws.{trichotomy, less_or, one_stop, not_past}
use Rattle.shade_parse.specs.Answers.{PassesDepth, IsUnexpected, IsTooDeep}
use Rattle.shade_parse.specs.Once.{IsParsedOnce}
use Rattle.shade_parse.proofs.FirstLaws.{words_once}

-- what passes a depth is a token
is_token : (tokens : List Lexeme) (at : ℕ) → PassesDepth tokens at → at < length tokens
is_token tokens at (inl deep) = slice_get_within tokens at deep.token deep.stands
is_token tokens at (inr nested) = slice_get_within tokens at nested.token nested.stands

-- a token that is too deep stands before the first that no tree goes on with
deep_before : (tokens : List Lexeme) (at other : ℕ) → IsUnexpected tokens at → IsTooDeep tokens other → ⊥
deep_before tokens at other u d = by (less_or other at)
  where
    by : (other < at) ⊎ (at ≤ other) → ⊥
    by (inl lt) = u.shallow other lt d.first.passes
    by (inr le) = not_past Module tokens 0 at other u.stop (is_token tokens other d.first.passes) d.begun le

pub parsed_once : (tokens : List Lexeme) → IsParsedOnce tokens
parsed_once tokens = record {
  one_tree = λ tree other x y. y.only.same (tree_shape tree) x.only.spells;
  one_list = λ tree other x y. words_once tokens tree.names other.names x.words y.words;
  one_unexpected = λ at other x y. one_stop Module tokens 0 at other x.stop y.stop;
  one_too_deep = λ at other x y. trichotomy at other (λ lt. y.first.first at lt x.first.passes) (λ lt. x.first.first other lt y.first.passes);
  tree_or_unexpected = λ tree at x y. y.none (tree_shape tree) x.only.spells;
  tree_or_too_deep = λ tree at x y. x.shallow at y.first.passes;
  unexpected_or_too_deep = λ at other x y. deep_before tokens at other x y;
}
