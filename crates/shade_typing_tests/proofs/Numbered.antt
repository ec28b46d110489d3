-- A tree that a text's tokens spell has fewer nodes than 2^32.
use Rattle.std.proofs.Common.{ℕ, ◌≤◌, List, length, arith}
use Rattle.std.proofs.lemmas.List.{length-map}
use Rattle.std.specs.Str.{IsUtf8}
use Rattle.shade_lex.specs.declared.token.Token.{Token}
use Rattle.shade_lex.specs.Tokens.{AreTokens}
use Rattle.shade_lex.proofs.WithinLaws.{tokens_few}
use Rattle.shade_ast.specs.declared.tree.Tree.{Tree}
use Rattle.shade_ast.specs.Lexemes.{lexeme_of, lexemes}
use Rattle.shade_parse.specs.Answers.{IsTree}
use Rattle.shade_scope.specs.Ranges.{IsNumbered}

pub numbered : (text : List ℕ) (pairs : List (ℕ × ℕ)) (tokens : List Token) (tree : Tree) → IsTree (lexemes text pairs tokens) tree → IsUtf8 text → AreTokens text tokens → length text ≤ 1048576 → IsNumbered tree
numbered text pairs tokens tree p u a small = record {
  count = p.nodes;
  numbered = p.numbered;
  few = omega (arith, p.few_nodes, length-map tokens (lexeme_of text pairs), tokens_few text tokens u a, small);
}
