-- What is answered of the tokens of a text: the tree that they spell, or why they are refused.
use Rattle.std.specs.Prelude.{ℕ, ◌+◌, ◌<◌, ◌≤◌, ◌⊎◌, List, [], length, slice_range}
use Rattle.shade_lex.specs.declared.token.Token.{Token}
use Rattle.shade_ast.specs.declared.tree.Tree.{Tree}
use Rattle.shade_ast.specs.Lexemes.{Lexeme}
use Rattle.shade_ast.specs.Shapes.{TreeShape}
use Rattle.shade_ast.specs.Shaped.{tree_shape}
use Rattle.shade_ast.specs.Needs.{tree_needs}
use Rattle.shade_ast.specs.Nodes.{tree_nodes, CountFrom}
use Rattle.shade_ast.specs.Declarations.{Module}
use Rattle.shade_ast.specs.Places.{Begins, IsStop, IsOnly}
use Rattle.shade_cursor.specs.declared.fault.SyntaxFault.{SyntaxFault}
use Rattle.shade_cursor.specs.declared.fault.SyntaxFault.TheVariants as fault
use Rattle.shade_cursor.specs.Passes.{IsFirst}
use Rattle.shade_cursor.specs.Depths.{IsDeep}
use Rattle.shade_cursor.specs.TokenPlaces.{IsPlaceOf}
use Rattle.shade_parse.specs.Nesting.{IsNested}
use Rattle.shade_parse.specs.Words.{AreWords}

-- a token passes a depth: that of expressions, the chain, the braces or the arms
abbrev pub PassesDepth : List Lexeme → ℕ → Type 0
PassesDepth tokens at = IsDeep tokens 0 at ⊎ IsNested tokens at

-- The tokens spell a tree, and every tree that they spell is this one but for numbers of nodes and names; no token passes a
-- depth. Its names are the words of the tokens, each once, in the order in which they first appear, and the tree knows them. Its nodes are
-- numbered in postorder from 0, at most one for each token.
pub record IsTree (tokens : List Lexeme) (tree : Tree) : Type 0 where
  pub only : IsOnly Module (tree_shape tree) tokens
  pub shallow : (k : ℕ) → PassesDepth tokens k → ⊥
  pub words : AreWords tokens tree.names
  pub known : tree_needs tree ≤ length tree.names
  pub nodes : ℕ
  pub numbered : CountFrom 0 (tree_nodes tree) nodes
  pub few_nodes : nodes ≤ length tokens

-- The tokens spell no tree. Trees begin with those before one place, or before their end, and with none more; none of them passes
-- a depth.
pub record IsUnexpected (tokens : List Lexeme) (at : ℕ) : Type 0 where
  pub stop : IsStop Module tokens 0 at
  pub none : (shape : TreeShape) → Module shape tokens [] → ⊥
  pub shallow : (k : ℕ) → k < at → PassesDepth tokens k → ⊥

-- Some tree begins with the tokens up to the first that passes a depth.
pub record IsTooDeep (tokens : List Lexeme) (at : ℕ) : Type 0 where
  pub first : IsFirst (PassesDepth tokens) at
  pub begun : Begins Module (slice_range tokens 0 (at + 1))

-- what a fault says of the tokens of a text, which are given as tokens and as what the grammar reads; want of memory says nothing
abbrev pub IsFault : List ℕ → List Token → List Lexeme → SyntaxFault → Type 0
IsFault text tokens read (fault.Unexpected place) = IsPlaceOf text tokens (IsUnexpected read) place
IsFault text tokens read (fault.TooDeep place) = IsPlaceOf text tokens (IsTooDeep read) place
IsFault text tokens read fault.NoMemory = Unit {0}
