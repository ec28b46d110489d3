-- What is answered where depths are not counted, and what an answer of some tokens says of more.
use Rattle.std.specs.Prelude.{ℕ, ◌≤◌, leb, cond, List, length, Option, None, Some, Result, Ok, Err}
use Rattle.shade_ast.specs.declared.tree.Tree.{Tree}
use Rattle.shade_ast.specs.Lexemes.{Lexeme}
use Rattle.shade_ast.specs.Shaped.{tree_shape}
use Rattle.shade_ast.specs.Needs.{tree_needs}
use Rattle.shade_ast.specs.Nodes.{tree_nodes, CountFrom}
use Rattle.shade_ast.specs.Declarations.{Module}
use Rattle.shade_ast.specs.Places.{IsOnly}
use Rattle.shade_cursor.specs.declared.part.Fault.{Fault}
use Rattle.shade_cursor.specs.declared.part.Fault.TheVariants as fault
use Rattle.shade_cursor.specs.declared.fault.Refusal.{Refusal}
use Rattle.shade_cursor.specs.declared.fault.Refusal.TheVariants as refusal
use Rattle.shade_parse.specs.Answers.{IsUnexpected, IsTooDeep}
use Rattle.shade_parse.specs.Words.{AreWords}

-- a tree of all tokens
pub record IsWhole (tokens : List Lexeme) (tree : Tree) : Type 0 where
  pub only : IsOnly Module (tree_shape tree) tokens
  pub words : AreWords tokens tree.names
  pub known : tree_needs tree ≤ length tree.names
  pub nodes : ℕ
  pub numbered : CountFrom 0 (tree_nodes tree) nodes
  pub few_nodes : nodes ≤ length tokens

-- why tokens are refused
abbrev pub IsRefused : List Lexeme → Refusal → Type 0
IsRefused tokens (refusal.Unexpected at) = IsUnexpected tokens at
IsRefused tokens (refusal.TooDeep at) = IsTooDeep tokens at
IsRefused tokens refusal.NoMemory = Unit {0}

-- an answer of the tokens up to one that passes a depth
abbrev pub cut_of : Result Tree Fault → ℕ → Refusal
cut_of (Ok tree) deep = refusal.TooDeep deep
cut_of (Err (fault.Unexpected at)) deep = cond (leb at deep) (refusal.Unexpected at) (refusal.TooDeep deep)
cut_of (Err fault.NoMemory) deep = refusal.NoMemory

-- an answer where no token passes a depth
abbrev pub uncut_of : Result Tree Fault → Result Tree Refusal
uncut_of (Ok tree) = Ok tree
uncut_of (Err (fault.Unexpected at)) = Err (refusal.Unexpected at)
uncut_of (Err fault.NoMemory) = Err refusal.NoMemory

-- the lesser of two places
abbrev pub earlier_of : Option ℕ → Option ℕ → Option ℕ
earlier_of None other = other
earlier_of (Some one) None = Some one
earlier_of (Some one) (Some other) = cond (leb one other) (Some one) (Some other)
