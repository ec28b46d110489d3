-- What is answered of the tokens of a text, from one of them on: the phrase of a goal that they spell, or why they spell none.
use Rattle.std.specs.Prelude.{ℕ, ◌+◌, ◌<◌, ◌≤◌, List, [], length, slice_range}
use Rattle.shade_lex.specs.declared.token.Token.{Token}
use Rattle.shade_ast.specs.declared.expr.Expr.{Expr}
use Rattle.shade_ast.specs.Lexemes.{Lexeme}
use Rattle.shade_ast.specs.Shapes.{ExprShape}
use Rattle.shade_ast.specs.Shaped.{expr_shape}
use Rattle.shade_ast.specs.Needs.{expr_needs}
use Rattle.shade_ast.specs.Nodes.{expr_nodes, CountFrom}
use Rattle.shade_ast.specs.Expressions.{Expression, TypeName, LeftSide, Call}
use Rattle.shade_ast.specs.Places.{Begins, IsStop, IsOnly}
use Rattle.shade_parse_expr.specs.declared.goal.Goal.{Goal}
use Rattle.shade_parse_expr.specs.declared.goal.Goal.TheVariants as goals
use Rattle.shade_cursor.specs.declared.fault.Refusal.{Refusal}
use Rattle.shade_cursor.specs.declared.fault.Refusal.TheVariants as refusal
use Rattle.shade_cursor.specs.declared.fault.SyntaxFault.{SyntaxFault}
use Rattle.shade_cursor.specs.declared.fault.SyntaxFault.TheVariants as fault
use Rattle.shade_cursor.specs.Depths.{IsDeep}
use Rattle.shade_cursor.specs.TokenPlaces.{IsPlaceOf}

-- the production that a goal names
abbrev pub production : Goal → ExprShape → List Lexeme → List Lexeme → Type 0
production goals.Whole = Expression
production goals.TypeName = TypeName
production goals.LeftSide = LeftSide
production goals.CallOnly = Call

-- no token before a place passes a depth, counted from a token on
abbrev pub IsShallow : List Lexeme → ℕ → ℕ → Type 0
IsShallow tokens from to = (k : ℕ) → from ≤ k → k < to → IsDeep tokens from k → ⊥

-- Names came at most one for each token between two places.
abbrev pub AreFew : List (List ℕ) → List (List ℕ) → ℕ → ℕ → Type 0
AreFew old new from to = length new + from ≤ length old + to

-- The tokens before the first that goes on with no phrase spell a phrase, and this one alone; its tree knows its names, and its
-- nodes are numbered in postorder, at most one for each token. No token of it passes a depth.
pub record IsPhrase (goal : Goal) (tokens : List Lexeme) (old new : List (List ℕ)) (from node : ℕ) (expr : Expr) (end next : ℕ) : Type 0 where
  pub stop : IsStop (production goal) tokens from end
  pub only : IsOnly (production goal) (expr_shape new expr) (slice_range tokens from end)
  pub shallow : IsShallow tokens from end
  pub known : expr_needs expr ≤ length new
  pub nodes : CountFrom node (expr_nodes expr) next
  pub few_nodes : next + from ≤ node + end
  pub few : AreFew old new from end

-- The tokens before the first that goes on with no phrase, or before their end, spell no phrase, and none of them passes a depth.
pub record IsUnexpected (goal : Goal) (tokens : List Lexeme) (old new : List (List ℕ)) (from at : ℕ) : Type 0 where
  pub stop : IsStop (production goal) tokens from at
  pub none : (shape : ExprShape) → production goal shape (slice_range tokens from at) [] → ⊥
  pub shallow : IsShallow tokens from at
  pub few : AreFew old new from at

-- Some phrase begins with the tokens up to the first that passes a depth.
pub record IsTooDeep (goal : Goal) (tokens : List Lexeme) (old new : List (List ℕ)) (from at : ℕ) : Type 0 where
  pub low : from ≤ at
  pub high : at < length tokens
  pub deep : IsDeep tokens from at
  pub first : IsShallow tokens from at
  pub begun : Begins (production goal) (slice_range tokens from (at + 1))
  pub few : AreFew old new from (at + 1)

-- why tokens spell no phrase; want of memory says nothing of them
abbrev pub IsRefused : Goal → List Lexeme → List (List ℕ) → List (List ℕ) → ℕ → Refusal → Type 0
IsRefused goal tokens old new from (refusal.Unexpected at) = IsUnexpected goal tokens old new from at
IsRefused goal tokens old new from (refusal.TooDeep at) = IsTooDeep goal tokens old new from at
IsRefused goal tokens old new from refusal.NoMemory = AreFew old new from (length tokens)

-- what a fault says of the tokens of a text, which are given as tokens and as what the grammar reads
abbrev pub IsFault : Goal → List ℕ → List Token → List Lexeme → List (List ℕ) → List (List ℕ) → ℕ → SyntaxFault → Type 0
IsFault goal text tokens read old new from (fault.Unexpected place) = IsPlaceOf text tokens (IsUnexpected goal read old new from) place
IsFault goal text tokens read old new from (fault.TooDeep place) = IsPlaceOf text tokens (IsTooDeep goal read old new from) place
IsFault goal text tokens read old new from fault.NoMemory = AreFew old new from (length tokens)
