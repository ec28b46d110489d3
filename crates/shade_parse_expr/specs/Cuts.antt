-- What is answered where depths are not counted, and what an answer of some tokens says of more.
use Rattle.std.specs.Prelude.{ℕ, ◌+◌, ◌≤◌, leb, cond, List, [], length, Result, Ok, Err, slice_range}
use Rattle.shade_ast.specs.Lexemes.{Lexeme}
use Rattle.shade_ast.specs.Shapes.{ExprShape}
use Rattle.shade_ast.specs.Shaped.{expr_shape}
use Rattle.shade_ast.specs.Needs.{expr_needs}
use Rattle.shade_ast.specs.Nodes.{expr_nodes, CountFrom}
use Rattle.shade_ast.specs.Places.{IsStop, IsOnly}
use Rattle.shade_parse_expr.specs.declared.goal.Goal.{Goal}
use Rattle.shade_cursor.specs.declared.part.Part.{Part}
use Rattle.shade_cursor.specs.declared.part.Fault.{Fault}
use Rattle.shade_cursor.specs.declared.part.Fault.TheVariants as fault
use Rattle.shade_cursor.specs.declared.fault.Refusal.{Refusal}
use Rattle.shade_cursor.specs.declared.fault.Refusal.TheVariants as refusal
use Rattle.shade_parse_expr.specs.Answers.{production, AreFew}

-- a phrase, where depths are not counted
pub record IsRead (goal : Goal) (tokens : List Lexeme) (old new : List (List ℕ)) (from node : ℕ) (p : Part) : Type 0 where
  pub stop : IsStop (production goal) tokens from p.end
  pub only : IsOnly (production goal) (expr_shape new p.expr) (slice_range tokens from p.end)
  pub known : expr_needs p.expr ≤ length new
  pub nodes : CountFrom node (expr_nodes p.expr) p.node
  pub few_nodes : p.node + from ≤ node + p.end
  pub few : AreFew old new from p.end

-- no phrase is spelled before a place
pub record IsStuck (goal : Goal) (tokens : List Lexeme) (old new : List (List ℕ)) (from at : ℕ) : Type 0 where
  pub stop : IsStop (production goal) tokens from at
  pub none : (shape : ExprShape) → production goal shape (slice_range tokens from at) [] → ⊥
  pub few : AreFew old new from at

abbrev pub IsUnread : Goal → List Lexeme → List (List ℕ) → List (List ℕ) → ℕ → Fault → Type 0
IsUnread goal tokens old new from (fault.Unexpected at) = IsStuck goal tokens old new from at
IsUnread goal tokens old new from fault.NoMemory = AreFew old new from (length tokens)

-- an answer of the tokens up to one that passes a depth
abbrev pub cut_of : Result Part Fault → ℕ → Result Part Refusal
cut_of (Ok p) deep = cond (leb p.end deep) (Ok p) (Err (refusal.TooDeep deep))
cut_of (Err (fault.Unexpected at)) deep = cond (leb at deep) (Err (refusal.Unexpected at)) (Err (refusal.TooDeep deep))
cut_of (Err fault.NoMemory) deep = Err refusal.NoMemory

-- an answer where no token passes a depth
abbrev pub uncut_of : Result Part Fault → Result Part Refusal
uncut_of (Ok p) = Ok p
uncut_of (Err (fault.Unexpected at)) = Err (refusal.Unexpected at)
uncut_of (Err fault.NoMemory) = Err refusal.NoMemory
