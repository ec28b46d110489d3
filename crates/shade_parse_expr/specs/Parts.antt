-- What a function of the parser answers: the phrase that it read, with its nodes and names numbered.
use Rattle.std.specs.Prelude.{◌≡◌, ℕ, ◌+◌, ◌≤◌, Bool, List, ◌++◌, length, map, Result, MatchResult}
use Rattle.shade_ast.specs.Lexemes.{Lexeme}
use Rattle.shade_ast.specs.Shapes.{ExprShape}
use Rattle.shade_ast.specs.Shaped.{expr_shape}
use Rattle.shade_ast.specs.Needs.{most_of, expr_needs}
use Rattle.shade_ast.specs.Nodes.{joined_of, expr_nodes, CountFrom}
use Rattle.shade_ast.specs.Reads.{Reads, Fails}
use Rattle.shade_cursor.specs.declared.part.Part.{Part}
use Rattle.shade_cursor.specs.declared.part.Listing.{Listing}
use Rattle.shade_cursor.specs.declared.part.Fault.{Fault}
use Rattle.shade_cursor.specs.declared.part.Fault.TheVariants as fault
use Rattle.shade_parse_expr.specs.Rests.{is_bare}

-- The nodes of a tree are some that have their numbers already, and those that are counted from one number to another.
pub record Counted (prior nodes : List ℕ) (node next : ℕ) : Type 0 where
  pub more : List ℕ
  pub nodes_are : nodes ≡ prior ++ more
  pub counted : CountFrom node more next

-- a tree whose names are known
pub record ReadsTree (G : ExprShape → List Lexeme → List Lexeme → Type 0) (n : ℕ) (tokens : List Lexeme) (names : List (List ℕ)) (prior : List ℕ) (from node : ℕ) (p : Part) : Type 0 where
  pub reads : Reads G n tokens from (expr_shape names p.expr) p.end
  pub known : expr_needs p.expr ≤ length names
  pub nodes : Counted prior (expr_nodes p.expr) node p.node
  pub bare : p.bare ≡ is_bare (expr_shape names p.expr)

pub record ReadsList (G : List ExprShape × Bool → List Lexeme → List Lexeme → Type 0) (n : ℕ) (tokens : List Lexeme) (names : List (List ℕ)) (from node : ℕ) (l : Listing) : Type 0 where
  pub reads : Reads G n tokens from (map (expr_shape names) l.items, l.trailing) l.end
  pub known : most_of expr_needs l.items ≤ length names
  pub nodes : CountFrom node (joined_of expr_nodes l.items) l.node

-- No phrase goes on past a place; names came at most one for each token before it.
pub record FailsAt {R : Type 0} (G : R → List Lexeme → List Lexeme → Type 0) (n : ℕ) (tokens : List Lexeme) (old new from at : ℕ) : Type 0 where
  pub fails : Fails G n tokens from at
  pub few : new + from ≤ old + at

abbrev pub Faults : {R : Type 0} → (R → List Lexeme → List Lexeme → Type 0) → ℕ → List Lexeme → List (List ℕ) → List (List ℕ) → ℕ → Fault → Type 0
Faults G n tokens old new from (fault.Unexpected at) = FailsAt G n tokens (length old) (length new) from at
Faults G n tokens old new from fault.NoMemory = length new + from ≤ length old + length tokens

-- The phrase that begins at a place, with its tree, or why there is none. `prior` are the nodes of the tree that had their numbers before.
abbrev pub Parses : (ExprShape → List Lexeme → List Lexeme → Type 0) → ℕ → List Lexeme → List (List ℕ) → List (List ℕ) → List ℕ → ℕ → ℕ → Result Part Fault → Type 0
Parses G n tokens old new prior from node result = MatchResult result (λ p. ReadsTree G n tokens new prior from node p) (λ f. Faults G n tokens old new from f)

-- what goes on with a part from a place, or why nothing does
abbrev pub ParsesOn : (ExprShape → ExprShape → List Lexeme → List Lexeme → Type 0) → ℕ → List Lexeme → List (List ℕ) → List (List ℕ) → Part → ℕ → Result Part Fault → Type 0
ParsesOn G n tokens old new left from result = Parses (G (expr_shape old left.expr)) n tokens old new (expr_nodes left.expr) from left.node result

-- a list that begins at a place, or why there is none
abbrev pub ParsesList : (List ExprShape × Bool → List Lexeme → List Lexeme → Type 0) → ℕ → List Lexeme → List (List ℕ) → List (List ℕ) → ℕ → ℕ → Result Listing Fault → Type 0
ParsesList G n tokens old new from node result = MatchResult result (λ l. ReadsList G n tokens new from node l) (λ f. Faults G n tokens old new from f)
