-- A part that was read, what is left of its phrase, and the numbers of its nodes and names.
use Rattle.std.proofs.Common.{◌≡◌, sym, subst, ℕ, ◌+◌, ◌≤◌, List, length, map, arith, Result, Ok, Err, MatchResult}
use Rattle.std.specs.Result.{IsErrAnd}
use Rattle.shade_ast.specs.declared.expr.Expr.{Expr}
use Rattle.shade_ast.specs.declared.lexeme.Sign.{Sign}
use Rattle.shade_ast.specs.Lexemes.{Lexeme, Mark}
use Rattle.shade_ast.specs.Names.{Grows}
use Rattle.shade_ast.specs.Shapes.{ExprShape}
use Rattle.shade_ast.specs.Shaped.{expr_shape}
use Rattle.shade_ast.specs.Needs.{most_of, expr_needs}
use Rattle.shade_ast.specs.Nodes.{joined_of, expr_nodes, CountFrom}
use Rattle.shade_ast.specs.Repeats.{Listed}
use Rattle.shade_ast.specs.Expressions.{Expression}
use Rattle.shade_ast.specs.Reads.{Reads, Fails}
use Rattle.shade_ast.proofs.Stages.{Stage}
use Rattle.shade_ast.specs.Chains.{Closed}
use Rattle.shade_ast.proofs.Lists.{Item}
use Rattle.shade_ast.proofs.ShapeLaws.{expr_grows}
use Rattle.shade_cursor.specs.declared.part.Part.{Part}
use Rattle.shade_cursor.specs.declared.part.Fault.{Fault}
use Rattle.shade_cursor.specs.declared.part.Fault.TheVariants as fault
use Rattle.shade_parse_expr.specs.Parts.{FailsAt, Faults}
use Rattle.shade_parse_expr.proofs.Trees.{Tree}

pub record Turn (G : ExprShape → List Lexeme → List Lexeme → Type 0) (n : ℕ) (C : ExprShape → ExprShape → List Lexeme → List Lexeme → Type 0) (tokens : List Lexeme) (size : ℕ) (first names : List (List ℕ)) (prior : List ℕ) (from node low : ℕ) (left : Part) : Type 0 where
  pub stage : Stage G n tokens from left.end (C (expr_shape names left.expr))
  pub tree : Tree names prior node left
  pub grows : Grows first names
  pub past : low ≤ left.end
  pub within : left.end ≤ size
  pub numbered : left.node + from ≤ node + left.end
  pub few : length names + from ≤ length first + left.end

pub record ListTurn (closer : Sign) (tokens : List Lexeme) (size : ℕ) (first names : List (List ℕ)) (from start : ℕ) (items : List Expr) (at node : ℕ) : Type 0 where
  pub stage : Stage (Closed (Listed Expression) (Mark closer)) 0 tokens from at (Item Expression (Mark closer) (map (expr_shape names) items))
  pub known : most_of expr_needs items ≤ length names
  pub nodes : CountFrom start (joined_of expr_nodes items) node
  pub grows : Grows first names
  pub past : from ≤ at
  pub within : at ≤ size
  pub numbered : node + from ≤ start + at
  pub few : length names + from ≤ length first + at

-- what a `?` hands on
pub errs : {T : Type 0} (r : Result T Fault) (f : Fault) (P : T → Type 0) (Q : Fault → Type 0) → IsErrAnd r (λ e. e ≡ f) → Q f → MatchResult r P Q
errs (Ok x) f P Q k q = absurd k
errs (Err e) f P Q k q = subst Q (sym k) q

pub answers : {T : Type 0} (r : Result T Fault) (P P2 : T → Type 0) (Q Q2 : Fault → Type 0) → ((x : T) → P x → P2 x) → ((f : Fault) → Q f → Q2 f) → MatchResult r P Q → MatchResult r P2 Q2
answers (Ok x) P P2 Q Q2 p q m = p x m
answers (Err e) P P2 Q Q2 p q m = q e m

pub fault_on : {R S : Type 0} (G : R → List Lexeme → List Lexeme → Type 0) (B : S → List Lexeme → List Lexeme → Type 0) (n m : ℕ) (tokens : List Lexeme) (first mid new : List (List ℕ)) (from at : ℕ) (f : Fault) →
    length mid + from ≤ length first + at → ((to : ℕ) → Fails B m tokens at to → Fails G n tokens from to) → Faults B m tokens mid new at f → Faults G n tokens first new from f
fault_on G B n m tokens first mid new from at (fault.Unexpected to) le k x = record { fails = k to x.fails; few = (let few : length new + at ≤ length mid + to = x.few in omega arith) }
fault_on G B n m tokens first mid new from at fault.NoMemory le k x = omega arith

pub no_memory : {R : Type 0} (G : R → List Lexeme → List Lexeme → Type 0) (n : ℕ) (tokens : List Lexeme) (first new : List (List ℕ)) (from : ℕ) (f : Fault) → f ≡ fault.NoMemory → length new + from ≤ length first + length tokens → Faults G n tokens first new from f
no_memory G n tokens first new from f same few = subst (λ x. Faults G n tokens first new from x) (sym same) few

pub fails_here : {R : Type 0} (G : R → List Lexeme → List Lexeme → Type 0) (n : ℕ) (tokens : List Lexeme) (first new : List (List ℕ)) (from at : ℕ) → length new + from ≤ length first + at → Fails G n tokens from at → FailsAt G n tokens (length first) (length new) from at
fails_here G n tokens first new from at few x = record { fails = x; few = few }

-- the part before, once names were added
module _ (G : ExprShape → List Lexeme → List Lexeme → Type 0) (n : ℕ) (C : ExprShape → ExprShape → List Lexeme → List Lexeme → Type 0) (tokens : List Lexeme) (from : ℕ) where
  pub stage_grows : (old new : List (List ℕ)) (prior : List ℕ) (node : ℕ) (left : Part) → Tree old prior node left → Grows old new → Stage G n tokens from left.end (C (expr_shape old left.expr)) → Stage G n tokens from left.end (C (expr_shape new left.expr))
  stage_grows old new prior node left t g s = subst (λ x. Stage G n tokens from left.end (C x)) (sym (expr_grows old new left.expr t.known g)) s

pub reads_grows : (G : ExprShape → List Lexeme → List Lexeme → Type 0) (n : ℕ) (tokens : List Lexeme) (from : ℕ) (old new : List (List ℕ)) (prior : List ℕ) (node : ℕ) (left : Part) →
    Tree old prior node left → Grows old new → Reads G n tokens from (expr_shape old left.expr) left.end → Reads G n tokens from (expr_shape new left.expr) left.end
reads_grows G n tokens from old new prior node left t g s = subst (λ x. Reads G n tokens from x left.end) (sym (expr_grows old new left.expr t.known g)) s
