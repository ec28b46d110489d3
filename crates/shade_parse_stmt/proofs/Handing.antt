-- Faults that are handed on, and what other functions of the parser answer.
use Rattle.std.proofs.Common.{◌≡◌, sym, subst, ℕ, ◌+◌, ◌≤◌, List, [], length, arith, Result, Ok, Err, MatchResult}
use Rattle.std.specs.Result.{IsErrAnd}
use Rattle.std.specs.Prelude.{IfOk}
use Rattle.shade_ast.specs.declared.expr.Expr.{Expr}
use Rattle.shade_ast.specs.Lexemes.{Lexeme}
use Rattle.shade_ast.specs.Shapes.{ExprShape}
use Rattle.shade_ast.specs.Nodes.{expr_nodes}
use Rattle.shade_cursor.specs.declared.part.Part.{Part}
use Rattle.shade_cursor.specs.declared.part.Fault.{Fault}
use Rattle.shade_cursor.specs.declared.part.Fault.TheVariants as fault
use Rattle.shade_parse_expr.specs.Parts.{ReadsTree, Faults}
use Rattle.shade_parse_expr.proofs.Trees.{counted_all}
use Rattle.shade_parse_simple.specs.declared.read.Read.{Read}
use Rattle.shade_parse_simple.specs.Readings.{Seen, ReadsOf, expr_seen}
use Rattle.shade_parse_stmt.specs.Follows.{FailsBy, Above, ReadsOfBy, FailsAtBy, FaultsBy}
use Rattle.shade_parse_stmt.proofs.FollowSteps.{by_rank, fails_by_rank, to_rank, fails_to_rank}

-- what a `?` hands on
pub errs : {T : Type 0} (r : Result T Fault) (f : Fault) (P : T → Type 0) (Q : Fault → Type 0) → IsErrAnd r (λ e. e ≡ f) → Q f → MatchResult r P Q
errs (Ok x) f P Q k q = absurd k
errs (Err e) f P Q k q = subst Q (sym k) q

pub answers : {T : Type 0} (r : Result T Fault) (P P2 : T → Type 0) (Q Q2 : Fault → Type 0) → ((x : T) → P x → P2 x) → ((f : Fault) → Q f → Q2 f) → MatchResult r P Q → MatchResult r P2 Q2
answers (Ok x) P P2 Q Q2 p q m = p x m
answers (Err e) P P2 Q Q2 p q m = q e m

pub fault_by : {R S : Type 0} (G : R → List Lexeme → List Lexeme → Type 0) (B : S → List Lexeme → List Lexeme → Type 0) (F H : List Lexeme → Type 0) (tokens : List Lexeme)
    (first mid new : List (List ℕ)) (from at : ℕ) (f : Fault) → length mid + from ≤ length first + at → ((to : ℕ) → FailsBy B H tokens at to → FailsBy G F tokens from to) →
    FaultsBy B H tokens mid new at f → FaultsBy G F tokens first new from f
fault_by G B F H tokens first mid new from at (fault.Unexpected to) le k x = record { fails = k to x.fails; few = (let few : length new + at ≤ length mid + to = x.few in omega arith) }
fault_by G B F H tokens first mid new from at fault.NoMemory le k x = omega arith

pub ranked : {R : Type 0} (G : R → List Lexeme → List Lexeme → Type 0) (n : ℕ) (tokens : List Lexeme) (old new : List (List ℕ)) (from : ℕ) (f : Fault) → Faults G n tokens old new from f → FaultsBy G (Above n) tokens old new from f
ranked G n tokens old new from (fault.Unexpected to) x = record { fails = fails_by_rank G n tokens from to x.fails; few = x.few }
ranked G n tokens old new from fault.NoMemory x = x

pub unranked : {R : Type 0} (G : R → List Lexeme → List Lexeme → Type 0) (n : ℕ) (tokens : List Lexeme) (old new : List (List ℕ)) (from : ℕ) (f : Fault) → FaultsBy G (Above n) tokens old new from f → Faults G n tokens old new from f
unranked G n tokens old new from (fault.Unexpected to) x = record { fails = fails_to_rank G n tokens from to x.fails; few = x.few }
unranked G n tokens old new from fault.NoMemory x = x

pub no_memory : {R : Type 0} (G : R → List Lexeme → List Lexeme → Type 0) (F : List Lexeme → Type 0) (tokens : List Lexeme) (first new : List (List ℕ)) (from : ℕ) (f : Fault) → f ≡ fault.NoMemory → length new + from ≤ length first + length tokens → FaultsBy G F tokens first new from f
no_memory G F tokens first new from f same few = subst (λ x. FaultsBy G F tokens first new from x) (sym same) few

pub fails_here : {R : Type 0} (G : R → List Lexeme → List Lexeme → Type 0) (F : List Lexeme → Type 0) (tokens : List Lexeme) (first new : List (List ℕ)) (from at : ℕ) → length new + from ≤ length first + at → FailsBy G F tokens from at → FailsAtBy G F tokens (length first) (length new) from at
fails_here G F tokens first new from at few x = record { fails = x; few = few }

-- what was read by a rank
pub ranked_read : {T R : Type 0} (seen : Seen T R) (G : R → List Lexeme → List Lexeme → Type 0) (n : ℕ) (tokens : List Lexeme) (names : List (List ℕ)) (from node : ℕ) (r : Read T) → ReadsOf seen G n tokens names from node r → ReadsOfBy seen G (Above n) tokens names from node r
ranked_read seen G n tokens names from node r x = record { reads = by_rank G n tokens from (seen.shape names r.tree) r.end x.reads; known = x.known; nodes = x.nodes }

pub unranked_read : {T R : Type 0} (seen : Seen T R) (G : R → List Lexeme → List Lexeme → Type 0) (n : ℕ) (tokens : List Lexeme) (names : List (List ℕ)) (from node : ℕ) (r : Read T) → ReadsOfBy seen G (Above n) tokens names from node r → ReadsOf seen G n tokens names from node r
unranked_read seen G n tokens names from node r x = record { reads = to_rank G n tokens from (seen.shape names r.tree) r.end x.reads; known = x.known; nodes = x.nodes }

-- an expression that was read
abbrev pub as_read : Part → Read Expr
as_read p = record { tree = p.expr; end = p.end; node = p.node }

pub expr_read : (G : ExprShape → List Lexeme → List Lexeme → Type 0) (n : ℕ) (tokens : List Lexeme) (names : List (List ℕ)) (from node : ℕ) (p : Part) → ReadsTree G n tokens names [] from node p → ReadsOfBy expr_seen G (Above n) tokens names from node (as_read p)
expr_read G n tokens names from node p x = record { reads = by_rank G n tokens from _ p.end x.reads; known = x.known; nodes = counted_all (expr_nodes p.expr) node p.node x.nodes }

pub unexpected : {R : Type 0} (G : R → List Lexeme → List Lexeme → Type 0) (F : List Lexeme → Type 0) (tokens : List Lexeme) (first new : List (List ℕ)) (from at : ℕ) (f : Fault) →
    f ≡ fault.Unexpected at → length new + from ≤ length first + at → FailsBy G F tokens from at → FaultsBy G F tokens first new from f
unexpected G F tokens first new from at f same few x = subst (λ y. FaultsBy G F tokens first new from y) (sym same) (record { fails = x; few = few })

-- what was read with the mark behind it
pub as_before : {T : Type 0} (part whole : Read T) → whole.tree ≡ part.tree → whole.end ≡ part.end + 1 → whole.node ≡ part.node → whole ≡ record { tree = part.tree; end = part.end + 1; node = part.node }
as_before part whole tree end node = λ i. record { tree = tree i; end = end i; node = node i }

-- a result that is known
pub ok_of : {T : Type 0} (r : Result T Fault) (x : T) (P : T → Type 0) (Q : Fault → Type 0) → r ≡ Ok x → MatchResult r P Q → P x
ok_of r x P Q same m = subst (λ y. MatchResult y P Q) same m

pub err_of : {T : Type 0} (r : Result T Fault) (f : Fault) (P : T → Type 0) (Q : Fault → Type 0) → r ≡ Err f → MatchResult r P Q → Q f
err_of r f P Q same m = subst (λ y. MatchResult y P Q) same m

pub ok_if : {T : Type 0} (r : Result T Fault) (x : T) (P : T → Type 0) → r ≡ Ok x → IfOk r P → P x
ok_if r x P same m = subst (λ y. IfOk y P) same m
