-- What a `?` hands on, and the tokens that a function is handed.
use Rattle.std.proofs.Common.{◌≡◌, subst, ℕ, ◌+◌, ◌<◌, ◌≤◌, List, [], length, arith, true, false}
use Rattle.std.specs.Prelude.{◌↔◌, IsTrue}
use Rattle.std.proofs.lemmas.List.{length-map}
use Rattle.shade_base.specs.declared.place.Place.{Place}
use Rattle.shade_ast.specs.Lexemes.{Lexeme}
use Rattle.shade_ast.specs.Reads.{Reads, Fails}
use Rattle.shade_cursor.specs.declared.part.Fault.{Fault}
use Rattle.shade_cursor.specs.declared.part.Fault.TheVariants as fault
use Rattle.shade_cursor.specs.declared.piece.Piece.{Piece}
use Rattle.shade_parse_expr.specs.Parts.{Faults}
use Rattle.shade_cursor.specs.Shown.{lexeme, lexemes}
use Rattle.shade_parse_simple.specs.Maybes.{Stands, MaybeFaults}

pub within : (pieces : List Piece) (at : ℕ) → at ≤ length pieces → at ≤ length (lexemes pieces)
within pieces at le = omega (arith, length-map pieces lexeme, le)

-- the same place by another sum
pub reads_to : {R : Type 0} {G : R → List Lexeme → List Lexeme → Type 0} {n : ℕ} {tokens : List Lexeme} {from : ℕ} {r : R} (a b : ℕ) → a ≡ b → Reads G n tokens from r a → Reads G n tokens from r b
reads_to {G = G} {n = n} {tokens = tokens} {from = from} {r = r} a b same x = subst (λ i. Reads G n tokens from r i) same x

module _ {R S : Type 0} (G : R → List Lexeme → List Lexeme → Type 0) (B : S → List Lexeme → List Lexeme → Type 0) (n m : ℕ) (tokens : List Lexeme) (first mid new : List (List ℕ)) (from at : ℕ) (few : length mid + from ≤ length first + at) where
  -- a part of an optional part fails behind its first token
  pub fault_in : (kind : Place → Lexeme) → Stands kind tokens from → from < at → (f : Fault) → ((to : ℕ) → Fails B m tokens at to → Fails G n tokens from to) → Faults B m tokens mid new at f → MaybeFaults kind G n tokens first new from f
  fault_in kind t lt (fault.Unexpected to) k x = (t, omega (arith, lt, x.fails.low), record { fails = k to x.fails; few = (let e : length new + at ≤ length mid + to = x.few in omega arith) })
  fault_in kind t lt fault.NoMemory k x = omega arith

  -- an optional part fails
  pub fault_of : (kind : Place → Lexeme) → (f : Fault) → ((to : ℕ) → Stands kind tokens at → at < to → Fails B m tokens at to → Fails G n tokens from to) → MaybeFaults kind B m tokens mid new at f → Faults G n tokens first new from f
  fault_of kind (fault.Unexpected to) k x = record { fails = k to x.0 x.1 x.2.fails; few = (let e : length new + at ≤ length mid + to = x.2.few in omega arith) }
  fault_of kind fault.NoMemory k x = omega arith

-- an optional part that is there fails
pub fault_at : {R : Type 0} (G : R → List Lexeme → List Lexeme → Type 0) (n : ℕ) (tokens : List Lexeme) (first new : List (List ℕ)) (from : ℕ) (kind : Place → Lexeme) →
    Stands kind tokens from → (f : Fault) → ((to : ℕ) → Fails G n tokens from to → from < to) → Faults G n tokens first new from f → MaybeFaults kind G n tokens first new from f
fault_at G n tokens first new from kind t (fault.Unexpected to) later x = (t, later to x.fails, x)
fault_at G n tokens first new from kind t fault.NoMemory later x = x

-- a phrase without names fails
pub fault_plain : {R S : Type 0} (G : R → List Lexeme → List Lexeme → Type 0) (B : S → List Lexeme → List Lexeme → Type 0) (n m : ℕ) (tokens : List Lexeme) (first new : List (List ℕ))
    (from at : ℕ) (f : Fault) → length new + from ≤ length first + at → at ≤ length tokens → ((to : ℕ) → Fails B m tokens at to → Fails G n tokens from to) → Faults B m tokens [] [] at f →
    Faults G n tokens first new from f
fault_plain G B n m tokens first new from at (fault.Unexpected to) few le k x = record { fails = k to x.fails; few = (let e : at ≤ to = x.fails.low in omega arith) }
fault_plain G B n m tokens first new from at fault.NoMemory few le k x = omega arith

-- a test that failed
pub isnt : {P : Type 0} → (IsTrue false ↔ P) → P → ⊥
isnt k p = let bad : false ≡ true = k.1 p in cc

pub below : (pieces : List Piece) (at : ℕ) → at < length pieces → at < length (lexemes pieces)
below pieces at lt = omega (arith, length-map pieces lexeme, lt)

pub above : (pieces : List Piece) (at : ℕ) → length pieces ≤ at → length (lexemes pieces) ≤ at
above pieces at le = omega (arith, length-map pieces lexeme, le)
