-- Phrases whose end is told by what may follow them, where no rank of a token says it: a `(` goes on with an expression, and
-- may begin the next statement.
use Rattle.std.specs.Prelude.{◌≡◌, ℕ, ◌+◌, ◌<◌, ◌≤◌, List, [], ◌∷◌, ◌++◌, length, drop}
use Rattle.shade_base.specs.declared.place.Place.{Place}
use Rattle.shade_ast.specs.declared.lexeme.Keyword.TheVariants as word
use Rattle.shade_ast.specs.declared.lexeme.Sign.TheVariants as sign
use Rattle.shade_ast.specs.Lexemes.{Lexeme, Key, Mark}
use Rattle.shade_ast.specs.Nodes.{CountFrom}
use Rattle.shade_ast.specs.Reads.{Near, rank, rank_of}
use Rattle.shade_cursor.specs.declared.part.Fault.{Fault}
use Rattle.shade_cursor.specs.declared.part.Fault.TheVariants as fault
use Rattle.shade_parse_simple.specs.declared.read.Read.{Read}
use Rattle.shade_parse_simple.specs.Readings.{Seen}

-- `Reads` and `Fails`, with what may follow in place of a rank
pub record ReadsBy {R : Type 0} (G : R → List Lexeme → List Lexeme → Type 0) (F : List Lexeme → Type 0) (tokens : List Lexeme) (from : ℕ) (r : R) (to : ℕ) : Type 0 where
  pub low : from ≤ to
  pub high : to ≤ length tokens
  pub us : List Lexeme
  pub spelled : drop from tokens ≡ us ++ drop to tokens
  pub phrase : (w : List Lexeme) → G r (us ++ w) w
  pub only : (s : R) (ys w : List Lexeme) → G s (us ++ ys) w → F w → Near ys (drop to tokens) → (s ≡ r) × (ys ≡ w)

pub record FailsBy {R : Type 0} (G : R → List Lexeme → List Lexeme → Type 0) (F : List Lexeme → Type 0) (tokens : List Lexeme) (from to : ℕ) : Type 0 where
  pub low : from ≤ to
  pub high : to ≤ length tokens
  pub us : List Lexeme
  pub spelled : drop from tokens ≡ us ++ drop to tokens
  pub begun : (s : R) × (ys : List Lexeme) × ((w : List Lexeme) → G s (us ++ (ys ++ w)) w)
  pub none : (s : R) (ys w : List Lexeme) → G s (us ++ ys) w → F w → Near ys (drop to tokens) → ⊥

-- a token of a kind, and then what depends on its place
pub record Marked {R : Type 0} (kind : Place → Lexeme) (C : Place → R → List Lexeme → List Lexeme → Type 0) (r : R) (ys w : List Lexeme) : Type 0 where
  pub place : Place
  pub others : List Lexeme
  pub split : ys ≡ kind place ∷ others
  pub rest : C place r others w

-- any token but one that goes on with a phrase of this rank
abbrev pub Above : ℕ → List Lexeme → Type 0
Above n w = n < rank w

-- anything
abbrev pub Anything : List Lexeme → Type 0
Anything w = Unit {0}

-- what may follow a statement: any token but `else`, which goes on with an `if`
abbrev pub FreeToken : Lexeme → Type 0
FreeToken (Key word.Else place) = ⊥
FreeToken t = 0 < rank_of t

abbrev pub Free : List Lexeme → Type 0
Free [] = Unit {0}
Free (t ∷ ts) = FreeToken t

-- what follows the selectors of a `case`
abbrev pub SelectedToken : Lexeme → Type 0
SelectedToken (Mark sign.Colon place) = Unit {0}
SelectedToken (Mark sign.At place) = Unit {0}
SelectedToken (Mark sign.OpenBrace place) = Unit {0}
SelectedToken _ = ⊥

abbrev pub Selected : List Lexeme → Type 0
Selected [] = ⊥
Selected (t ∷ ts) = SelectedToken t

-- what follows the statements of a block or of a `loop`
abbrev pub ClosingToken : Lexeme → Type 0
ClosingToken (Mark sign.CloseBrace place) = Unit {0}
ClosingToken (Key word.Continuing place) = Unit {0}
ClosingToken _ = ⊥

abbrev pub Closing : List Lexeme → Type 0
Closing [] = ⊥
Closing (t ∷ ts) = ClosingToken t

-- what a function of the parser answers
pub record ReadsOfBy {T R : Type 0} (seen : Seen T R) (G : R → List Lexeme → List Lexeme → Type 0) (F : List Lexeme → Type 0) (tokens : List Lexeme) (names : List (List ℕ)) (from node : ℕ) (r : Read T) : Type 0 where
  pub reads : ReadsBy G F tokens from (seen.shape names r.tree) r.end
  pub known : seen.needs r.tree ≤ length names
  pub nodes : CountFrom node (seen.nodes r.tree) r.node

pub record FailsAtBy {R : Type 0} (G : R → List Lexeme → List Lexeme → Type 0) (F : List Lexeme → Type 0) (tokens : List Lexeme) (old new from at : ℕ) : Type 0 where
  pub fails : FailsBy G F tokens from at
  pub few : new + from ≤ old + at

abbrev pub FaultsBy : {R : Type 0} → (R → List Lexeme → List Lexeme → Type 0) → (List Lexeme → Type 0) → List Lexeme → List (List ℕ) → List (List ℕ) → ℕ → Fault → Type 0
FaultsBy G F tokens old new from (fault.Unexpected at) = FailsAtBy G F tokens (length old) (length new) from at
FaultsBy G F tokens old new from fault.NoMemory = length new + from ≤ length old + length tokens
