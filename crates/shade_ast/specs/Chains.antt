-- Phrases told by what follows what. As a production does, each relates what is read, the tokens from its first one on, and the tokens
-- behind it; so what is left of a phrase, once a part of it is read, is a phrase too.
use Rattle.std.specs.Prelude.{◌≡◌, Bool, List, ◌∷◌}
use Rattle.shade_base.specs.declared.place.Place.{Place}
use Rattle.shade_ast.specs.Lexemes.{Lexeme}

-- a phrase, and then what depends on it
pub record After {R S : Type 0} (B : S → List Lexeme → List Lexeme → Type 0) (C : S → R → List Lexeme → List Lexeme → Type 0) (r : R) (ys w : List Lexeme) : Type 0 where
  pub part : S
  pub others : List Lexeme
  pub phrase : B part ys others
  pub rest : C part r others w

-- a token, and then the rest
pub record Then {R : Type 0} (t : Lexeme) (C : R → List Lexeme → List Lexeme → Type 0) (r : R) (ys w : List Lexeme) : Type 0 where
  pub others : List Lexeme
  pub split : ys ≡ t ∷ others
  pub rest : C r others w

-- nothing more
pub record Ends {R : Type 0} (e r : R) (ys w : List Lexeme) : Type 0 where
  pub same : r ≡ e
  pub left : ys ≡ w

-- a token that decides how it goes on
pub record Headed {R : Type 0} (At : Lexeme → R → List Lexeme → List Lexeme → Type 0) (r : R) (ys w : List Lexeme) : Type 0 where
  pub first : Lexeme
  pub others : List Lexeme
  pub split : ys ≡ first ∷ others
  pub at : At first r others w

-- the token of this kind that stands at a place
pub record Placed (kind : Place → Lexeme) (p : Place) (ts rest : List Lexeme) : Type 0 where
  pub is : ts ≡ kind p ∷ rest

-- a list with the token that closes it
pub record Closed {R : Type 0} (L : List R × Bool → List Lexeme → List Lexeme → Type 0) (closer : Place → Lexeme) (r : List R × Bool) (ts w : List Lexeme) : Type 0 where
  pub place : Place
  pub list : L r ts (closer place ∷ w)

-- `At` has one step, behind its first token: from the tree before to the tree after. A tail is any number of them.
pub data Tail {R : Type 0} (At : Lexeme → R → R → List Lexeme → List Lexeme → Type 0) : R → R → List Lexeme → List Lexeme → Type 0 where
  done : {l : R} {w : List Lexeme} → Tail At l l w w
  on : {l m r : R} (t : Lexeme) {us zs w : List Lexeme} → At t l m us zs → Tail At m r zs w → Tail At l r (t ∷ us) w

-- a step that is an operator followed by a phrase
pub record Infix {R S : Type 0} (B : S → List Lexeme → List Lexeme → Type 0) (build : S → R) (m : R) (us zs : List Lexeme) : Type 0 where
  pub right : S
  pub phrase : B right us zs
  pub same : m ≡ build right
