-- Laws: which declarations stand before which in an order of them.
use Rattle.std.specs.Prelude.{◌≡◌, ◌↔◌, ◌<◌, ℕ, List, [], ◌∷◌, length, get_or, Contains}
use Rattle.shade_reach.specs.Paths.{Walk}
use Rattle.shade_declared.specs.Order.{IsOrder}

abbrev pub Names : List (List ℕ) → ℕ → ℕ → Type 0
Names named d e = Contains (get_or named d []) e

-- a declaration that needs itself, directly or through others
abbrev pub NeedsItself : List (List ℕ) → ℕ → Type 0
NeedsItself named d = (next : ℕ) × (rest : List ℕ) × Walk (Names named) d d (next ∷ rest)

abbrev pub StandOnce : List ℕ → Type 0
StandOnce [] = Unit {0}
StandOnce (d ∷ ds) = ¬ Contains ds d × StandOnce ds

-- each stands behind the declarations that it names; `before` are those that stand before all of these
abbrev pub StandBehind : List (List ℕ) → List ℕ → List ℕ → Type 0
StandBehind named before [] = Unit {0}
StandBehind named before (d ∷ ds) = ((e : ℕ) → Names named d e → e < length named → Contains before e) × StandBehind named (d ∷ before) ds

-- all declarations stand in their order, each once
abbrev pub OrdersHaveEachOnce : Type 0
OrdersHaveEachOnce = (named : List (List ℕ)) (order : List ℕ) → IsOrder named order → ((d : ℕ) → Contains order d ↔ (d < length named)) × StandOnce order

-- where none needs itself, each stands behind those that it names
abbrev pub OrdersGoBehindNames : Type 0
OrdersGoBehindNames = (named : List (List ℕ)) (order : List ℕ) → ((d : ℕ) → ¬ NeedsItself named d) → IsOrder named order → StandBehind named [] order

-- there is one order
abbrev pub OrdersAreOne : Type 0
OrdersAreOne = (named : List (List ℕ)) (one other : List ℕ) → IsOrder named one → IsOrder named other → one ≡ other
