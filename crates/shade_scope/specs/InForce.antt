-- What is known of a text at one of its events.
use Rattle.std.specs.Prelude.{ℕ, Bool, List, [], ◌∷◌}
use Rattle.shade_base.specs.declared.place.Place.{Place}
use Rattle.shade_scope.specs.declared.bound.Bound.{Bound}

-- the declarations that are in force, the newest last; and for each open scope, the innermost last, how many were in force when it began
pub record InForce : Type 0 where
  pub opened : List ℕ
  pub bounds : List Bound

-- a loop that is open: how many scopes are open around what its body declares, whether its continuing part has begun, and the places of
-- its `continue`s, the last first
pub record Loop : Type 0 where
  pub depth : ℕ
  pub turning : Bool
  pub continues : List Place

-- what is in force, the loops that are open, the innermost last, and the declaration of the module that holds what follows, by its node
pub record Context : Type 0 where
  pub scopes : InForce
  pub loops : List Loop
  pub within : ℕ

abbrev pub without_last : {A : Type 0} → List A → List A
without_last [] = []
without_last (x ∷ []) = []
without_last (x ∷ y ∷ zs) = x ∷ without_last (y ∷ zs)

abbrev pub on_last : {A : Type 0} → (A → A) → List A → List A
on_last f [] = []
on_last f (x ∷ []) = f x ∷ []
on_last f (x ∷ y ∷ zs) = x ∷ on_last f (y ∷ zs)
