-- On the way: where the newest declaration of each name stands, so that it is found at once: the code's own book of what is in force.
use Rattle.std.specs.Prelude.{◌≡◌, ℕ, suc, ◌<◌, Bool, true, false, List, [], ◌∷◌, length, map, take, Option, None, Some, ◌==◌, slice_get}
use Rattle.shade_scope.specs.declared.bound.Bound.{Bound}
use Rattle.shade_scope.specs.declared.scopes.Kept.{Kept}

abbrev pub later : Option ℕ → Bool → Option ℕ
later (Some m) same = Some (suc m)
later None true = Some 0
later None false = None

-- where the last declaration with a name stands
abbrev pub last_at : List Kept → ℕ → Option ℕ
last_at [] name = None
last_at (k ∷ ks) name = later (last_at ks name) (k.bound.name == name)

abbrev pub bounds_of : List Kept → List Bound
bounds_of ks = map (λ k. k.bound) ks

-- for each name of the table where its newest declaration stands, and for each declaration where the one of its name before it does
pub record IsIndexed (kept : List Kept) (last : List (Option ℕ)) : Type 0 where
  pub newest : (name : ℕ) (at : Option ℕ) → slice_get last name ≡ Some at → at ≡ last_at kept name
  pub before : (i : ℕ) (k : Kept) → slice_get kept i ≡ Some k → k.bound.name < length last → k.before ≡ last_at (take i kept) k.bound.name

abbrev pub bound_of : Option Kept → Option Bound
bound_of None = None
bound_of (Some k) = Some k.bound

-- the declaration that stands at a place
abbrev pub nth : List Kept → Option ℕ → Option Bound
nth ks None = None
nth ks (Some m) = bound_of (slice_get ks m)
