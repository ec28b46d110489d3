-- Slots that lie one behind the other.
use Rattle.std.proofs.Common.{◌≡◌, ◌∙◌, ℕ, zero, suc, ◌+◌, ◌<◌, ◌≤◌, add-one, List, [], ◌∷◌, ◌++◌, take, length, get_or, Option, refl, ap, arith}
use Rattle.std.proofs.Math.Seq.{take-suc}
use Rattle.shade_values.specs.declared.types.TypeId.{TypeId}
use Rattle.shade_values.specs.Table.{Table}
use Rattle.shade_slots.specs.Slots.{size_of, slots_from, end_from}

-- one slot more
pub slots_more : (t : Table) (at : ℕ) (types : List (Option TypeId)) (ty : Option TypeId) → slots_from t at (types ++ ty ∷ []) ≡ slots_from t at types ++ record { first = end_from t at types; ty = ty } ∷ []
slots_more t at [] ty = refl
slots_more t at (x ∷ types) ty = ap (λ slots. record { first = at; ty = x } ∷ slots) (slots_more t (at + size_of t x) types ty)

pub end_more : (t : Table) (at : ℕ) (types : List (Option TypeId)) (ty : Option TypeId) → end_from t at (types ++ ty ∷ []) ≡ end_from t at types + size_of t ty
end_more t at [] ty = refl
end_more t at (x ∷ types) ty = end_more t (at + size_of t x) types ty

-- what comes later ends later
pub end_grows : (t : Table) (at : ℕ) (types : List (Option TypeId)) → at ≤ end_from t at types
end_grows t at [] = omega arith
end_grows t at (x ∷ types) = omega (arith, end_grows t (at + size_of t x) types)

pub end_of_front : (t : Table) (at i : ℕ) (types : List (Option TypeId)) → end_from t at (take i types) ≤ end_from t at types
end_of_front t at zero types = end_grows t at types
end_of_front t at (suc i) [] = omega arith
end_of_front t at (suc i) (x ∷ types) = end_of_front t (at + size_of t x) i types

-- one type more of a list
front_more : (i : ℕ) (types : List (Option TypeId)) (d : Option TypeId) → i < length types → take (i + 1) types ≡ take i types ++ get_or types i d ∷ []
front_more i types d lt = ap (λ k. take k types) (add-one i) ∙ take-suc types i d lt

pub slots_turn : (t : Table) (at i : ℕ) (types : List (Option TypeId)) (d : Option TypeId) → i < length types
    → slots_from t at (take (i + 1) types) ≡ slots_from t at (take i types) ++ record { first = end_from t at (take i types); ty = get_or types i d } ∷ []
slots_turn t at i types d lt = ap (λ front. slots_from t at front) (front_more i types d lt) ∙ slots_more t at (take i types) (get_or types i d)

pub end_turn : (t : Table) (at i : ℕ) (types : List (Option TypeId)) (d : Option TypeId) → i < length types
    → end_from t at (take (i + 1) types) ≡ end_from t at (take i types) + size_of t (get_or types i d)
end_turn t at i types d lt = ap (λ front. end_from t at front) (front_more i types d lt) ∙ end_more t at (take i types) (get_or types i d)
