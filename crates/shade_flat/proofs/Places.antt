-- Where the words of slots lie that stand one behind the other.
use Rattle.std.proofs.Common.{◌≡◌, ℕ, zero, suc, ◌+◌, ◌<◌, ◌≤◌, ◌⊎◌, inl, inr, List, [], ◌∷◌, Option, refl, ap, arith}
use Rattle.shade_values.specs.declared.types.TypeId.{TypeId}
use Rattle.shade_values.specs.Table.{Table}
use Rattle.shade_slots.specs.declared.slot.Slot.{Slot}
use Rattle.shade_slots.specs.Slots.{size_of, slots_from, end_from}
use Rattle.shade_slots.proofs.SlotLaws.{end_grows}
use Rattle.shade_flat.specs.Flat.{slot_at}

-- a slot begins behind the place of the first one, or has no words and lies nowhere
pub begins : (t : Table) (from : ℕ) (types : List (Option TypeId)) (n : ℕ)
    → (from ≤ (slot_at (slots_from t from types) n).first) ⊎ ((slot_at (slots_from t from types) n).first + size_of t (slot_at (slots_from t from types) n).ty ≡ 0)
begins t from [] n = inr refl
begins t from (ty ∷ types) zero = inl (let le : from ≤ from = omega arith in le)
begins t from (ty ∷ types) (suc n) = elim (begins t (from + size_of t ty) types n) [ inl h ↦ inl (omega (arith, h)) | inr h ↦ inr h ]

-- each word of a slot lies within all
pub inside : (t : Table) (from : ℕ) (types : List (Option TypeId)) (n i : ℕ) → i < size_of t (slot_at (slots_from t from types) n).ty
    → (from ≤ (slot_at (slots_from t from types) n).first + i) × ((slot_at (slots_from t from types) n).first + i < end_from t from types)
inside t from [] n i lt = absurd (let none : i < 0 = lt in omega (arith, none))
inside t from (ty ∷ types) zero i lt =
    let less : i < size_of t ty = lt in
    (let low : from ≤ from + i = omega arith in low, let high : from + i < end_from t (from + size_of t ty) types = omega (arith, less, end_grows t (from + size_of t ty) types) in high)
inside t from (ty ∷ types) (suc n) i lt =
    let h = inside t (from + size_of t ty) types n i lt in
    (omega (arith, h.0), h.1)

-- no word of a slot is one of another slot
pub beside : (t : Table) (from : ℕ) (types : List (Option TypeId)) (m n i : ℕ) → (m ≡ n → ⊥) → i < size_of t (slot_at (slots_from t from types) m).ty
    → ((slot_at (slots_from t from types) m).first + i < (slot_at (slots_from t from types) n).first)
    ⊎ ((slot_at (slots_from t from types) n).first + size_of t (slot_at (slots_from t from types) n).ty ≤ (slot_at (slots_from t from types) m).first + i)
beside t from [] m n i ne lt = absurd (let none : i < 0 = lt in omega (arith, none))
beside t from (ty ∷ types) zero zero i ne lt = absurd (ne refl)
beside t from (ty ∷ types) zero (suc n) i ne lt =
    let less : i < size_of t ty = lt in
    elim (begins t (from + size_of t ty) types n) [
      | inl h ↦ inl (omega (arith, h, less))
      | inr h ↦ inr (omega (arith, h))
    ]
beside t from (ty ∷ types) (suc m) zero i ne lt =
    let h = inside t (from + size_of t ty) types m i lt in
    inr (omega (arith, h.0))
beside t from (ty ∷ types) (suc m) (suc n) i ne lt = beside t (from + size_of t ty) types m n i (λ e. ne (ap suc e)) lt

-- nor is a word before all of them, or behind
pub outside : (t : Table) (from : ℕ) (types : List (Option TypeId)) (n w : ℕ) → (w < from) ⊎ (end_from t from types ≤ w)
    → (w < (slot_at (slots_from t from types) n).first) ⊎ ((slot_at (slots_from t from types) n).first + size_of t (slot_at (slots_from t from types) n).ty ≤ w)
outside t from [] n w side = inr (let le : 0 ≤ w = omega arith in le)
outside t from (ty ∷ types) zero w (inl h) = inl h
outside t from (ty ∷ types) zero w (inr h) = inr (omega (arith, h, end_grows t (from + size_of t ty) types))
outside t from (ty ∷ types) (suc n) w (inl h) = outside t (from + size_of t ty) types n w (inl (let less : w < from + size_of t ty = omega (arith, h) in less))
outside t from (ty ∷ types) (suc n) w (inr h) = outside t (from + size_of t ty) types n w (inr h)
