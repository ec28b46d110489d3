-- Arguments become parameters place by place.
use Rattle.std.proofs.Common.{◌≡◌, refl, ap, subst, ℕ, zero, suc, ◌+◌, ◌<◌, ◌≤◌, List, [], ◌∷◌, length, Some, slice_get, get_or, inl, inr, arith, IsTrue, ◌↔◌, true, false}
use Rattle.std.proofs.Math.Nat.{eq-or-lt_of_le}
use Rattle.std.proofs.lemmas.Option.{slice_get-get_or}
use Rattle.shade_values.specs.declared.types.ShadeType.{ShadeType}
use Rattle.shade_overload.specs.Conversions.{Becomes, BecomeAll}

pub same_length : (xs ys : List ShadeType) → BecomeAll xs ys → length xs ≡ length ys
same_length [] [] h = refl
same_length (x ∷ xs) (y ∷ ys) h = ap (λ n. suc n) (same_length xs ys h.1)
same_length [] (y ∷ ys) h = absurd h
same_length (x ∷ xs) [] h = absurd h

pub become_at : (xs ys : List ShadeType) (k : ℕ) (x y : ShadeType) → BecomeAll xs ys → slice_get xs k ≡ Some x → slice_get ys k ≡ Some y → Becomes x y
become_at [] ys k x y h e d = absurd (cc)
become_at (a ∷ xs) [] k x y h e d = absurd h
become_at (a ∷ xs) (b ∷ ys) zero x y h e d =
    let p : a ≡ x = cc in
    let q : b ≡ y = cc in
    subst (λ z. Becomes z y) p (subst (λ z. Becomes a z) q h.0)
become_at (a ∷ xs) (b ∷ ys) (suc k) x y h e d = become_at xs ys k x y h.1 e d

-- the arguments at the first places become the parameters there
abbrev pub BecomeBelow : ℕ → List ShadeType → List ShadeType → Type 0
BecomeBelow n xs ys = (k : ℕ) (x y : ShadeType) → k < n → slice_get xs k ≡ Some x → slice_get ys k ≡ Some y → Becomes x y

pub become_all : (xs ys : List ShadeType) → length xs ≡ length ys → BecomeBelow (length xs) xs ys → BecomeAll xs ys
become_all [] [] e h = tt
become_all [] (y ∷ ys) e h = absurd (cc)
become_all (x ∷ xs) [] e h = absurd (cc)
become_all (x ∷ xs) (y ∷ ys) e h = (h 0 x y (omega arith) refl refl, become_all xs ys (omega arith) (λ k a b l. h (suc k) a b (omega arith)))

-- what stands at a place, as a test there says it
abbrev pub BecomesAt : ShadeType → List ShadeType → ℕ → Type 0
BecomesAt x ys k = (y : ShadeType) × (slice_get ys k ≡ Some y) × Becomes x y

pub become_here : (xs ys : List ShadeType) (k : ℕ) (d : ShadeType) → BecomeAll xs ys → k < length xs → BecomesAt (get_or xs k d) ys k
become_here [] ys k d h l = absurd (omega arith)
become_here (x ∷ xs) [] k d h l = absurd h
become_here (x ∷ xs) (y ∷ ys) zero d h l = (y, refl, h.0)
become_here (x ∷ xs) (y ∷ ys) (suc k) d h l = become_here xs ys k d h.1 (omega arith)

pub become_more : (xs ys : List ShadeType) (k : ℕ) (d : ShadeType) → BecomeBelow k xs ys → k < length xs → BecomesAt (get_or xs k d) ys k → BecomeBelow (k + 1) xs ys
become_more xs ys k d below l (p, at, here) j x y h e g =
    let near : j ≤ k = omega arith in
    elim (eq-or-lt_of_le near) as (λ _. Becomes x y) [
      | inr less ↦ below j x y less e g
      | inl same ↦
          let q : p ≡ y = cc (at, g, same) in
          let r : get_or xs k d ≡ x = cc (slice_get-get_or xs k d l, e, same) in
          subst (λ z. Becomes z y) r (subst (λ z. Becomes (get_or xs k d) z) q here)
    ]

-- a test that answers no, and one that answers yes
pub refutes : {P : Type 0} → ¬ P → IsTrue false ↔ P
refutes none = (λ f. absurd (cc), λ p. absurd (none p))

pub confirms : {P : Type 0} → P → IsTrue true ↔ P
confirms p = (λ t. p, λ q. refl)
