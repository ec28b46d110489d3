-- What is among the items of a list, and an item at a place.
use Rattle.std.proofs.Common.{◌≡◌, ℕ, zero, suc, Bool, true, false, ◌&&◌, List, [], ◌∷◌, ◌++◌, map, Some, refl, ap, subst, inl, inr}
use Rattle.std.specs.Prelude.{◌==◌, ◌⊎◌, ◌||◌, slice_get, slice_set}
use Rattle.std.specs.Option.{option_map}
use Rattle.std.specs.List.{list_any, list_all}
use Rattle.std.proofs.lemmas.Bool.{eqb-true, eq-eqb}
use Rattle.shade_schedules.specs.Races.{Among, here, there}

pub false_true : (b : Bool) {C : Type 0} → b ≡ false → b ≡ true → C
false_true true f t = let no_one : ⊥ = cc f in absurd no_one
false_true false f t = let no_one : ⊥ = cc t in absurd no_one

pub not_true : (b : Bool) → (b ≡ true → ⊥) → b ≡ false
not_true true f = absurd (f refl)
not_true false f = refl

pub and_parts : (a b : Bool) → (a && b) ≡ true → (a ≡ true) × (b ≡ true)
and_parts true b e = (refl, e)
and_parts false b e = false_true false refl e

pub none_among : {A : Type 0} {x : A} {C : Type 0} → Among x [] → C
none_among h = elim h [ ]

pub among_left : {A : Type 0} {x : A} {xs : List A} (ys : List A) → Among x xs → Among x (xs ++ ys)
among_left ys here = here
among_left ys (there h) = there (among_left ys h)

pub among_right : {A : Type 0} {x : A} (xs : List A) {ys : List A} → Among x ys → Among x (xs ++ ys)
among_right [] h = h
among_right (y ∷ xs) h = there (among_right xs h)

pub among_either : {A : Type 0} {x : A} (xs ys : List A) → Among x (xs ++ ys) → Among x xs ⊎ Among x ys
among_either [] ys h = inr h
among_either (z ∷ xs) ys here = inl here
among_either (z ∷ xs) ys (there h) = elim (among_either xs ys h) [ inl a ↦ inl (there a) | inr b ↦ inr b ]

pub among_map : {A B : Type 0} (f : A → B) {x : A} {xs : List A} → Among x xs → Among (f x) (map f xs)
among_map f here = here
among_map f (there h) = there (among_map f h)

pub from_map : {A B : Type 0} (f : A → B) (xs : List A) {y : B} → Among y (map f xs) → (x : A) × Among x xs × (y ≡ f x)
from_map f [] h = none_among h
from_map f (x ∷ xs) here = (x, here, refl)
from_map f (x ∷ xs) (there h) = let r : (z : _) × Among z xs × (_ ≡ f z) = from_map f xs h in (r.0, there r.1, r.2)

pub same_number : (i j : ℕ) → (i ≡ j) ⊎ (i ≡ j → ⊥)
same_number i j = by (i == j) refl
  where
    by : (b : Bool) → (i == j) ≡ b → (i ≡ j) ⊎ (i ≡ j → ⊥)
    by true e = inl (eqb-true i j e)
    by false e = inr (λ is. false_true (i == j) e (eq-eqb i j is))

pub set_same : {A : Type 0} (xs : List A) (n : ℕ) {before : A} (x : A) → slice_get xs n ≡ Some before → slice_get (slice_set xs n x) n ≡ Some x
set_same [] n x e = let no_one : ⊥ = cc e in absurd no_one
set_same (y ∷ xs) zero x e = refl
set_same (y ∷ xs) (suc n) x e = set_same xs n x e

pub set_other : {A : Type 0} (xs : List A) (n i : ℕ) (x : A) → (n ≡ i → ⊥) → slice_get (slice_set xs n x) i ≡ slice_get xs i
set_other [] n i x e = refl
set_other (y ∷ xs) zero zero x e = absurd (e refl)
set_other (y ∷ xs) zero (suc i) x e = refl
set_other (y ∷ xs) (suc n) zero x e = refl
set_other (y ∷ xs) (suc n) (suc i) x e = set_other xs n i x (λ is. e (ap suc is))

pub get_map : {A B : Type 0} (f : A → B) (xs : List A) (i : ℕ) → slice_get (map f xs) i ≡ option_map f (slice_get xs i)
get_map f [] i = refl
get_map f (x ∷ xs) zero = refl
get_map f (x ∷ xs) (suc i) = get_map f xs i

pub all_at : {A : Type 0} (p : A → Bool) (xs : List A) (i : ℕ) (x : A) → list_all p xs ≡ true → slice_get xs i ≡ Some x → p x ≡ true
all_at p [] i x h e = let no_one : ⊥ = cc e in absurd no_one
all_at p (y ∷ xs) zero x h e = let is : y ≡ x = cc e in subst (λ z. p z ≡ true) is (and_parts (p y) (list_all p xs) h).0
all_at p (y ∷ xs) (suc i) x h e = all_at p xs i x (and_parts (p y) (list_all p xs) h).1 e

pub none_at : {A : Type 0} (p : A → Bool) (xs : List A) → ((i : ℕ) (x : A) → slice_get xs i ≡ Some x → p x ≡ false) → list_any p xs ≡ false
none_at p [] h = refl
none_at p (y ∷ xs) h = rw (h 0 y refl) (none_at p xs (λ i x e. h (suc i) x e))

or_parts : (a b : Bool) → (a || b) ≡ false → (a ≡ false) × (b ≡ false)
or_parts true b e = false_true true e refl
or_parts false b e = (refl, e)

pub any_at : {A : Type 0} (p : A → Bool) (xs : List A) (i : ℕ) (x : A) → list_any p xs ≡ false → slice_get xs i ≡ Some x → p x ≡ false
any_at p [] i x h e = let no_one : ⊥ = cc e in absurd no_one
any_at p (y ∷ xs) zero x h e = let is : y ≡ x = cc e in subst (λ z. p z ≡ false) is (or_parts (p y) (list_any p xs) h).0
any_at p (y ∷ xs) (suc i) x h e = any_at p xs i x (or_parts (p y) (list_any p xs) h).1 e
