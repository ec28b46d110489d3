-- The last of a list, taken off or changed.
use Rattle.std.specs.Prelude.{Result, Ok, Err, OnOk, MatchOption}
use Rattle.std.proofs.Common.{◌≡◌, Option, Some, None, refl, sym, ap, ◌∙◌, ℕ, zero, suc, ◌<◌, List, [], ◌∷◌, ◌++◌, length, take, arith}
use Rattle.shade_scope.specs.InForce.{without_last, on_last}
use Rattle.shade_scope.specs.Scopes.{last_or}

pub without_more : {A : Type 0} → (xs : List A) (x : A) → without_last (xs ++ x ∷ []) ≡ xs
without_more [] x = refl
without_more (y ∷ []) x = refl
without_more (y ∷ z ∷ zs) x = ap (λ l. y ∷ l) (without_more (z ∷ zs) x)

pub on_more : {A : Type 0} → (f : A → A) (xs : List A) (x : A) → on_last f (xs ++ x ∷ []) ≡ xs ++ f x ∷ []
on_more f [] x = refl
on_more f (y ∷ []) x = refl
on_more f (y ∷ z ∷ zs) x = ap (λ l. y ∷ l) (on_more f (z ∷ zs) x)

pub last_more : {A : Type 0} → (d : A) (xs : List A) (x : A) → last_or d (xs ++ x ∷ []) ≡ x
last_more d [] x = refl
last_more d (y ∷ []) x = refl
last_more d (y ∷ z ∷ zs) x = last_more d (z ∷ zs) x

pub without_of : {A : Type 0} → (old new : List A) (x : A) → old ≡ new ++ x ∷ [] → new ≡ without_last old
without_of old new x is = sym (ap without_last is ∙ without_more new x)

pub on_of : {A : Type 0} → (f : A → A) (old new : List A) (x : A) → old ≡ new ++ x ∷ [] → new ++ f x ∷ [] ≡ on_last f old
on_of f old new x is = sym (ap (on_last f) is ∙ on_more f new x)

pub last_of : {A : Type 0} → (d : A) (old new : List A) (x : A) → old ≡ new ++ x ∷ [] → last_or d old ≡ x
last_of d old new x is = ap (last_or d) is ∙ last_more d new x

take_without : {A : Type 0} → (n : ℕ) (xs : List A) → n < length xs → take n (without_last xs) ≡ take n xs
take_without zero xs lt = refl
take_without (suc n) [] lt = absurd (omega (arith, lt))
take_without (suc n) (x ∷ []) lt = absurd (omega (arith, lt))
take_without (suc n) (x ∷ y ∷ zs) lt = ap (λ l. x ∷ l) (take_without n (y ∷ zs) (omega (arith, lt)))

without_shorter : {A : Type 0} → (x : A) (xs : List A) → length (without_last (x ∷ xs)) < length (x ∷ xs)
without_shorter x [] = omega arith
without_shorter x (y ∷ ys) = omega (arith, without_shorter y ys)

pub shorter : {A : Type 0} → (n : ℕ) (old new : List A) → new ≡ without_last old → n < length old → length new < length old
shorter n [] new is lt = absurd (omega (arith, lt))
shorter n (x ∷ xs) new is lt = omega (arith, ap length is, without_shorter x xs)

pub cut_turn : {A : Type 0} → (n : ℕ) (old new : List A) {t : List A} → new ≡ without_last old → n < length old → take n old ≡ t → take n new ≡ t
cut_turn n old new is lt h = ap (take n) is ∙ take_without n old lt ∙ h

-- the last was taken off, changed and put back
pub on_pushed : {A T E : Type 0} → (r : Result T E) (f : A → A) (old mid new : List A) (x y : A) → old ≡ mid ++ x ∷ [] → y ≡ f x → OnOk r (new ≡ mid ++ y ∷ []) → OnOk r (new ≡ on_last f old)
on_pushed (Ok u) f old mid new x y is e h = h ∙ ap (λ z. mid ++ z ∷ []) e ∙ on_of f old mid x is
on_pushed (Err u) f old mid new x y is e h = tt

abbrev pub Popped : {A : Type 0} → Option A → List A → List A → Type 0
Popped r old new = MatchOption r ((old ≡ []) × (new ≡ [])) (λ last. old ≡ new ++ last ∷ [])

pub rest_by : {A : Type 0} → (r : Option A) (old new : List A) → Popped r old new → new ≡ without_last old
rest_by None old new h = h.1 ∙ sym (ap without_last h.0)
rest_by (Some x) old new h = without_of old new x h

pub last_by : {A : Type 0} → (r : Option A) (old new : List A) → Popped r old new → MatchOption r (old ≡ []) (λ last. (d : A) → last_or d old ≡ last)
last_by None old new h = h.0
last_by (Some x) old new h = λ d. last_of d old new x h
