-- What stands in lists.
use Rattle.std.proofs.Common.{◌≡◌, ℕ, zero, suc, List, [], ◌∷◌, ◌++◌, inl, inr, Bool, true, false, refl, ap, sym, subst, ◌∙◌, Option, Some, None}
use Rattle.std.specs.Prelude.{◌⊎◌, if◌then◌else◌, slice_get, Contains, map}
use Rattle.std.proofs.lemmas.Option.{slice_get-get_or, slice_get_within, get_or_from_slice_get}
use Rattle.shade_graph.specs.Graph.{Among, here, later}

pub among_left : {A : Type 0} {x : A} (xs ys : List A) → Among x xs → Among x (xs ++ ys)
among_left [] ys h = elim h [ ]
among_left (x ∷ xs) ys here = here
among_left (y ∷ xs) ys (later h) = later (among_left xs ys h)

pub among_right : {A : Type 0} {x : A} (xs ys : List A) → Among x ys → Among x (xs ++ ys)
among_right [] ys h = h
among_right (y ∷ xs) ys h = later (among_right xs ys h)

pub among_split : {A : Type 0} {x : A} (xs ys : List A) → Among x (xs ++ ys) → Among x xs ⊎ Among x ys
among_split [] ys h = inr h
among_split (x ∷ xs) ys here = inl here
among_split (y ∷ xs) ys (later h) = elim (among_split xs ys h) [ inl left ↦ inl (later left) | inr right ↦ inr right ]

-- in a list that is there only if a test holds
pub among_if : {A : Type 0} {x : A} (b : Bool) (xs : List A) → Among x (if b then xs else []) → (b ≡ true) × Among x xs
among_if true xs h = (refl, h)
among_if false xs h = elim h [ ]

pub among_one : {A : Type 0} {x : A} (y : A) → Among x (y ∷ []) → x ≡ y
among_one y here = refl
among_one y (later h) = elim h [ ]

pub some_same : {A : Type 0} (x y : A) → Some x ≡ Some y → y ≡ x
some_same x y e = let f : Some x ≡ Some y = e in cc

none_some : {A : Type 0} (x : A) → ◌≡◌ {A = Option A} None (Some x) → ⊥
none_some x e = let f : None ≡ Some x = e in cc

-- what stands in a list stands at a place in it

pub among_get : {A : Type 0} {x : A} (xs : List A) → Among x xs → (k : ℕ) × (slice_get xs k ≡ Some x)
among_get [] h = elim h [ ]
among_get (x ∷ xs) here = (zero, refl)
among_get (y ∷ xs) (later h) = let r = among_get xs h in (suc r.0, r.1)

pub get_among : {A : Type 0} (xs : List A) (k : ℕ) (x : A) → slice_get xs k ≡ Some x → Among x xs
get_among [] k x e = absurd (none_some x e)
get_among {A = A} (y ∷ xs) zero x e = subst (λ (z : A). Among z (y ∷ xs)) (sym (some_same y x e)) here
get_among (y ∷ xs) (suc k) x e = later (get_among xs k x e)

pub contains_among : {A : Type 0} (xs : List A) (x : A) → Contains xs x → Among x xs
contains_among xs x h = get_among xs h.0 x (slice_get-get_or xs h.0 x h.1 ∙ ap Some h.2)

pub among_contains : {A : Type 0} (xs : List A) (x : A) → Among x xs → Contains xs x
among_contains xs x h = let r = among_get xs h in (r.0, slice_get_within xs r.0 x r.1, get_or_from_slice_get xs r.0 x x r.1)

pub among_map : {A B : Type 0} (f : A → B) (xs : List A) (x : A) → Among x xs → Among (f x) (map f xs)
among_map f [] x h = elim h [ ]
among_map f (y ∷ xs) x here = here
among_map f (y ∷ xs) x (later h) = later (among_map f xs x h)

pub map_among : {A B : Type 0} (f : A → B) (xs : List A) (y : B) → Among y (map f xs) → (x : A) × Among x xs × (y ≡ f x)
map_among f [] y h = elim h [ ]
map_among f (x ∷ xs) y here = (x, here, refl)
map_among f (x ∷ xs) y (later h) = let r = map_among f xs y h in (r.0, later r.1, r.2)
