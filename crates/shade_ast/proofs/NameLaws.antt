-- The numbers of texts, over any keys that have bytes.
use Rattle.std.proofs.Common.{◌≡◌, refl, sym, ap, ◌∙◌, ℕ, zero, suc, ◌+◌, ◌⊎◌, inl, inr, Bool, true, false, ◌||◌, not, cond, List, [], ◌∷◌, ◌++◌, length, map, Some, None, slice_get}
use Rattle.std.specs.List.{list_any, position, position_or_len}
use Rattle.std.specs.Str.{bytes_eq}
use Rattle.std.proofs.lemmas.List.{append-nil}
use Rattle.std.proofs.lemmas.Slice.Eq.{bytes_eq-Decides}
use Rattle.std.proofs.Math.Numerals.{one-add}
use Rattle.indexmap.specs.IndexSet.{insert_key}
use Rattle.shade_ast.specs.Names.{number_in, with_name, IsDistinct, Grows}

module _ {K : Type 0} (bytes : K → List ℕ) (text : List ℕ) where
  any_map : (ks : List K) → list_any (λ k. bytes_eq text (bytes k)) ks ≡ list_any (bytes_eq text) (map bytes ks)
  any_map [] = refl
  any_map (k ∷ ks) = ap (λ b. bytes_eq text (bytes k) || b) (any_map ks)

  place_map : (ks : List K) → position_or_len (λ k. bytes_eq text (bytes k)) ks ≡ number_in (map bytes ks) text
  place_map [] = refl
  place_map (k ∷ ks) = ap (λ n. cond (not (bytes_eq text (bytes k))) (1 + n) 0) (place_map ks)

some_cond : {X : Type 0} (b : Bool) (x y : X) → Some y ≡ cond b (Some x) None → y ≡ x
some_cond true x y e = cc
some_cond false x y e = cc

-- a name that is known
pub known_number : {K : Type 0} (bytes : K → List ℕ) (text : List ℕ) (ks : List K) (i : ℕ) → Some i ≡ position (λ k. bytes_eq text (bytes k)) ks → i ≡ number_in (map bytes ks) text
known_number bytes text ks i e = some_cond _ _ _ e ∙ place_map bytes text ks

with_known : (names : List (List ℕ)) (text : List ℕ) → list_any (bytes_eq text) names ≡ true → with_name names text ≡ names
with_known names text e = ap (λ b. cond b names (names ++ text ∷ [])) e

pub known_names : {K : Type 0} (bytes : K → List ℕ) (text : List ℕ) (ks : List K) → true ≡ list_any (λ k. bytes_eq text (bytes k)) ks → map bytes ks ≡ with_name (map bytes ks) text
known_names bytes text ks e = sym (with_known (map bytes ks) text (sym (any_map bytes text ks) ∙ sym e))

-- a name that is inserted
pub new_number : {K : Type 0} (bytes : K → List ℕ) (text : List ℕ) (ks : List K) → position_or_len (λ k. bytes_eq text (bytes k)) ks ≡ number_in (map bytes ks) text
new_number bytes text ks = place_map bytes text ks

map_push : {K L : Type 0} (f : K → L) (ks : List K) (k : K) → map f (ks ++ k ∷ []) ≡ map f ks ++ f k ∷ []
map_push f [] k = refl
map_push f (j ∷ ks) k = ap (λ ls. f j ∷ ls) (map_push f ks k)

map_either : {K L : Type 0} (f : K → L) (b : Bool) (ks : List K) (k : K) → map f (cond b ks (ks ++ k ∷ [])) ≡ cond b (map f ks) (map f ks ++ f k ∷ [])
map_either f true ks k = refl
map_either f false ks k = map_push f ks k

pub new_names : {K : Type 0} (bytes : K → List ℕ) (ks : List K) (k : K) → map bytes (insert_key (λ x y. bytes_eq (bytes x) (bytes y)) ks k) ≡ with_name (map bytes ks) (bytes k)
new_names bytes ks k =
    map_either bytes (list_any (λ y. bytes_eq (bytes k) (bytes y)) ks) ks k
    ∙ ap (λ b. cond b (map bytes ks) (map bytes ks ++ bytes k ∷ [])) (any_map bytes (bytes k) ks)

-- the number of a text has that text
after_one : (b : Bool) (n text : List ℕ) (ns : List (List ℕ)) → cond b (n ∷ ns) (n ∷ (ns ++ text ∷ [])) ≡ n ∷ cond b ns (ns ++ text ∷ [])
after_one true n text ns = refl
after_one false n text ns = refl

step : (b : Bool) (n text : List ℕ) (ns : List (List ℕ)) → (b ≡ true → n ≡ text) → slice_get (with_name ns text) (number_in ns text) ≡ Some text → slice_get (cond (b || list_any (bytes_eq text) ns) (n ∷ ns) (n ∷ (ns ++ text ∷ []))) (cond (not b) (1 + number_in ns text) 0) ≡ Some text
step true n text ns same h = ap Some (same refl)
step false n text ns same h = ap (λ l. slice_get l (1 + number_in ns text)) (after_one (list_any (bytes_eq text) ns) n text ns) ∙ next n (with_name ns text) (number_in ns text) ∙ h
  where
    next : (x : List ℕ) (xs : List (List ℕ)) (k : ℕ) → slice_get (x ∷ xs) (1 + k) ≡ slice_get xs k
    next x xs k = ap (λ j. slice_get (x ∷ xs) j) (one-add k)

stored : (names : List (List ℕ)) (text : List ℕ) → slice_get (with_name names text) (number_in names text) ≡ Some text
stored [] text = refl
stored (n ∷ ns) text = step (bytes_eq text n) n text ns (λ e. sym ((bytes_eq-Decides text n).0 e)) (stored ns text)

pub stored_at : (old new : List (List ℕ)) (text : List ℕ) (n : ℕ) → n ≡ number_in old text → new ≡ with_name old text → slice_get new n ≡ Some text
stored_at old new text n number names = ap (λ ns. slice_get ns n) names ∙ ap (λ k. slice_get (with_name old text) k) number ∙ stored old text

-- names only come at the end
pub names_grow : (names : List (List ℕ)) (text : List ℕ) → Grows names (with_name names text)
names_grow names text = by_case (list_any (bytes_eq text) names)
  where
    by_case : (b : Bool) → Grows names (cond b names (names ++ text ∷ []))
    by_case true = ([], sym (append-nil names))
    by_case false = (text ∷ [], refl)

-- no text has two numbers
any_of : (names : List (List ℕ)) (text : List ℕ) (n : ℕ) → slice_get names n ≡ Some text → list_any (bytes_eq text) names ≡ true
any_of [] text n is = absurd (let bad : None ≡ Some text = is in cc)
any_of (x ∷ xs) text zero is = ap (λ b. b || list_any (bytes_eq text) xs) ((bytes_eq-Decides text x).1 (let same : Some x ≡ Some text = is in let back : x ≡ text = cc in sym back))
any_of (x ∷ xs) text (suc n) is = ap (λ b. bytes_eq text x || b) (any_of xs text n is) ∙ or_true (bytes_eq text x)
  where
    or_true : (b : Bool) → (b || true) ≡ true
    or_true true = refl
    or_true false = refl

-- what stands in a list with one more
record Among (names : List (List ℕ)) (text : List ℕ) (m : ℕ) (found : List ℕ) : Type 0 where
  cases : (slice_get names m ≡ Some found) ⊎ ((m ≡ length names) × (found ≡ text))

among : (names : List (List ℕ)) (text : List ℕ) (m : ℕ) (found : List ℕ) → slice_get (names ++ text ∷ []) m ≡ Some found → Among names text m found
among [] text zero found is = record { cases = inr (refl, (let same : Some text ≡ Some found = is in let back : text ≡ found = cc in sym back)) }
among [] text (suc m) found is = absurd (let bad : None ≡ Some found = is in cc)
among (x ∷ xs) text zero found is = record { cases = inl is }
among (x ∷ xs) text (suc m) found is = elim (among xs text m found is).cases [ inl e ↦ record { cases = inl e } | inr e ↦ record { cases = inr (ap suc e.0, e.1) } ]

pub distinct_more : (names : List (List ℕ)) (text : List ℕ) → IsDistinct names → IsDistinct (with_name names text)
distinct_more names text old = by_case (list_any (bytes_eq text) names) refl
  where
    never : (n : ℕ) (found : List ℕ) → list_any (bytes_eq text) names ≡ false → slice_get names n ≡ Some found → found ≡ text → ⊥
    never n found none is same = let bad : true ≡ false = sym (any_of names text n (is ∙ ap Some same)) ∙ none in cc

    one : list_any (bytes_eq text) names ≡ false → (m n : ℕ) (found : List ℕ) → slice_get (names ++ text ∷ []) m ≡ Some found → slice_get (names ++ text ∷ []) n ≡ Some found → m ≡ n
    one none m n found at_m at_n =
        elim (among names text m found at_m).cases [
          | inl p ↦ elim (among names text n found at_n).cases [ inl q ↦ old.once m n found p q | inr q ↦ absurd (never m found none p q.1) ]
          | inr p ↦ elim (among names text n found at_n).cases [ inl q ↦ absurd (never n found none q p.1) | inr q ↦ p.0 ∙ sym q.0 ]
        ]

    by_case : (b : Bool) → list_any (bytes_eq text) names ≡ b → IsDistinct (cond b names (names ++ text ∷ []))
    by_case true is = old
    by_case false is = record { once = one is }
