-- The book of what is in force: how it is read, and how it is kept.
use Rattle.std.proofs.Common.{◌≡◌, refl, sym, ap, subst, ◌∙◌, ℕ, zero, suc, ◌<◌, ◌≤◌, Bool, true, false, List, [], ◌∷◌, ◌++◌, get_or, length, length-set, take, Option, Some, None, inl, inr, arith, true≢false}
use Rattle.std.proofs.lemmas.Bool.Decides.{nat_tests}
use Rattle.std.proofs.lemmas.List.{take-append-le}
use Rattle.std.proofs.lemmas.Option.{slice_get_within, slice_get-get_or}
use Rattle.std.proofs.Math.Seq.{take-append_seam}
use Rattle.std.specs.Prelude.{◌⊎◌, ◌==◌, MatchOption, ⊤, replicate, slice_get, slice_set}
use Rattle.shade_reach.proofs.SearchLaws.{get-append_left, get-set_other}
use Rattle.shade_scope.specs.declared.bound.Bound.{Bound}
use Rattle.shade_scope.specs.declared.scopes.Kept.{Kept}
use Rattle.shade_scope.specs.InForce.{InForce, without_last}
use Rattle.shade_scope.specs.Scopes.{closed, last_or, newest, or_else, one_if}
use Rattle.shade_scope.specs.Index.{later, last_at, bounds_of, bound_of, nth, IsIndexed}

abbrev opened_at : List ℕ → List Bound → InForce
opened_at starts bounds = record { opened = starts; bounds = bounds }

-- ---- how it is read

abbrev pub Found : List Kept → ℕ → Type 0
Found ks name =
    ((last_at ks name ≡ None) × (newest (bounds_of ks) name ≡ None))
    ⊎ ((m : ℕ) × (k : Kept) × (last_at ks name ≡ Some m) × (slice_get ks m ≡ Some k) × (newest (bounds_of ks) name ≡ Some k.bound))

one_on : (x : Kept) (xs : List Kept) (name : ℕ) (b : Bool) → (x.bound.name == name) ≡ b → Found xs name → Found (x ∷ xs) name
one_on x xs name true e (inl z) =
    inr (
      0,
      x,
      ap (λ n. later n (x.bound.name == name)) z.0 ∙ ap (later None) e,
      refl,
      ap (λ o. or_else o (one_if (x.bound.name == name) x.bound)) z.1 ∙ ap (λ b. or_else None (one_if b x.bound)) e,
    )
one_on x xs name false e (inl z) =
    inl (
      ap (λ n. later n (x.bound.name == name)) z.0 ∙ ap (later None) e,
      ap (λ o. or_else o (one_if (x.bound.name == name) x.bound)) z.1 ∙ ap (λ b. or_else None (one_if b x.bound)) e,
    )
one_on x xs name b e (inr s) =
    inr (suc s.0, s.1, ap (λ n. later n (x.bound.name == name)) s.2, s.3, ap (λ o. or_else o (one_if (x.bound.name == name) x.bound)) s.4)

find : (ks : List Kept) (name : ℕ) → Found ks name
find [] name = inl (refl, refl)
find (x ∷ xs) name = one_on x xs name (x.bound.name == name) refl (find xs name)

read_by : (ks : List Kept) (name : ℕ) → Found ks name → newest (bounds_of ks) name ≡ nth ks (last_at ks name)
read_by ks name (inl z) = z.1 ∙ sym (ap (nth ks) z.0)
read_by ks name (inr s) = s.4 ∙ sym (ap (nth ks) s.2 ∙ ap bound_of s.3)

pub read : (ks : List Kept) (last : List (Option ℕ)) (name : ℕ) (at : Option ℕ) → IsIndexed ks last → slice_get last name ≡ Some at → newest (bounds_of ks) name ≡ nth ks at
read ks last name at is e = read_by ks name (find ks name) ∙ ap (nth ks) (sym (is.newest name at e))

-- ---- how it is kept

hit : (ks : List Kept) (k : Kept) (name : ℕ) → (k.bound.name == name) ≡ true → last_at (ks ++ k ∷ []) name ≡ Some (length ks)
hit [] k name e = ap (later None) e
hit (x ∷ xs) k name e = ap (λ n. later n (x.bound.name == name)) (hit xs k name e)

miss : (ks : List Kept) (k : Kept) (name : ℕ) → (k.bound.name == name) ≡ false → last_at (ks ++ k ∷ []) name ≡ last_at ks name
miss [] k name e = ap (later None) e
miss (x ∷ xs) k name e = ap (λ n. later n (x.bound.name == name)) (miss xs k name e)

same_of : (m n : ℕ) → (m == n) ≡ true → m ≡ n
same_of m n e = grind (arith, nat_tests)

other_of : (m n : ℕ) → (m == n) ≡ false → m ≡ n → ⊥
other_of m n e s =
    let t : (m == n) ≡ true = grind (arith, nat_tests) in
    true≢false (sym t ∙ e)

seam : (ks : List Kept) (k : Kept) → slice_get (ks ++ k ∷ []) (length ks) ≡ Some k
seam [] k = refl
seam (x ∷ xs) k = seam xs k

some_one : {A : Type 0} → (x y : A) → Some x ≡ Some y → x ≡ y
some_one x y e = cc

-- a name of the table is set
set_gives : (last : List (Option ℕ)) (n : ℕ) (b at : Option ℕ) → slice_get (slice_set last n b) n ≡ Some at → b ≡ at
set_gives [] n b at e = cc
set_gives (x ∷ xs) zero b at e = cc
set_gives (x ∷ xs) (suc n) b at e = set_gives xs n b at e

pub popped : (ks : List Kept) (k : Kept) (last : List (Option ℕ)) → IsIndexed (ks ++ k ∷ []) last → IsIndexed ks (slice_set last k.bound.name k.before)
popped ks k last is = record {
  newest = λ name at e. by_name name at (k.bound.name == name) refl e;
  before = λ i x e lt.
      let le : i ≤ length ks = omega (arith, slice_get_within ks i x e) in
      is.before i x (get-append_left ks (k ∷ []) i x e) (rw length-set at lt) ∙ ap (λ l. last_at l x.bound.name) (take-append-le i ks (k ∷ []) le);
}
  where
    inside : (name : ℕ) (at : Option ℕ) → slice_get (slice_set last name k.before) name ≡ Some at → name < length last
    inside name at e =
        let lt : name < length (slice_set last name k.before) = slice_get_within {A = Option ℕ} (slice_set last name k.before) name at e in
        rw length-set at lt

    by_name : (name : ℕ) (at : Option ℕ) (b : Bool) → (k.bound.name == name) ≡ b → slice_get (slice_set last k.bound.name k.before) name ≡ Some at → at ≡ last_at ks name
    by_name name at true h e =
        let same : k.bound.name ≡ name = same_of k.bound.name name h in
        let e_k : slice_get (slice_set last k.bound.name k.before) k.bound.name ≡ Some at = subst (λ (x : ℕ). slice_get (slice_set last k.bound.name k.before) x ≡ Some at) (sym same) e in
        sym (set_gives last k.bound.name k.before at e_k)
        ∙ is.before (length ks) k (seam ks k) (inside k.bound.name at e_k)
        ∙ ap (λ l. last_at l k.bound.name) (take-append_seam ks (k ∷ [])) ∙ ap (last_at ks) same
    by_name name at false h e = is.newest name at (sym (get-set_other last k.bound.name name k.before (other_of k.bound.name name h)) ∙ e) ∙ miss ks k name h

further : (y : Kept) (ys : List Kept) (k x : Kept) (i : ℕ) → (slice_get ys i ≡ Some x) ⊎ ((i ≡ length ys) × (k ≡ x)) → (slice_get (y ∷ ys) (suc i) ≡ Some x) ⊎ ((suc i ≡ length (y ∷ ys)) × (k ≡ x))
further y ys k x i (inl h) = inl h
further y ys k x i (inr h) = inr (ap suc h.0, h.1)

split_at : (ks : List Kept) (k x : Kept) (i : ℕ) → slice_get (ks ++ k ∷ []) i ≡ Some x → (slice_get ks i ≡ Some x) ⊎ ((i ≡ length ks) × (k ≡ x))
split_at [] k x zero e = inr (refl, some_one k x e)
split_at [] k x (suc i) e = absurd cc
split_at (y ∷ ys) k x zero e = inl e
split_at (y ∷ ys) k x (suc i) e = further y ys k x i (split_at ys k x i e)

pub pushed : (ks : List Kept) (k : Kept) (last : List (Option ℕ)) → IsIndexed ks last → (k.bound.name < length last → k.before ≡ last_at ks k.bound.name)
    → IsIndexed (ks ++ k ∷ []) (slice_set last k.bound.name (Some (length ks)))
pushed ks k last is own = record {
  newest = λ name at e. by_name name at (k.bound.name == name) refl e;
  before = λ i x e lt. by_place i x (split_at ks k x i e) (rw length-set at lt);
}
  where
    by_name : (name : ℕ) (at : Option ℕ) (b : Bool) → (k.bound.name == name) ≡ b → slice_get (slice_set last k.bound.name (Some (length ks))) name ≡ Some at → at ≡ last_at (ks ++ k ∷ []) name
    by_name name at true h e =
        let same : k.bound.name ≡ name = same_of k.bound.name name h in
        let e_k : slice_get (slice_set last k.bound.name (Some (length ks))) k.bound.name ≡ Some at = subst (λ (x : ℕ). slice_get (slice_set last k.bound.name (Some (length ks))) x ≡ Some at) (sym same) e in
        sym (set_gives last k.bound.name (Some (length ks)) at e_k) ∙ sym (hit ks k name h)
    by_name name at false h e =
        is.newest name at (sym (get-set_other last k.bound.name name (Some (length ks)) (other_of k.bound.name name h)) ∙ e) ∙ sym (miss ks k name h)

    by_place : (i : ℕ) (x : Kept) → (slice_get ks i ≡ Some x) ⊎ ((i ≡ length ks) × (k ≡ x)) → x.bound.name < length last → x.before ≡ last_at (take i (ks ++ k ∷ [])) x.bound.name
    by_place i x (inl e) lt =
        let le : i ≤ length ks = omega (arith, slice_get_within ks i x e) in
        is.before i x e lt ∙ ap (λ l. last_at l x.bound.name) (sym (take-append-le i ks (k ∷ []) le))
    by_place i x (inr s) lt =
        subst (λ (y : Kept). y.before ≡ last_at (take i (ks ++ k ∷ [])) y.bound.name) s.1
        (own (subst (λ (y : Kept). y.bound.name < length last) (sym s.1) lt)
        ∙ ap (λ l. last_at l k.bound.name) (sym (ap (λ n. take n (ks ++ k ∷ [])) s.0 ∙ take-append_seam ks (k ∷ []))))

blank_at : (n name : ℕ) (at : Option ℕ) → slice_get (replicate n None) name ≡ Some at → at ≡ None
blank_at zero name at e = absurd cc
blank_at (suc n) zero at e = sym (some_one None at e)
blank_at (suc n) (suc name) at e = blank_at n name at e

no_kept : (i : ℕ) (k : Kept) → slice_get [] i ≡ Some k → ⊥
no_kept i k e = cc

-- nothing in force
pub nothing : (n : ℕ) (last : List (Option ℕ)) → last ≡ replicate n None → IsIndexed [] last
nothing n last is = record {
  newest = λ name at e. blank_at n name at (sym (ap (λ l. slice_get l name) is) ∙ e);
  before = λ i k e lt. absurd (no_kept i k e);
}

-- ---- the code's steps

own_by : (ks : List Kept) (last : List (Option ℕ)) (name : ℕ) (before : Option ℕ) → IsIndexed ks last → MatchOption (slice_get last name) ⊤ (λ at. before ≡ at) → name < length last → before ≡ last_at ks name
own_by ks last name before is m lt =
    let e : slice_get last name ≡ Some (get_or last name None) = slice_get-get_or last name None lt in
    let same : before ≡ get_or last name None = subst (λ (o : Option (Option ℕ)). MatchOption o ⊤ (λ at. before ≡ at)) e m in
    same ∙ is.newest name (get_or last name None) e

pub kept_more : (ks new : List Kept) (bound : Bound) (before : Option ℕ) (seen last more : List (Option ℕ)) (n : ℕ) → IsIndexed ks last → seen ≡ last
    → MatchOption (slice_get seen bound.name) ⊤ (λ at. before ≡ at) → new ≡ ks ++ record { bound = bound; before = before } ∷ [] → n ≡ length ks
    → more ≡ slice_set last bound.name (Some n) → IsIndexed new more
kept_more ks new bound before seen last more n is is_seen m is_new is_n is_more =
    let k : Kept = record { bound = bound; before = before } in
    let own : MatchOption (slice_get last bound.name) ⊤ (λ at. before ≡ at) = subst (λ (l : List (Option ℕ)). MatchOption (slice_get l bound.name) ⊤ (λ at. before ≡ at)) is_seen m in
    let both : IsIndexed (ks ++ k ∷ []) (slice_set last bound.name (Some (length ks))) = pushed ks k last is (own_by ks last bound.name before is own) in
    let same : slice_set last bound.name (Some (length ks)) ≡ more = sym (is_more ∙ ap (λ x. slice_set last bound.name (Some x)) is_n) in
    subst (λ (l : List (Option ℕ)). IsIndexed new l) same (subst (λ (l : List Kept). IsIndexed l (slice_set last bound.name (Some (length ks)))) (sym is_new) both)

pub kept_less : (old new : List Kept) (k : Kept) (last more : List (Option ℕ)) → IsIndexed old last → old ≡ new ++ k ∷ [] → more ≡ slice_set last k.bound.name k.before → IsIndexed new more
kept_less old new k last more is is_old is_more =
    subst (λ (l : List (Option ℕ)). IsIndexed new l) (sym is_more) (popped new k last (subst (λ (l : List Kept). IsIndexed l last) is_old is))

pub kept_same : (old new : List Kept) (last : List (Option ℕ)) → new ≡ old → IsIndexed old last → IsIndexed new last
kept_same old new last e is = subst (λ (l : List Kept). IsIndexed l last) (sym e) is

pub mapped_more : (ks new : List Kept) (k : Kept) → new ≡ ks ++ k ∷ [] → bounds_of new ≡ bounds_of ks ++ k.bound ∷ []
mapped_more ks new k e = ap bounds_of e ∙ more ks
  where
    more : (xs : List Kept) → bounds_of (xs ++ k ∷ []) ≡ bounds_of xs ++ k.bound ∷ []
    more [] = refl
    more (x ∷ xs) = ap (λ l. x.bound ∷ l) (more xs)

take_mapped : (n : ℕ) (ks : List Kept) → bounds_of (take n ks) ≡ take n (bounds_of ks)
take_mapped zero ks = refl
take_mapped (suc n) [] = refl
take_mapped (suc n) (k ∷ ks) = ap (λ l. k.bound ∷ l) (take_mapped n ks)

pub closed_by : (starts rest : List ℕ) (kept left : List Kept) (n : ℕ) → rest ≡ without_last starts → ((d : ℕ) → last_or d starts ≡ n) → left ≡ take n kept
    → opened_at rest (bounds_of left) ≡ closed (opened_at starts (bounds_of kept))
closed_by starts rest kept left n is_rest is_last is_left =
    ap (λ r. opened_at r (bounds_of left)) is_rest
    ∙ ap (opened_at (without_last starts)) (ap bounds_of is_left ∙ take_mapped n kept ∙ ap (λ m. take m (bounds_of kept)) (sym (is_last (length (bounds_of kept)))))
