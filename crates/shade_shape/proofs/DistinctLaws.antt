-- No name stands twice, one name after another.
use Rattle.std.proofs.Common.{◌≡◌, refl, sym, ap, subst, ◌∙◌, ℕ, zero, suc, ◌+◌, ◌<◌, ◌≤◌, Bool, true, false, ◌||◌, List, [], ◌∷◌, length, get_or, take, drop, map, Some, inl, inr, arith, Ordering}
use Rattle.std.specs.Prelude.{not, slice_get, option_map, if◌then◌else◌}
use Rattle.std.specs.Borrow.{Bor}
use Rattle.std.specs.BTreeMap.{is_at}
use Rattle.std.specs.BTreeSet.{BTreeSet, contains}
use Rattle.std.specs.Cmp.Lexicographic.{slice_cmp}
use Rattle.std.specs.Ordering.{nat_cmp}
use Rattle.std.specs.Str.{bytes_eq}
use Rattle.std.specs.Bool.{Decides}
use Rattle.std.specs.List.{list_any}
use Rattle.std.proofs.lemmas.Bool.{cases_lt}
use Rattle.std.proofs.lemmas.List.{get_or-map, length-map}
use Rattle.std.proofs.lemmas.Map.Text.{is_eq-slice_cmp}
use Rattle.std.proofs.lemmas.Slice.Eq.{bytes_eq-Decides}
use Rattle.std.proofs.lemmas.Option.{slice_get_within, slice_get-get_or, slice_get-map}
use Rattle.std.proofs.lemmas.List.Folds.{list_any_more}
use Rattle.shade_core.specs.HasShape.{AllDiffer}

abbrev Name : Type 0
Name = List ℕ

-- among the first n of a list no two places have one thing
abbrev pub Differ : List Name → ℕ → Type 0
Differ xs n = (i j : ℕ) (x : Name) → i < n → j < n → slice_get xs i ≡ Some x → slice_get xs j ≡ Some x → i ≡ j

-- whether one of the first n is this
abbrev pub has : (Name → Name → Bool) → List Name → ℕ → Name → Bool
has same xs n q = list_any (λ k. same k q) (take n xs)

abbrev pub Tells : (Name → Name → Bool) → Type 0
Tells same = (x y : Name) → Decides (same x y) (x ≡ y)

or_left : (a b : Bool) → (a || b) ≡ false → a ≡ false
or_left false b e = refl
or_left true b e = absurd (cc)

or_right : (a b : Bool) → (a || b) ≡ false → b ≡ false
or_right false b e = e
or_right true b e = absurd (cc)

not_found : (same : Name → Name → Bool) → Tells same → (xs : List Name) (n j : ℕ) (x : Name) → has same xs n x ≡ false → j < n → slice_get xs j ≡ Some x → ⊥
not_found same tells [] n j x e l at = absurd (cc)
not_found same tells (y ∷ xs) zero j x e l at = absurd (omega (arith, l))
not_found same tells (y ∷ xs) (suc n) zero x e l at =
    let equal : y ≡ x = cc in
    let none : same y x ≡ false = or_left (same y x) (has same xs n x) e in
    absurd (let f : true ≡ false = sym ((tells y x).1 equal) ∙ none in cc)
not_found same tells (y ∷ xs) (suc n) (suc j) x e l at = not_found same tells xs n j x (or_right (same y x) (has same xs n x) e) (omega (arith, l)) at

abbrev FoundBefore : List Name → ℕ → Name → Type 0
FoundBefore xs n q = (i : ℕ) × (i < n) × (slice_get xs i ≡ Some q)

found : (same : Name → Name → Bool) → Tells same → (xs : List Name) (n : ℕ) (x : Name) → has same xs n x ≡ true → FoundBefore xs n x
found same tells [] zero x e = absurd (let f : false ≡ true = e in cc)
found same tells [] (suc n) x e = absurd (let f : false ≡ true = e in cc)
found same tells (y ∷ xs) zero x e = absurd (let f : false ≡ true = e in cc)
found same tells (y ∷ xs) (suc n) x e = by_test (same y x) refl e (found same tells xs n x)
  where
    by_test : (b : Bool) → same y x ≡ b → (b || has same xs n x) ≡ true → (has same xs n x ≡ true → FoundBefore xs n x) → FoundBefore (y ∷ xs) (suc n) x
    by_test true t h more = (zero, omega arith, ap Some ((tells y x).0 t))
    by_test false t h more = (let r = more h in (suc r.0, omega (arith, r.1), r.2))

differ_more : (same : Name → Name → Bool) → Tells same → (xs : List Name) (n : ℕ) (x : Name) → n < length xs → slice_get xs n ≡ Some x → has same xs n x ≡ false → Differ xs n → Differ xs (n + 1)
differ_more same tells xs n x lt at new d i j y li lj ai aj = elim (cases_lt i n) [
  | inl l ↦ elim (cases_lt j n) [
    | inl m ↦ d i j y l m ai aj
    | inr m ↦
        let jn : j ≡ n = omega (arith, lj, m) in
        let equal : y ≡ x = (let b : Some y ≡ Some x = sym aj ∙ (ap (slice_get xs) jn ∙ at) in cc) in
        absurd (not_found same tells xs n i x new l (ai ∙ ap Some equal))
  ]
  | inr l ↦
      let in_ : i ≡ n = omega (arith, li, l) in
      elim (cases_lt j n) [
        | inl m ↦
            let equal : y ≡ x = (let b : Some y ≡ Some x = sym ai ∙ (ap (slice_get xs) in_ ∙ at) in cc) in
            absurd (not_found same tells xs n j x new m (aj ∙ ap Some equal))
        | inr m ↦ omega (arith, li, l, lj, m)
      ]
]

old_by : (b added : Bool) → added ≡ not b → added ≡ false → b ≡ true
old_by true added e f = refl
old_by false added e f = absurd (let g : true ≡ false = sym e ∙ f in cc)

new_by : (b added : Bool) → added ≡ not b → added ≡ true → b ≡ false
new_by false added e f = refl
new_by true added e f = absurd (let g : false ≡ true = sym e ∙ f in cc)

-- a name that was not among the first n
pub added_new : (same : Name → Name → Bool) → Tells same → (xs : List Name) (n : ℕ) (x : Name) (known added : Bool) → n < length xs → slice_get xs n ≡ Some x → known ≡ has same xs n x → added ≡ not known → added ≡ true → Differ xs n → Differ xs (n + 1)
added_new same tells xs n x known added lt at k e t d = differ_more same tells xs n x lt at (sym k ∙ new_by known added e t) d

-- a name that was
pub added_old : (same : Name → Name → Bool) → Tells same → (xs : List Name) (n : ℕ) (x : Name) (known added : Bool) → slice_get xs n ≡ Some x → known ≡ has same xs n x → added ≡ not known → added ≡ false → AllDiffer xs → ⊥
added_old same tells xs n x known added at k e t all =
    let f = found same tells xs n x (sym k ∙ old_by known added e t) in
    let same_place : f.0 ≡ n = all f.0 n x f.2 at in omega (arith, f.1, same_place)

pub differ_all : (xs : List Name) (n : ℕ) → length xs ≤ n → Differ xs n → AllDiffer xs
differ_all xs n le d i j x ai aj = d i j x (omega (arith, slice_get_within xs i x ai, le)) (omega (arith, slice_get_within xs j x aj, le)) ai aj

-- what is known of the names with one more
pub has_more : (same : Name → Name → Bool) (names : List Name) (i : ℕ) (d q : Name) (before after here : Bool) → i < length names → before ≡ has same names i q → here ≡ same (get_or names i d) q → after ≡ (if here then true else before) → after ≡ has same names (i + 1) q
has_more same names i d q before after here lt b h a = a ∙ (by_test here before ∙ ((λ j. b j || h j) ∙ sym (list_any_more (λ k. same k q) names i d lt)))
  where
    by_test : (x y : Bool) → (if x then true else y) ≡ (y || x)
    by_test true true = refl
    by_test true false = refl
    by_test false true = refl
    by_test false false = refl

-- a name of a list of other things
pub name_at : {V : Type 0} (f : V → Name) (vs : List V) (i : ℕ) (d : V) → i < length vs → slice_get (map f vs) i ≡ Some (f (get_or vs i d))
name_at f vs i d lt = slice_get-map f vs i ∙ ap (option_map f) (slice_get-get_or vs i d lt)

pub as_many : {V : Type 0} (f : V → Name) (vs : List V) (i : ℕ) → i < length vs → i < length (map f vs)
as_many f vs i lt = omega (arith, lt, length-map vs f)

-- ---- names that are lent

abbrev Lent : Type 0
Lent = Bor (List ℕ)

abbrev by_bytes : Lent → Lent → Ordering
by_bytes x y = slice_cmp nat_cmp x.now y.now

abbrev pub texts : List Lent → List Name
texts names = map (λ n. n.now) names

here_is : (names : List Lent) (n : ℕ) (d x : Lent) → n < length names → x ≡ get_or names n d → slice_get (texts names) n ≡ Some x.now
here_is names n d x lt is = name_at (λ k. k.now) names n d lt ∙ ap (λ k. Some k.now) (sym is)

pub lent_new : (names : List Lent) (n : ℕ) (d x : Lent) (seen : BTreeSet Lent) (added : Bool) → n < length names → x ≡ get_or names n d → added ≡ not (contains by_bytes seen x) → added ≡ true
    → ((q : Lent) → contains by_bytes seen q ≡ has bytes_eq (texts names) n q.now) → Differ (texts names) n → Differ (texts names) (n + 1)
lent_new names n d x seen added lt is e t inv differ =
    added_new bytes_eq bytes_eq-Decides (texts names) n x.now (contains by_bytes seen x) added (as_many (λ k. k.now) names n lt) (here_is names n d x lt is) (inv x) e t differ

pub lent_old : (names : List Lent) (n : ℕ) (d x : Lent) (seen : BTreeSet Lent) (added : Bool) → n < length names → x ≡ get_or names n d → added ≡ not (contains by_bytes seen x) → added ≡ false
    → ((q : Lent) → contains by_bytes seen q ≡ has bytes_eq (texts names) n q.now) → AllDiffer (texts names) → ⊥
lent_old names n d x seen added lt is e t inv = added_old bytes_eq bytes_eq-Decides (texts names) n x.now (contains by_bytes seen x) added (here_is names n d x lt is) (inv x) e t

pub lent_seen : (names : List Lent) (n : ℕ) (d x : Lent) (seen new : BTreeSet Lent) (q : Lent) → n < length names → x ≡ get_or names n d → contains by_bytes new q ≡ (if is_at (by_bytes x) q then true else contains by_bytes seen q)
    → contains by_bytes seen q ≡ has bytes_eq (texts names) n q.now → contains by_bytes new q ≡ has bytes_eq (texts names) (n + 1) q.now
lent_seen names n d x seen new q lt is e inv =
    has_more bytes_eq (texts names) n [] q.now (contains by_bytes seen q) (contains by_bytes new q) (bytes_eq x.now q.now) (as_many (λ k. k.now) names n lt) inv
    (ap (λ m. bytes_eq m q.now) (ap (λ k. k.now) is ∙ sym (get_or-map (λ k. k.now) names n d [] lt)))
    (e ∙ ap (λ b. if b then true else contains by_bytes seen q) (is_eq-slice_cmp x.now q.now))
