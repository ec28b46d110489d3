-- Lists of a job: their items, and what they state one by one.
use Rattle.std.proofs.Common.{◌≡◌, refl, sym, ap, ◌∙◌, ℕ, zero, suc, ◌+◌, ◌<◌, Bool, true, false, List, [], ◌∷◌, ◌++◌, map, length, take, get_or, is_some, Option, Some, None, option_map, arith, add-one, ◌==◌, if◌then◌else◌}
use Rattle.std.proofs.lemmas.Bool.Decides.{nat_tests}
use Rattle.std.proofs.lemmas.List.{get_or-map, length-map, map-append, map_more}
use Rattle.serde_json.specs.Data.{Data}
use Rattle.serde_json.specs.Find.{as_array}
use Rattle.serde_json.specs.View.{items_of}
use Rattle.shade_job.specs.declared.numbers.NumberRange.{NumberRange}
use Rattle.shade_job.specs.Json.{list_of, items_in, number_of, by_ranges, sized_by, PartsAre, NumbersAre, ItemFails}
use Rattle.shade_job.specs.Pointers.{item_pointer}

pub list_of_items : (xs : List Data) → list_of (items_of xs) ≡ xs
list_of_items [] = refl
list_of_items (x ∷ xs) = ap (λ ys. x ∷ ys) (list_of_items xs)

pub items_seen : (d : Data) (xs : List Data) → as_array d ≡ Some (items_of xs) → items_in d ≡ Some xs
items_seen d xs e = ap (λ o. option_map list_of o) e ∙ ap (λ ys. Some ys) (list_of_items xs)

pub items_none : (d : Data) → as_array d ≡ None → items_in d ≡ None
items_none d e = ap (λ o. option_map list_of o) e

-- what the item at a place states
pub stated_at : {A C : Type 0} (see : A → Data) (f : Data → Option C) (xs : List A) (i : ℕ) (x : A) → i < length xs → x ≡ get_or xs i x → get_or (map f (map see xs)) i None ≡ f (see x)
stated_at see f xs i x lt at =
    let seen : i < length (map see xs) = omega (arith, length-map xs see) in
    get_or-map f (map see xs) i (see x) None seen ∙ ap f (get_or-map see xs i x (see x) lt ∙ ap see (sym at))

pub stated_length : {A C : Type 0} (see : A → Data) (f : Data → Option C) (xs : List A) → length (map f (map see xs)) ≡ length xs
stated_length see f xs = length-map (map see xs) f ∙ length-map xs see

pub item_fails : {C : Type 0} (base : List ℕ) (stated : List (Option C)) (i : ℕ) (p : List ℕ) → i < length stated → get_or stated i None ≡ None → ((k : ℕ) → k < i → is_some (get_or stated k None) ≡ true) → p ≡ item_pointer base i → ItemFails base stated p
item_fails base stated i p lt here before is = record { index = i; first = record { within = lt; here = here; before = before }; is = is }

-- ---- by ranges

pub ranges_length : (rs : List NumberRange) (ds : List Data) → length ds ≡ length rs → length (by_ranges rs ds) ≡ length rs
ranges_length [] ds e = refl
ranges_length (r ∷ rs) [] e = absurd (omega arith)
ranges_length (r ∷ rs) (d ∷ ds) e = ap suc (ranges_length rs ds (omega arith))

pub ranges_at : (rs : List NumberRange) (ds : List Data) (i : ℕ) (r : NumberRange) (d : Data) → i < length rs → i < length ds → get_or (by_ranges rs ds) i None ≡ number_of (get_or rs i r) (get_or ds i d)
ranges_at [] ds i r d few fewer = absurd (omega arith)
ranges_at (q ∷ rs) [] i r d few fewer = absurd (omega arith)
ranges_at (q ∷ rs) (x ∷ ds) zero r d few fewer = refl
ranges_at (q ∷ rs) (x ∷ ds) (suc i) r d few fewer = ranges_at rs ds i r d (omega arith) (omega arith)

pub ranges_more : (rs : List NumberRange) (ds : List Data) (i : ℕ) (r : NumberRange) (d : Data) → i < length rs → i < length ds → by_ranges (take (suc i) rs) (take (suc i) ds) ≡ by_ranges (take i rs) (take i ds) ++ number_of (get_or rs i r) (get_or ds i d) ∷ []
ranges_more [] ds i r d few fewer = absurd (omega arith)
ranges_more (q ∷ rs) [] i r d few fewer = absurd (omega arith)
ranges_more (q ∷ rs) (x ∷ ds) zero r d few fewer = refl
ranges_more (q ∷ rs) (x ∷ ds) (suc i) r d few fewer = ap (λ os. number_of q x ∷ os) (ranges_more rs ds i r d (omega arith) (omega arith))

pub ranged_length : {A : Type 0} (see : A → Data) (rs : List NumberRange) (xs : List A) → length xs ≡ length rs → length (by_ranges rs (map see xs)) ≡ length rs
ranged_length see rs xs same = ranges_length rs (map see xs) (length-map xs see ∙ same)

pub ranged_at : {A : Type 0} (see : A → Data) (rs : List NumberRange) (xs : List A) (i : ℕ) (r : NumberRange) (x : A) → i < length rs → length xs ≡ length rs → x ≡ get_or xs i x → get_or (by_ranges rs (map see xs)) i None ≡ number_of (get_or rs i r) (see x)
ranged_at see rs xs i r x lt same at =
    ranges_at rs (map see xs) i r (see x) lt (omega (arith, length-map xs see)) ∙ ap (number_of (get_or rs i r)) (get_or-map see xs i x (see x) (omega arith) ∙ ap see (sym at))

pub ranged_more : {A : Type 0} (see : A → Data) (rs : List NumberRange) (xs : List A) (i : ℕ) (r : NumberRange) (x : A) → i < length rs → length xs ≡ length rs → x ≡ get_or xs i x → by_ranges (take (i + 1) rs) (take (i + 1) (map see xs)) ≡ by_ranges (take i rs) (take i (map see xs)) ++ number_of (get_or rs i r) (see x) ∷ []
ranged_more see rs xs i r x lt same at =
    let seen : get_or (map see xs) i (see x) ≡ see x = get_or-map see xs i x (see x) (omega arith) ∙ ap see (sym at) in
    ap (λ n. by_ranges (take n rs) (take n (map see xs))) (add-one i)
    ∙ (ranges_more rs (map see xs) i r (see x) lt (omega (arith, length-map xs see))
    ∙ ap (λ d. by_ranges (take i rs) (take i (map see xs)) ++ number_of (get_or rs i r) d ∷ []) seen)

-- one more item states a part
pub more_stated : {C : Type 0} (stated : List (Option C)) (parts parts' : List C) (o : Option C) (part : C) → stated ≡ map (λ p. Some p) parts → Some part ≡ o → parts' ≡ parts ++ part ∷ [] → stated ++ o ∷ [] ≡ map (λ p. Some p) parts'
more_stated stated parts parts' o part so_far is grows =
    ap (λ os. os ++ o ∷ []) so_far ∙ (ap (λ q. map (λ p. Some p) parts ++ q ∷ []) (sym is) ∙ (sym (map-append (λ p. Some p) parts (part ∷ [])) ∙ ap (map (λ p. Some p)) (sym grows)))

pub same_number : (m n : ℕ) → (m == n) ≡ true → m ≡ n
same_number m n e = grind (arith, nat_tests)

-- as many numbers as ranges
pub numbers_length : (ranges : List NumberRange) (d : Data) (numbers : List ℕ) → NumbersAre ranges d numbers → length numbers ≡ length ranges
numbers_length ranges d numbers are = of_items (items_in d) are where
  of_sized : (ds : List Data) (b : Bool) → (length ds == length ranges) ≡ b → PartsAre (by_ranges ranges) (if b then Some ds else None) numbers → length numbers ≡ length ranges
  of_sized ds true fits is = sym (length-map numbers (λ (n : ℕ). Some n)) ∙ (sym (ap length is) ∙ ranges_length ranges ds (same_number (length ds) (length ranges) fits))
  of_sized ds false fits is = absurd is

  of_items : (o : Option (List Data)) → PartsAre (by_ranges ranges) (sized_by (λ n. n == length ranges) o) numbers → length numbers ≡ length ranges
  of_items None is = absurd is
  of_items (Some ds) is = of_sized ds (length ds == length ranges) refl is

pub seen_at : {A : Type 0} (see : A → Data) (xs : List A) (i : ℕ) (x : A) (d : Data) → i < length xs → x ≡ get_or xs i x → get_or (map see xs) i d ≡ see x
seen_at see xs i x d lt at = get_or-map see xs i x d lt ∙ ap see (sym at)

pub stated_more : {A C : Type 0} (see : A → Data) (f : Data → Option C) (xs : List A) (i : ℕ) (x : A) → i < length xs → x ≡ get_or xs i x → map f (map see (take (i + 1) xs)) ≡ map f (map see (take i xs)) ++ f (see x) ∷ []
stated_more see f xs i x lt at =
    ap (map f) (map_more see xs i x lt ∙ ap (λ y. map see (take i xs) ++ see y ∷ []) (sym at)) ∙ map-append f (map see (take i xs)) (see x ∷ [])
