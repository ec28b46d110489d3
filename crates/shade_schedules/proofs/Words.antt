-- Memory as words by root keeps the laws.
use Rattle.std.proofs.Common.{◌≡◌, ℕ, zero, suc, ◌+◌, ◌≤◌, ◌<◌, Bool, true, false, not, ◌&&◌, List, [], ◌∷◌, take, drop, Option, Some, None, refl, ap, sym, ◌∙◌, subst, inl, inr, arith}
use Rattle.std.specs.Prelude.{◌==◌, slice_get, slice_set}
use Rattle.std.proofs.lemmas.Bool.{eqb-true, eq-eqb, le-leb, lt-ltb}
use Rattle.shade_schedules.specs.System.{Request, Laws}
use Rattle.shade_schedules.specs.Words.{Space, Workgroup, Storage, Uniform, Spot, Site, Address, words_by, words_of, word_at, covers, read, over, put, written, same_space, same_words, same_spot, unlike_sites, over_words}
use Rattle.shade_schedules.proofs.Lists.{false_true, and_parts, same_number, set_same, set_other}

-- ---- reads

covered : (s : Spot) (w : ℕ) → s.first ≤ w → w < s.first + s.count → covers s (record { root = s.root; word = w }) ≡ true
covered s w low high = rw (eq-eqb s.root s.root refl, le-leb s.first w low, lt-ltb w (s.first + s.count) high) refl

drop_at : (n i : ℕ) (xs : List ℕ) → slice_get (drop n xs) i ≡ slice_get xs (n + i)
drop_at zero i xs = ap (λ k. slice_get xs k) (let e : i ≡ 0 + i = omega arith in e)
drop_at (suc n) i [] = refl
drop_at (suc n) i (x ∷ xs) = drop_at n i xs ∙ ap (λ k. slice_get (x ∷ xs) k) (let e : suc (n + i) ≡ suc n + i = omega arith in e)

take_same : (n : ℕ) (xs ys : List ℕ) → ((i : ℕ) → i < n → slice_get xs i ≡ slice_get ys i) → take n xs ≡ take n ys
take_same zero xs ys h = refl
take_same (suc n) [] [] h = refl
take_same (suc n) [] (y ∷ ys) h = let e : None ≡ Some y = h 0 (omega arith) in let no_one : ⊥ = cc e in absurd no_one
take_same (suc n) (x ∷ xs) [] h = let e : Some x ≡ None = h 0 (omega arith) in let no_one : ⊥ = cc e in absurd no_one
take_same (suc n) (x ∷ xs) (y ∷ ys) h =
    let e : Some x ≡ Some y = h 0 (omega arith) in
    let is : x ≡ y = cc e in
    ap (λ z. z ∷ take n xs) is ∙ ap (λ zs. y ∷ zs) (take_same n xs ys (λ i less. h (suc i) (let k : suc i < suc n = omega (arith, less) in k)))

pub read_same : (m n : List (List ℕ)) (s : Spot) → ((a : Address) → covers s a ≡ true → word_at m a ≡ word_at n a) → read m s ≡ read n s
read_same m n s same =
    take_same s.count (drop s.first (words_of m s.root)) (drop s.first (words_of n s.root))
    (λ i less. drop_at s.first i (words_of m s.root)
    ∙ (same (record { root = s.root; word = s.first + i }) (covered s (s.first + i) (let low : s.first ≤ s.first + i = omega arith in low) (let high : s.first + i < s.first + s.count = omega (arith, less) in high))
    ∙ sym (drop_at s.first i (words_of n s.root))))

-- ---- writes

-- what a write makes of a word
abbrev new_at : ℕ → List (Option ℕ) → ℕ → Option ℕ → Option ℕ
new_at n new w None = None
new_at (suc n) new zero (Some x) = Some x
new_at (suc n) new (suc w) (Some x) = new_at n new w (Some x)
new_at zero [] w (Some x) = Some x
new_at zero (one ∷ new) zero (Some x) = Some (over one x)
new_at zero (one ∷ new) (suc w) (Some x) = new_at zero new w (Some x)

put_at : (n : ℕ) (new : List (Option ℕ)) (xs : List ℕ) (w : ℕ) → slice_get (put n new xs) w ≡ new_at n new w (slice_get xs w)
put_at n new [] w = refl
put_at (suc n) new (x ∷ xs) zero = refl
put_at (suc n) new (x ∷ xs) (suc w) = put_at n new xs w ∙ by (slice_get xs w)
  where
    by : (o : Option ℕ) → new_at n new w o ≡ new_at (suc n) new (suc w) o
    by None = refl
    by (Some y) = refl
put_at zero [] (x ∷ xs) w = by (slice_get (x ∷ xs) w)
  where
    by : (o : Option ℕ) → o ≡ new_at zero [] w o
    by None = refl
    by (Some y) = refl
put_at zero (one ∷ new) (x ∷ xs) zero = refl
put_at zero (one ∷ new) (x ∷ xs) (suc w) = put_at zero new xs w ∙ by (slice_get xs w)
  where
    by : (o : Option ℕ) → new_at zero new w o ≡ new_at zero (one ∷ new) (suc w) o
    by None = refl
    by (Some y) = refl

-- outside of the piece a word stays
new_outside : (n count w : ℕ) (new : List (Option ℕ)) (o : Option ℕ) → (n ≤ w → w < n + count → ⊥) → new_at n (take count new) w o ≡ o
new_outside n count w new None h = refl
new_outside (suc n) count zero new (Some x) h = refl
new_outside (suc n) count (suc w) new (Some x) h = new_outside n count w new (Some x) (λ low high. h (omega (arith, low)) (omega (arith, high)))
new_outside zero zero w new (Some x) h = refl
new_outside zero (suc count) w [] (Some x) h = refl
new_outside zero (suc count) zero (one ∷ new) (Some x) h = absurd (h (omega arith) (omega arith))
new_outside zero (suc count) (suc w) (one ∷ new) (Some x) h = new_outside zero count w new (Some x) (λ low high. h (omega arith) (omega (arith, high)))

-- the words of a root after a write to it
written_there : (m : List (List ℕ)) (s : Spot) (new : List (Option ℕ)) (w : ℕ)
    → word_at (written m s new) (record { root = s.root; word = w }) ≡ new_at s.first (take s.count new) w (word_at m (record { root = s.root; word = w }))
written_there m s new w = by (slice_get m s.root) refl
  where
    by : (o : Option (List ℕ)) → slice_get m s.root ≡ o
        → word_at (written m s new) (record { root = s.root; word = w }) ≡ new_at s.first (take s.count new) w (word_at m (record { root = s.root; word = w }))
    by None e =
        ap (λ o. slice_get (words_by o) w) (no_root m s.root (put s.first (take s.count new) (words_of m s.root)) e)
        ∙ ap (λ o. new_at s.first (take s.count new) w (slice_get (words_by o) w)) (sym e)
      where
        no_root : (xs : List (List ℕ)) (n : ℕ) (x : List ℕ) → slice_get xs n ≡ None → slice_get (slice_set xs n x) n ≡ None
        no_root [] n x e = refl
        no_root (y ∷ xs) zero x e = let no_one : ⊥ = cc e in absurd no_one
        no_root (y ∷ xs) (suc n) x e = no_root xs n x e
    by (Some words) e =
        ap (λ o. slice_get (words_by o) w) (set_same m s.root (put s.first (take s.count new) (words_of m s.root)) e)
        ∙ put_at s.first (take s.count new) (words_of m s.root) w

written_elsewhere : (m : List (List ℕ)) (s : Spot) (new : List (Option ℕ)) (a : Address) → (s.root ≡ a.root → ⊥) → word_at (written m s new) a ≡ word_at m a
written_elsewhere m s new a apart = ap (λ o. slice_get (words_by o) a.word) (set_other m s.root a.root (put s.first (take s.count new) (words_of m s.root)) apart)

pub written_same : (m n : List (List ℕ)) (s : Spot) (new : List (Option ℕ)) (a : Address) → word_at m a ≡ word_at n a → word_at (written m s new) a ≡ word_at (written n s new) a
written_same m n s new a same = elim (same_number s.root a.root) [
  | inl is ↦ at m is ∙ (ap (new_at s.first (take s.count new) a.word) same ∙ sym (at n is))
  | inr apart ↦ written_elsewhere m s new a apart ∙ (same ∙ sym (written_elsewhere n s new a apart))
]
  where
    at : (x : List (List ℕ)) → s.root ≡ a.root → word_at (written x s new) a ≡ new_at s.first (take s.count new) a.word (word_at x a)
    at x is = subst (λ r. word_at (written x s new) (record { root = r; word = a.word }) ≡ new_at s.first (take s.count new) a.word (word_at x (record { root = r; word = a.word }))) is (written_there x s new a.word)

pub written_other : (m : List (List ℕ)) (s : Spot) (new : List (Option ℕ)) (a : Address) → covers s a ≡ false → word_at (written m s new) a ≡ word_at m a
written_other m s new a out = elim (same_number s.root a.root) [
  | inl is ↦ subst (λ r. covers s (record { root = r; word = a.word }) ≡ false → word_at (written m s new) (record { root = r; word = a.word }) ≡ word_at m (record { root = r; word = a.word })) is
      (λ outside. written_there m s new a.word ∙ new_outside s.first s.count a.word new (word_at m (record { root = s.root; word = a.word })) (λ low high. false_true (covers s (record { root = s.root; word = a.word })) outside (covered s a.word low high))) out
  | inr apart ↦ written_elsewhere m s new a apart
]

-- ---- waits

pub same_words_is : (xs ys : List ℕ) → same_words xs ys ≡ true → xs ≡ ys
same_words_is [] [] e = refl
same_words_is [] (y ∷ ys) e = false_true false refl e
same_words_is (x ∷ xs) [] e = false_true false refl e
same_words_is (x ∷ xs) (y ∷ ys) e =
    let parts : ((x == y) ≡ true) × (same_words xs ys ≡ true) = and_parts (x == y) (same_words xs ys) e in
    ap (λ z. z ∷ xs) (eqb-true x y parts.0) ∙ ap (λ zs. y ∷ zs) (same_words_is xs ys parts.1)

pub same_words_refl : (xs : List ℕ) → same_words xs xs ≡ true
same_words_refl [] = refl
same_words_refl (x ∷ xs) = rw (eq-eqb x x refl) (same_words_refl xs)

pub same_space_is : (a b : Space) → same_space a b ≡ true → a ≡ b
same_space_is Workgroup Workgroup e = refl
same_space_is Workgroup Storage e = false_true false refl e
same_space_is Workgroup Uniform e = false_true false refl e
same_space_is Storage Workgroup e = false_true false refl e
same_space_is Storage Storage e = refl
same_space_is Storage Uniform e = false_true false refl e
same_space_is Uniform Workgroup e = false_true false refl e
same_space_is Uniform Storage e = false_true false refl e
same_space_is Uniform Uniform e = refl

pub same_space_refl : (a : Space) → same_space a a ≡ true
same_space_refl Workgroup = refl
same_space_refl Storage = refl
same_space_refl Uniform = refl

pub same_spot_is : (a b : Option Spot) → same_spot a b ≡ true → a ≡ b
same_spot_is None None e = refl
same_spot_is None (Some t) e = false_true false refl e
same_spot_is (Some s) None e = false_true false refl e
same_spot_is (Some s) (Some t) e =
    let p : ((s.root == t.root) ≡ true) × (((s.first == t.first) && (s.count == t.count)) ≡ true) = and_parts (s.root == t.root) ((s.first == t.first) && (s.count == t.count)) e in
    let q : ((s.first == t.first) ≡ true) × ((s.count == t.count) ≡ true) = and_parts (s.first == t.first) (s.count == t.count) p.1 in
    ap (λ r. Some (record { root = r; first = s.first; count = s.count })) (eqb-true s.root t.root p.0)
    ∙ (ap (λ f. Some (record { root = t.root; first = f; count = s.count })) (eqb-true s.first t.first q.0)
    ∙ ap (λ c. Some (record { root = t.root; first = t.first; count = c })) (eqb-true s.count t.count q.1))

pub same_spot_refl : (a : Option Spot) → same_spot a a ≡ true
same_spot_refl None = refl
same_spot_refl (Some s) = rw (eq-eqb s.root s.root refl, eq-eqb s.first s.first refl, eq-eqb s.count s.count refl) refl

not_not : (b : Bool) → not b ≡ false → b ≡ true
not_not true e = refl
not_not false e = false_true true e refl

pub same_site : (a b : Site) → unlike_sites a b ≡ false → a ≡ b
same_site a b e =
    let p : (same_space a.space b.space ≡ true) × ((same_words a.instance b.instance && same_spot a.spot b.spot) ≡ true) = and_parts (same_space a.space b.space) (same_words a.instance b.instance && same_spot a.spot b.spot) (not_not _ e) in
    let q : (same_words a.instance b.instance ≡ true) × (same_spot a.spot b.spot ≡ true) = and_parts (same_words a.instance b.instance) (same_spot a.spot b.spot) p.1 in
    ap (λ x. record { space = x; instance = a.instance; spot = a.spot }) (same_space_is a.space b.space p.0)
    ∙ (ap (λ x. record { space = b.space; instance = x; spot = a.spot }) (same_words_is a.instance b.instance q.0)
    ∙ ap (λ x. record { space = b.space; instance = b.instance; spot = x }) (same_spot_is a.spot b.spot q.1))

pub like_itself : (a : Site) → unlike_sites a a ≡ false
like_itself a = rw (same_space_refl a.space, same_words_refl a.instance, same_spot_refl a.spot) refl

-- words that may not differ are the same
pub stable : (v w : Option ℕ) → ((v ≡ w → ⊥) → ⊥) → v ≡ w
stable None None h = refl
stable None (Some y) h = absurd (h (λ e. cc e))
stable (Some x) None h = absurd (h (λ e. cc e))
stable (Some x) (Some y) h = elim (same_number x y) [ inl is ↦ ap Some is | inr apart ↦ absurd (h (λ e. apart (cc e))) ]

-- Lanes of any kind over such memory keep the laws.
pub words_laws : (State : Type 0) (does : State → Request Spot (List (Option ℕ)) Site) (after : State → List ℕ → State) (is_over : State → Bool) (resumed : Site → State → List ℕ → State) (spaces : List Space)
    → Laws (over_words State does after is_over resumed spaces)
words_laws State does after is_over resumed spaces =
    record { read_same = read_same; written_same = written_same; written_other = written_other; same_site = same_site; like_itself = like_itself; stable = stable }
