-- Sets of numbers: more words, one number more, and all of another set.
use Rattle.std.proofs.Common.{◌≡◌, refl, sym, ap, subst, ◌∙◌, ℕ, zero, suc, ◌+◌, ◌*◌, ◌/◌, ◌%◌, ◌<◌, ◌≤◌, ◌^◌, Bool, true, false, List, [], ◌∷◌, ◌++◌, length, get_or, None, Some, inl, inr, arith}
use Rattle.std.specs.Prelude.{◌⊎◌, ◌≢◌, ◌==◌, slice_get, slice_set, bit_or}
use Rattle.std.specs.Int.{bit_at, w64}
use Rattle.std.proofs.lemmas.Bool.{eqb-true, eq-eqb, cases_lt}
use Rattle.std.proofs.lemmas.Bool.Decides.{eqb_tells}
use Rattle.std.proofs.lemmas.List.{get_or_default, length-set}
use Rattle.std.proofs.lemmas.Option.{get_or_from_slice_get}
use Rattle.std.proofs.lemmas.Nat.Bits.{bit_at_set_same, bit_at_set_other, bit_at-zero, bit_at_or, bit_at-lt}
use Rattle.shade_rules.specs.Sets.{word_at, HasNumber, AddsNumbers, IsGrown}
use Rattle.shade_rules.proofs.GainLaws.{gains_both, gains_as, gains_nothing}

pub false_true : {A : Type 0} → false ≡ true → A
false_true e = let no_one : ⊥ = cc e in absurd no_one

-- ---- bits of a word

-- a bit of a word is there, as a truth
abbrev HasBit : ℕ → ℕ → Type 0
HasBit word bit = (bit_at word bit == 1) ≡ true

bit_one : (word bit : ℕ) → HasBit word bit → bit_at word bit ≡ 1
bit_one word bit h = eqb-true (bit_at word bit) 1 h

one_bit : (word bit : ℕ) → bit_at word bit ≡ 1 → HasBit word bit
one_bit word bit e = eq-eqb (bit_at word bit) 1 e

pub one_here : (word bit result : ℕ) → bit < 64 → result ≡ bit_or word (1 * 2 ^ bit % 2 ^ 64) → bit_at result bit ≡ 1
one_here word bit result low e = rw e (bit_at_set_same w64 word bit low)

pub others_stay : (word bit result : ℕ) → bit < 64 → result ≡ bit_or word (1 * 2 ^ bit % 2 ^ 64) → (other : ℕ) → other ≢ bit → bit_at result other ≡ bit_at word other
others_stay word bit result low e other n = rw e (bit_at_set_other w64 word bit low other n)

or_left : (a b bit : ℕ) → HasBit a bit → HasBit (bit_or a b) bit
or_left a b bit h = one_bit (bit_or a b) bit (let e : bit_at a bit ≡ 1 = bit_one a bit h in omega (arith, bit_at_or a b bit, bit_at-lt b bit, e))

or_right : (a b bit : ℕ) → HasBit b bit → HasBit (bit_or a b) bit
or_right a b bit h = one_bit (bit_or a b) bit (let e : bit_at b bit ≡ 1 = bit_one b bit h in omega (arith, bit_at_or a b bit, bit_at-lt a bit, e))

or_cases : (a b bit : ℕ) → HasBit (bit_or a b) bit → HasBit a bit ⊎ HasBit b bit
or_cases a b bit h = elim (eqb_tells (bit_at a bit) 1) [
  | inl s ↦ inl (one_bit a bit s.1)
  | inr o ↦ inr (one_bit b bit (let e : bit_at (bit_or a b) bit ≡ 1 = bit_one (bit_or a b) bit h in omega (arith, bit_at_or a b bit, bit_at-lt a bit, bit_at-lt b bit, e, o.1)))
]

-- ---- words of a set

word_set_same : (words : List ℕ) (i word : ℕ) → i < length words → word_at (slice_set words i word) i ≡ word
word_set_same [] i word h = absurd (omega (arith, h))
word_set_same (r ∷ words) zero word h = refl
word_set_same (r ∷ words) (suc i) word h = word_set_same words i word (omega (arith, h))

word_set_other : (words : List ℕ) (i j word : ℕ) → i ≢ j → word_at (slice_set words i word) j ≡ word_at words j
word_set_other [] i j word n = refl
word_set_other (r ∷ words) zero zero word n = absurd (n refl)
word_set_other (r ∷ words) zero (suc j) word n = refl
word_set_other (r ∷ words) (suc i) zero word n = refl
word_set_other (r ∷ words) (suc i) (suc j) word n = word_set_other words i j word (λ e. n (ap suc e))

word_push : (words : List ℕ) (k : ℕ) → word_at (words ++ 0 ∷ []) k ≡ word_at words k
word_push [] zero = refl
word_push [] (suc k) = refl
word_push (r ∷ words) zero = refl
word_push (r ∷ words) (suc k) = word_push words k

word_past : (words : List ℕ) (k : ℕ) → length words ≤ k → word_at words k ≡ 0
word_past [] k h = refl
word_past (r ∷ words) zero h = absurd (omega (arith, h))
word_past (r ∷ words) (suc k) h = word_past words k (omega (arith, h))

word_none : (words : List ℕ) (k : ℕ) → slice_get words k ≡ None → word_at words k ≡ 0
word_none [] k e = refl
word_none (r ∷ words) zero e = let no_one : ⊥ = cc e in absurd no_one
word_none (r ∷ words) (suc k) e = word_none words k e

no_bit : (bit : ℕ) → (bit_at 0 bit == 1) ≡ false
no_bit bit = ap (λ b. b == 1) (bit_at-zero bit)

pub has_none : (words : List ℕ) (n : ℕ) → slice_get words (n / 64) ≡ None → false ≡ (bit_at (word_at words (n / 64)) (n % 64) == 1)
has_none words n e = sym (ap (λ w. bit_at w (n % 64) == 1) (word_none words (n / 64) e) ∙ no_bit (n % 64))

pub has_some : (words : List ℕ) (n word : ℕ) (found : Bool) → slice_get words (n / 64) ≡ Some word → found ≡ (bit_at word (n % 64) == 1) → found ≡ (bit_at (word_at words (n / 64)) (n % 64) == 1)
has_some words n word found e is = is ∙ ap (λ w. bit_at w (n % 64) == 1) (sym (get_or_from_slice_get words (n / 64) word 0 e))

-- a set without words has no numbers
pub empty_set : (words : List ℕ) → words ≡ [] → (n : ℕ) → HasNumber words n → ⊥
empty_set words e n h = let found : HasBit 0 (n % 64) = subst (λ (l : List ℕ). HasNumber l n) e h in cc (no_bit (n % 64), found)

number_within : (words : List ℕ) (n : ℕ) → HasNumber words n → n / 64 < length words
number_within words n h = elim (cases_lt (n / 64) (length words)) [
  | inl lt ↦ lt
  | inr ge ↦ let found : HasBit 0 (n % 64) = subst (λ (w : ℕ). HasBit w (n % 64)) (word_past words (n / 64) ge) h in false_true (sym (no_bit (n % 64)) ∙ found)
]

-- ---- more words

pub grown_first : (words : List ℕ) → (k : ℕ) → word_at words k ≡ word_at words k
grown_first words k = refl

pub grown_more : (old words more : List ℕ) → more ≡ words ++ 0 ∷ [] → ((k : ℕ) → word_at words k ≡ word_at old k) → (k : ℕ) → word_at more k ≡ word_at old k
grown_more old words more e same k = ap (λ (l : List ℕ). word_at l k) e ∙ (word_push words k ∙ same k)

-- the same words have the same numbers
grown_gains : (old grown new : List ℕ) (More : ℕ → Type 0) → ((k : ℕ) → word_at grown k ≡ word_at old k) → AddsNumbers grown new More → AddsNumbers old new More
grown_gains old grown new More same g = record {
  from = λ n h. elim (g.from n h) [ inl o ↦ inl (subst (λ (w : ℕ). HasBit w (n % 64)) (same (n / 64)) o) | inr m ↦ inr m ];
  keeps = λ n h. g.keeps n (subst (λ (w : ℕ). HasBit w (n % 64)) (sym (same (n / 64))) h);
  adds = g.adds;
}

-- ---- one word for another

module _ (words : List ℕ) (place row word : ℕ) (within : place < length words) (read : row ≡ get_or words place row) where
  row_is : row ≡ word_at words place
  row_is = read ∙ get_or_default words place row 0 within

  here : (n : ℕ) → n / 64 ≡ place → word_at (slice_set words place word) (n / 64) ≡ word
  here n e = ap (word_at (slice_set words place word)) e ∙ word_set_same words place word within

  row_here : (n : ℕ) → n / 64 ≡ place → row ≡ word_at words (n / 64)
  row_here n e = row_is ∙ ap (word_at words) (sym e)

  there : (n : ℕ) → n / 64 ≢ place → word_at (slice_set words place word) (n / 64) ≡ word_at words (n / 64)
  there n apart = word_set_other words place (n / 64) word (λ e. apart (sym e))

  -- a number of that word, or one of another
  pub word_gains : (More : ℕ → Type 0) → ((n : ℕ) → n / 64 ≡ place → HasBit word (n % 64) → HasBit row (n % 64) ⊎ More n) → ((n : ℕ) → n / 64 ≡ place → HasBit row (n % 64) → HasBit word (n % 64))
      → ((n : ℕ) → More n → (n / 64 ≡ place) × HasBit word (n % 64)) → AddsNumbers words (slice_set words place word) More
  word_gains More split stays adds = record {
    from = λ n h. elim (eqb_tells (n / 64) place) [
      | inl s ↦ elim (split n s.1 (subst (λ (w : ℕ). HasBit w (n % 64)) (here n s.1) h)) [
        | inl old ↦ inl (subst (λ (w : ℕ). HasBit w (n % 64)) (row_here n s.1) old)
        | inr more ↦ inr more
      ]
      | inr o ↦ inl (subst (λ (w : ℕ). HasBit w (n % 64)) (there n o.1) h)
    ];
    keeps = λ n h. elim (eqb_tells (n / 64) place) [
      | inl s ↦ subst (λ (w : ℕ). HasBit w (n % 64)) (sym (here n s.1)) (stays n s.1 (subst (λ (w : ℕ). HasBit w (n % 64)) (sym (row_here n s.1)) h))
      | inr o ↦ subst (λ (w : ℕ). HasBit w (n % 64)) (sym (there n o.1)) h
    ];
    adds = λ n m. (let both : (n / 64 ≡ place) × HasBit word (n % 64) = adds n m in subst (λ (w : ℕ). HasBit w (n % 64)) (sym (here n both.0)) both.1);
  }

-- ---- one number more

same_number : (n m : ℕ) → n / 64 ≡ m / 64 → n % 64 ≡ m % 64 → n ≡ m
same_number n m e g = omega (arith, e, g)

pub inserted : (old grown : List ℕ) (number row word : ℕ) → IsGrown old (number / 64 + 1) grown → row ≡ get_or grown (number / 64) row → bit_at word (number % 64) ≡ 1
    → ((other : ℕ) → other ≢ number % 64 → bit_at word other ≡ bit_at row other) → AddsNumbers old (slice_set grown (number / 64) word) (λ n. n ≡ number)
inserted old grown number row word g read one others =
    grown_gains old grown (slice_set grown (number / 64) word) (λ n. n ≡ number) g.same
    (word_gains grown (number / 64) row word (omega (arith, g.long)) read (λ n. n ≡ number) split stays adds)
  where
    split : (n : ℕ) → n / 64 ≡ number / 64 → HasBit word (n % 64) → HasBit row (n % 64) ⊎ (n ≡ number)
    split n e h = elim (eqb_tells (n % 64) (number % 64)) [
      | inl s ↦ inr (same_number n number e s.1)
      | inr o ↦ inl (one_bit row (n % 64) (sym (others (n % 64) o.1) ∙ bit_one word (n % 64) h))
    ]

    stays : (n : ℕ) → n / 64 ≡ number / 64 → HasBit row (n % 64) → HasBit word (n % 64)
    stays n e h = elim (eqb_tells (n % 64) (number % 64)) [
      | inl s ↦ one_bit word (n % 64) (ap (bit_at word) s.1 ∙ one)
      | inr o ↦ one_bit word (n % 64) (others (n % 64) o.1 ∙ bit_one row (n % 64) h)
    ]

    adds : (n : ℕ) → n ≡ number → (n / 64 ≡ number / 64) × HasBit word (n % 64)
    adds n e = (ap (λ m. m / 64) e, one_bit word (n % 64) (ap (λ m. bit_at word (m % 64)) e ∙ one))

-- ---- all numbers of another set

-- a number of one of the first words
abbrev pub HasBefore : List ℕ → ℕ → ℕ → Type 0
HasBefore others k n = (n / 64 < k) × HasNumber others n

pub joined_first : (words others : List ℕ) → AddsNumbers words words (HasBefore others 0)
joined_first words others = gains_nothing (HasNumber words) (HasBefore others 0) (λ n h. omega (arith, h.0))

pub joined_more : (initial words others : List ℕ) (k row other : ℕ) → k < length words → row ≡ get_or words k row → k < length others → other ≡ get_or others k other → AddsNumbers initial words (HasBefore others k)
    → AddsNumbers initial (slice_set words k (bit_or row other)) (HasBefore others (k + 1))
joined_more initial words others k row other within read lt is g =
    gains_both (HasNumber initial) (HasNumber words) (HasNumber (slice_set words k (bit_or row other))) (HasBefore others k) Here (HasBefore others (k + 1)) g
    (word_gains words k row (bit_or row other) within read Here (λ n e h. split n e (or_cases row other (n % 64) h)) (λ n e h. or_left row other (n % 64) h) (λ n h. (h.0, or_right row other (n % 64) (taken n h.0 h.1))))
    parts (λ n h. (omega (arith, h.0), h.1)) (λ n h. (omega (arith, h.0), h.1))
  where
    Here : ℕ → Type 0
    Here n = (n / 64 ≡ k) × HasNumber others n

    other_is : (n : ℕ) → n / 64 ≡ k → other ≡ word_at others (n / 64)
    other_is n e = is ∙ (get_or_default others k other 0 lt ∙ ap (word_at others) (sym e))

    taken : (n : ℕ) → n / 64 ≡ k → HasNumber others n → HasBit other (n % 64)
    taken n e h = subst (λ (w : ℕ). HasBit w (n % 64)) (sym (other_is n e)) h

    split : (n : ℕ) → n / 64 ≡ k → HasBit row (n % 64) ⊎ HasBit other (n % 64) → HasBit row (n % 64) ⊎ ((n / 64 ≡ k) × HasNumber others n)
    split n e (inl old) = inl old
    split n e (inr new) = inr (e, subst (λ (w : ℕ). HasBit w (n % 64)) (other_is n e) new)

    parts : (n : ℕ) → HasBefore others (k + 1) n → HasBefore others k n ⊎ ((n / 64 ≡ k) × HasNumber others n)
    parts n h = elim (eqb_tells (n / 64) k) [
      | inl s ↦ inr (s.1, h.1)
      | inr o ↦ inl (omega (arith, h.0, o.1), h.1)
    ]

-- the same by the place of a loop
pub joined_next : (initial words others : List ℕ) (place k row : ℕ) → place ≡ k → k < length others → length others ≤ length initial → length words ≡ length initial → row ≡ get_or words place row
    → AddsNumbers initial words (HasBefore others k) → AddsNumbers initial (slice_set words place (bit_or row (word_at others k))) (HasBefore others (k + 1))
joined_next initial words others place k row same lt fits long read g =
    subst (λ (p : ℕ). AddsNumbers initial (slice_set words p (bit_or row (word_at others k))) (HasBefore others (k + 1))) (sym same)
    (joined_more initial words others k row (word_at others k) (omega (arith, lt, fits, long)) (read ∙ ap (λ (p : ℕ). get_or words p row) same) lt (sym (get_or_default others k (word_at others k) 0 lt)) g)

pub joined_long : (words initial : List ℕ) (place word : ℕ) → length words ≡ length initial → length (slice_set words place word) ≡ length initial
joined_long words initial place word long = length-set words place word ∙ long

pub joined_all : (initial words others : List ℕ) (k : ℕ) → length others ≤ k → AddsNumbers initial words (HasBefore others k) → AddsNumbers initial words (HasNumber others)
joined_all initial words others k past g =
    gains_as (HasNumber initial) (HasNumber words) (HasBefore others k) (HasNumber others) g (λ n h. h.1) (λ n h. (let within : n / 64 < length others = number_within others n h in omega (arith, within, past), h))

-- words that are there before that
pub all_joined : (old grown new others : List ℕ) (count : ℕ) → IsGrown old count grown → AddsNumbers grown new (HasNumber others) → AddsNumbers old new (HasNumber others)
all_joined old grown new others count h g = grown_gains old grown new (HasNumber others) h.same g
