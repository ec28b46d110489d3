-- Values that are copied word by word, and composites that are written part by part.
use Rattle.std.proofs.Common.{◌≡◌, ℕ, ◌+◌, ◌-◌, ◌<◌, ◌≤◌, ◌⊎◌, inl, inr, List, length, get_or, set, refl, sym, ap, subst, ◌∙◌, arith, below_more, get_or-set_other, get_or-set_same}
use Rattle.shade_values.specs.declared.value.Value.{Value}
use Rattle.shade_values.specs.declared.value.Value.TheVariants as value
use Rattle.shade_values.specs.Parts.{no_value}
use Rattle.shade_words.specs.Lays.{Lay, size, IsLay, decode, Covers, AreFit}
use Rattle.shade_words.specs.Ways.{part_lay, part_offset, part_count, IsComposite}
use Rattle.shade_words.specs.Written.{Cleared, Written}
use Rattle.shade_words.proofs.Layouts.{decode_same, fit_same, covers_within, part_ends, parts_apart, part_lies, part_covers, decode_parts}
use Rattle.shade_words.proofs.TypeLaws.{lt_or}

-- ---- a copy, word by word

pub record Moving (l : Lay) (old new : List ℕ) (from to i : ℕ) : Type 0 where
  pub copied : (j : ℕ) → j < i → Covers l j → get_or new (to + j) 0 ≡ get_or old (from + j) 0
  pub padding : (j : ℕ) → j < i → ¬ Covers l j → get_or new (to + j) 0 ≡ 0
  pub others : (j : ℕ) → (j < to) ⊎ (to + size l ≤ j) → get_or new j 0 ≡ get_or old j 0

pub moving_begins : (l : Lay) (old : List ℕ) (from to : ℕ) → Moving l old old from to 0
moving_begins l old from to = record {
  copied = λ j lt c. absurd (omega (arith, lt));
  padding = λ j lt c. absurd (omega (arith, lt));
  others = λ j side. refl;
}

pub moving_more : (l : Lay) (old cur : List ℕ) (from to i x : ℕ) → Moving l old cur from to i → i < size l → length cur ≡ length old → to + size l ≤ length old
    → (from + size l ≤ to) ⊎ (to + size l ≤ from) → (Covers l i → x ≡ get_or cur (from + i) 0) → (¬ Covers l i → x ≡ 0) → Moving l old (set cur (to + i) x) from to (i + 1)
moving_more l old cur from to i x p lt same within apart here none = record {
  copied = below_more (λ j. Covers l j → get_or (set cur (to + i) x) (to + j) 0 ≡ get_or old (from + j) 0) i
      (λ j h c. get_or-set_other cur (to + i) (to + j) x 0 (omega (arith, h)) ∙ p.copied j h c)
      (λ c. get_or-set_same cur (to + i) x 0 (omega (arith, lt, same, within)) ∙ (here c ∙ p.others (from + i) (side apart)));
  padding = below_more (λ j. ¬ Covers l j → get_or (set cur (to + i) x) (to + j) 0 ≡ 0) i
      (λ j h c. get_or-set_other cur (to + i) (to + j) x 0 (omega (arith, h)) ∙ p.padding j h c)
      (λ c. get_or-set_same cur (to + i) x 0 (omega (arith, lt, same, within)) ∙ none c);
  others = λ j out. elim out [
    | inl h ↦ get_or-set_other cur (to + i) j x 0 (omega (arith, h)) ∙ p.others j (inl h)
    | inr h ↦ get_or-set_other cur (to + i) j x 0 (omega (arith, h, lt)) ∙ p.others j (inr h)
  ];
}
  where
    side : (from + size l ≤ to) ⊎ (to + size l ≤ from) → (from + i < to) ⊎ (to + size l ≤ from + i)
    side (inl h) = inl (omega (arith, h, lt))
    side (inr h) = inr (omega (arith, h))

pub moved : (l : Lay) (old new : List ℕ) (from to : ℕ) → IsLay l → Moving l old new from to (size l) → Written l (decode l (λ j. get_or old j 0) from) old new to
moved l old new from to ok p = record {
  value = decode_same l (λ j. get_or new j 0) (λ j. get_or old j 0) to from (λ i c. p.copied i (covers_within l i ok c) c);
  padding = p.padding;
  others = p.others;
}

pub moved_fit : (l : Lay) (old new : List ℕ) (from to : ℕ) → IsLay l → Moving l old new from to (size l) → AreFit l (λ j. get_or old j 0) from → AreFit l (λ j. get_or new j 0) to
moved_fit l old new from to ok p fit = fit_same l (λ j. get_or old j 0) (λ j. get_or new j 0) from to (λ i c. sym (p.copied i (covers_within l i ok c) c)) fit

-- a value that stands outside of the words that were written is still the same
pub kept_value : (l : Lay) (old new : List ℕ) (from to count : ℕ) → IsLay l → ((j : ℕ) → (j < to) ⊎ (to + count ≤ j) → get_or new j 0 ≡ get_or old j 0)
    → (from + size l ≤ to) ⊎ (to + count ≤ from) → decode l (λ j. get_or new j 0) from ≡ decode l (λ j. get_or old j 0) from
kept_value l old new from to count ok others apart =
    decode_same l (λ j. get_or new j 0) (λ j. get_or old j 0) from from (λ i c. others (from + i) (side i (covers_within l i ok c) apart))
  where
    side : (i : ℕ) → i < size l → (from + size l ≤ to) ⊎ (to + count ≤ from) → (from + i < to) ⊎ (to + count ≤ from + i)
    side i lt (inl h) = inl (omega (arith, h, lt))
    side i lt (inr h) = inr (omega (arith, h))

pub kept_fit : (l : Lay) (old new : List ℕ) (from to count : ℕ) → IsLay l → ((j : ℕ) → (j < to) ⊎ (to + count ≤ j) → get_or new j 0 ≡ get_or old j 0)
    → (from + size l ≤ to) ⊎ (to + count ≤ from) → AreFit l (λ j. get_or old j 0) from → AreFit l (λ j. get_or new j 0) from
kept_fit l old new from to count ok others apart fit =
    fit_same l (λ j. get_or old j 0) (λ j. get_or new j 0) from from (λ i c. sym (others (from + i) (side i (covers_within l i ok c) apart))) fit
  where
    side : (i : ℕ) → i < size l → (from + size l ≤ to) ⊎ (to + count ≤ from) → (from + i < to) ⊎ (to + count ≤ from + i)
    side i lt (inl h) = inl (omega (arith, h, lt))
    side i lt (inr h) = inr (omega (arith, h))

-- ---- a composite, part by part

-- the parts below number `count` are written, and padding is 0
pub record Filled (l : Lay) (vs : List Value) (count : ℕ) (old new : List ℕ) (at : ℕ) : Type 0 where
  pub parts : (k : ℕ) → k < count → decode (part_lay l k) (λ j. get_or new j 0) (at + part_offset l k) ≡ get_or vs k no_value
  pub padding : (i : ℕ) → i < size l → ¬ Covers l i → get_or new (at + i) 0 ≡ 0
  pub others : (j : ℕ) → (j < at) ⊎ (at + size l ≤ j) → get_or new j 0 ≡ get_or old j 0

pub filled_begins : (l : Lay) (vs : List Value) (old new : List ℕ) (at : ℕ) → Cleared old new at (size l) → Filled l vs 0 old new at
filled_begins l vs old new at h = record {
  parts = λ k lt. absurd (omega (arith, lt));
  padding = λ i lt c. h.cleared i lt;
  others = h.others;
}

-- what was written before stays where a later part is written
module _ (l : Lay) (ok : IsLay l) (k : ℕ) (lt : k < part_count l) (cur new : List ℕ) (at : ℕ)
    (others : (j : ℕ) → (j < at + part_offset l k) ⊎ (at + part_offset l k + size (part_lay l k) ≤ j) → get_or new j 0 ≡ get_or cur j 0) where
  earlier : (i : ℕ) → i < k → (j : ℕ) → Covers (part_lay l i) j → get_or new (at + part_offset l i + j) 0 ≡ get_or cur (at + part_offset l i + j) 0
  earlier i less j c = others (at + part_offset l i + j)
      (inl (omega (arith, covers_within (part_lay l i) j (part_lies l i ok) c, parts_apart l i k ok less lt)))

  pub still : (i : ℕ) → i < k → decode (part_lay l i) (λ j. get_or new j 0) (at + part_offset l i) ≡ decode (part_lay l i) (λ j. get_or cur j 0) (at + part_offset l i)
  still i less = decode_same (part_lay l i) (λ j. get_or new j 0) (λ j. get_or cur j 0) (at + part_offset l i) (at + part_offset l i) (earlier i less)

  pub still_fit : (i : ℕ) → i < k → AreFit (part_lay l i) (λ j. get_or cur j 0) (at + part_offset l i) → AreFit (part_lay l i) (λ j. get_or new j 0) (at + part_offset l i)
  still_fit i less fit =
      fit_same (part_lay l i) (λ j. get_or cur j 0) (λ j. get_or new j 0) (at + part_offset l i) (at + part_offset l i) (λ j c. sym (earlier i less j c)) fit

-- a word lies beside a part, or in it
beside : (at first count i : ℕ) → ((at + i < at + first) ⊎ (at + first + count ≤ at + i)) ⊎ ((j : ℕ) × (i ≡ first + j) × (j < count))
beside at first count i = near (lt_or i first) (lt_or i (first + count))
  where
    near : (i < first) ⊎ (first ≤ i) → (i < first + count) ⊎ (first + count ≤ i) → ((at + i < at + first) ⊎ (at + first + count ≤ at + i)) ⊎ ((j : ℕ) × (i ≡ first + j) × (j < count))
    near (inl h) g = inl (inl (omega (arith, h)))
    near (inr h) (inl g) = inr (i - first, omega (arith, h), omega (arith, h, g))
    near (inr h) (inr g) = inl (inr (omega (arith, g)))

pub filled_more : (l : Lay) (vs : List Value) (v : Value) (k : ℕ) (old cur new : List ℕ) (at : ℕ) → IsLay l → k < part_count l → Filled l vs k old cur at
    → Written (part_lay l k) v cur new (at + part_offset l k) → v ≡ get_or vs k no_value → Filled l vs (k + 1) old new at
filled_more l vs v k old cur new at ok lt p w is = record {
  parts = below_more (λ i. decode (part_lay l i) (λ j. get_or new j 0) (at + part_offset l i) ≡ get_or vs i no_value) k
      (λ i less. still l ok k lt cur new at w.others i less ∙ p.parts i less) (w.value ∙ is);
  padding = λ i less none. pad i less none (beside at (part_offset l k) (size (part_lay l k)) i);
  others = λ j side. w.others j (out j side) ∙ p.others j side;
}
  where
    pad : (i : ℕ) → i < size l → ¬ Covers l i
        → ((at + i < at + part_offset l k) ⊎ (at + part_offset l k + size (part_lay l k) ≤ at + i)) ⊎ ((j : ℕ) × (i ≡ part_offset l k + j) × (j < size (part_lay l k)))
        → get_or new (at + i) 0 ≡ 0
    pad i less none (inl h) = w.others (at + i) h ∙ p.padding i less none
    pad i less none (inr (j, e, short)) =
        let moved_to : at + i ≡ at + part_offset l k + j = omega (arith, e) in
        ap (λ x. get_or new x 0) moved_to ∙ w.padding j short (λ c. none (subst (Covers l) (sym e) (part_covers l k j lt c)))

    out : (j : ℕ) → (j < at) ⊎ (at + size l ≤ j) → (j < at + part_offset l k) ⊎ (at + part_offset l k + size (part_lay l k) ≤ j)
    out j (inl h) = inl (omega (arith, h))
    out j (inr h) = inr (omega (arith, h, part_ends l k ok lt))

pub filled : (l : Lay) (vs : List Value) (old new : List ℕ) (at : ℕ) → IsComposite l → length vs ≡ part_count l → Filled l vs (part_count l) old new at → Written l (value.Many vs) old new at
filled l vs old new at ok long p = record {
  value = decode_parts l (λ j. get_or new j 0) at vs ok long p.parts;
  padding = p.padding;
  others = p.others;
}
