-- Values that come from other words, word by word.
use Rattle.std.proofs.Common.{◌≡◌, ℕ, ◌+◌, ◌<◌, ◌≤◌, ◌^◌, ◌⊎◌, inl, inr, List, length, get_or, set, refl, sym, subst, ◌∙◌, arith, below_more, get_or-set_other, get_or-set_same}
use Rattle.shade_words.specs.Lays.{Lay, size, IsLay, decode, Covers, AreFit}
use Rattle.shade_words.specs.Written.{Written, Put}
use Rattle.shade_words.proofs.Layouts.{decode_same, fit_same, covers_within}

-- of the words below number i those that are covered came from a source, and the others are as they should be
pub record Bringing (l : Lay) (source padding : ℕ → ℕ) (old new : List ℕ) (to i : ℕ) : Type 0 where
  pub brought : (j : ℕ) → j < i → Covers l j → get_or new (to + j) 0 ≡ source j
  pub padded : (j : ℕ) → j < i → ¬ Covers l j → get_or new (to + j) 0 ≡ padding j
  pub others : (j : ℕ) → (j < to) ⊎ (to + i ≤ j) → get_or new j 0 ≡ get_or old j 0

pub bringing_begins : (l : Lay) (source padding : ℕ → ℕ) (old : List ℕ) (to : ℕ) → Bringing l source padding old old to 0
bringing_begins l source padding old to = record {
  brought = λ j lt c. absurd (omega (arith, lt));
  padded = λ j lt c. absurd (omega (arith, lt));
  others = λ j side. refl;
}

pub bringing_more : (l : Lay) (source padding : ℕ → ℕ) (old cur : List ℕ) (to i x : ℕ) → Bringing l source padding old cur to i → to + i < length cur
    → (Covers l i → x ≡ source i) → (¬ Covers l i → x ≡ padding i) → Bringing l source padding old (set cur (to + i) x) to (i + 1)
bringing_more l source padding old cur to i x p within here none = record {
  brought = below_more (λ j. Covers l j → get_or (set cur (to + i) x) (to + j) 0 ≡ source j) i
      (λ j h c. get_or-set_other cur (to + i) (to + j) x 0 (omega (arith, h)) ∙ p.brought j h c)
      (λ c. get_or-set_same cur (to + i) x 0 within ∙ here c);
  padded = below_more (λ j. ¬ Covers l j → get_or (set cur (to + i) x) (to + j) 0 ≡ padding j) i
      (λ j h c. get_or-set_other cur (to + i) (to + j) x 0 (omega (arith, h)) ∙ p.padded j h c)
      (λ c. get_or-set_same cur (to + i) x 0 within ∙ none c);
  others = λ j out. elim out [
    | inl h ↦ get_or-set_other cur (to + i) j x 0 (omega (arith, h)) ∙ p.others j (inl h)
    | inr h ↦ get_or-set_other cur (to + i) j x 0 (omega (arith, h)) ∙ p.others j (inr (omega (arith, h)))
  ];
}

-- words that were read are words of 32 bits
pub small_more : (cur : List ℕ) (to i x : ℕ) → ((j : ℕ) → j < i → get_or cur (to + j) 0 < 2 ^ 32) → to + i < length cur → x < 2 ^ 32
    → (j : ℕ) → j < i + 1 → get_or (set cur (to + i) x) (to + j) 0 < 2 ^ 32
small_more cur to i x small within fits =
    below_more (λ j. get_or (set cur (to + i) x) (to + j) 0 < 2 ^ 32) i
    (λ j h. subst (λ y. y < 2 ^ 32) (sym (get_or-set_other cur (to + i) (to + j) x 0 (omega (arith, h)))) (small j h))
    (subst (λ y. y < 2 ^ 32) (sym (get_or-set_same cur (to + i) x 0 within)) fits)

-- the word at the next place is still the one from before
pub ahead : (l : Lay) (source padding : ℕ → ℕ) (old cur : List ℕ) (to i : ℕ) → Bringing l source padding old cur to i → get_or cur (to + i) 0 ≡ get_or old (to + i) 0
ahead l source padding old cur to i p = p.others (to + i) (inr (omega arith))

module _ (l : Lay) (ok : IsLay l) (u : ℕ → ℕ) (from : ℕ) (padding : ℕ → ℕ) (old new : List ℕ) (to : ℕ) (p : Bringing l (λ j. u (from + j)) padding old new to (size l)) where
  brought_value : decode l (λ j. get_or new j 0) to ≡ decode l u from
  brought_value = decode_same l (λ j. get_or new j 0) u to from (λ i c. p.brought i (covers_within l i ok c) c)

  pub brought_fit : AreFit l u from → AreFit l (λ j. get_or new j 0) to
  brought_fit fit = fit_same l u (λ j. get_or new j 0) from to (λ i c. sym (p.brought i (covers_within l i ok c) c)) fit

  pub brought_written : ((i : ℕ) → padding i ≡ 0) → Written l (decode l u from) old new to
  brought_written zero = record { value = brought_value; padding = λ i lt none. p.padded i lt none ∙ zero i; others = p.others }

  pub brought_put : ((i : ℕ) → padding i ≡ get_or old (to + i) 0) → Put l (decode l u from) old new to
  brought_put same = record { value = brought_value; padding = λ i lt none. p.padded i lt none ∙ same i; others = p.others }
