-- The words that a touch covers are one part of a row.
use Rattle.std.proofs.Common.{◌≡◌, ℕ, zero, suc, ◌+◌, ◌<◌, ◌≤◌, true, false, ◌&&◌, List, [], ◌∷◌, ◌++◌, map, take, drop, length, refl, ap, sym, ◌∙◌, arith}
use Rattle.std.specs.Prelude.{nat_lt, nat_le}
use borrow.Rule.Slice.PartMut.{mid_of, post_of}
use Rattle.shade_values.specs.declared.touch.Touch.{Touch}
use Rattle.shade_race.specs.declared.cells.Cells.{Cells}
use Rattle.shade_race.specs.History.{covers, noted_words}
use Rattle.shade_race.proofs.WordLaws.{lt_true, and_false}

le_true : (a b : ℕ) → a ≤ b → nat_le a b ≡ true
le_true a b h = grind (arith)

le_false : (a b : ℕ) → b < a → nat_le a b ≡ false
le_false a b h = grind (arith)

lt_not : (a b : ℕ) → b ≤ a → nat_lt a b ≡ false
lt_not a b h = grind (arith)

covers_before : (w : ℕ) (t : Touch) → w < t.first → covers w t ≡ false
covers_before w t h = rw (le_false t.first w h) refl

covers_so : (w : ℕ) (t : Touch) → t.first ≤ w → w < t.first + t.count → covers w t ≡ true
covers_so w t h g = rw (le_true t.first w h, lt_true w (t.first + t.count) g) refl

covers_past : (w : ℕ) (t : Touch) → t.first + t.count ≤ w → covers w t ≡ false
covers_past w t h = ap (λ b. nat_le t.first w && b) (lt_not w (t.first + t.count) h) ∙ and_false (nat_le t.first w)

noted_past : (f : Cells → Cells) (t : Touch) (w : ℕ) (cs : List Cells) → t.first + t.count ≤ w → noted_words f t w cs ≡ cs
noted_past f t w [] h = refl
noted_past f t w (c ∷ cs) h = rw (covers_past w t h, noted_past f t (suc w) cs (omega arith)) refl

noted_within : (f : Cells → Cells) (t : Touch) (w n : ℕ) (cs : List Cells) → t.first ≤ w → w + n ≡ t.first + t.count → noted_words f t w cs ≡ map f (take n cs) ++ drop n cs
noted_within f t w zero cs h e = noted_past f t w cs (omega arith)
noted_within f t w (suc n) [] h e = refl
noted_within f t w (suc n) (c ∷ cs) h e = rw (covers_so w t h (omega arith), noted_within f t (suc w) n cs (omega arith) (omega arith)) refl

noted_before : (f : Cells → Cells) (t : Touch) (w n : ℕ) (cs : List Cells) → w + n ≡ t.first
    → noted_words f t w cs ≡ take n cs ++ (map f (take t.count (drop n cs)) ++ drop t.count (drop n cs))
noted_before f t w zero cs e = noted_within f t w t.count cs (omega arith) (omega arith)
noted_before f t w (suc n) [] e = sym (nothing t.count)
  where
    nothing : (k : ℕ) → map f (take k []) ++ drop k [] ≡ []
    nothing zero = refl
    nothing (suc k) = refl
noted_before f t w (suc n) (c ∷ cs) e = rw (covers_before w t (omega arith), noted_before f t (suc w) n cs (omega arith)) refl

-- a touch changes the words of its range
pub noted_range : (f : Cells → Cells) (t : Touch) (cs : List Cells) → noted_words f t 0 cs ≡ take t.first cs ++ (map f (take t.count (drop t.first cs)) ++ drop t.count (drop t.first cs))
noted_range f t cs = noted_before f t 0 t.first cs (omega arith)

-- what a write to that range leaves
pub range_noted : (f : Cells → Cells) (t : Touch) (k : ℕ) (old now words : List Cells) → k ≡ t.count → now ≡ old → words ≡ map f (mid_of t.first k now)
    → take t.first now ++ (words ++ post_of t.first k now) ≡ noted_words f t 0 old
range_noted f t k old now words few same made =
    ap (λ ws. take t.first now ++ (ws ++ post_of t.first k now)) made
    ∙ ap (λ n. take t.first now ++ (map f (mid_of t.first n now) ++ post_of t.first n now)) few
    ∙ ap (λ xs. take t.first xs ++ (map f (mid_of t.first t.count xs) ++ post_of t.first t.count xs)) same
    ∙ sym (noted_range f t old)

noted_length : (f : Cells → Cells) (t : Touch) (w : ℕ) (cs : List Cells) → length (noted_words f t w cs) ≡ length cs
noted_length f t w [] = refl
noted_length f t w (c ∷ cs) = ap suc (noted_length f t (suc w) cs)

pub range_length : (f : Cells → Cells) (t : Touch) (k n : ℕ) (old now words : List Cells) → k ≡ t.count → now ≡ old → words ≡ map f (mid_of t.first k now) → length now ≡ n
    → length (take t.first now ++ (words ++ post_of t.first k now)) ≡ n
range_length f t k n old now words few same made len =
    ap length (range_noted f t k old now words few same made) ∙ noted_length f t 0 old ∙ ap length (sym same) ∙ len
