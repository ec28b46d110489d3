-- The words of a value that stands in a row: those that hold its scalars, and no other.
use Rattle.std.proofs.Common.{◌≡◌, ℕ, zero, suc, ◌+◌, ◌-◌, ◌*◌, ◌%◌, ◌<◌, ◌≤◌, ◌^◌, ◌⊎◌, inl, inr, ◌==◌, ◌&&◌, nat_le, nat_lt, Bool, true, false, if◌then◌else◌, Option, Some, None, List, get_or, refl, sym, ap, subst, ◌∙◌, arith}
use Rattle.shade_values.specs.declared.value.Value.{Value}
use Rattle.shade_values.specs.Parts.{own_leaf, part_at}
use Rattle.shade_words.specs.Lays.{Lay, leaf, row, fields, Fields, no_field, field, size, IsLay, Ascends, decode, leaf_of, word_of, Covers, AnyCovers, AreFit, AreFieldsFit, IsConcrete, AreConcrete}
use Rattle.shade_words.specs.Ways.{field_lay, field_offset, field_count}
use Rattle.shade_words.specs.Words.{is_among, or_else, within, of_some, word_in, word_in_field, word_or}
use Rattle.shade_words.specs.Written.{Written, Put}
use Rattle.shade_words.proofs.LeafLaws.{own_one}
use Rattle.shade_words.proofs.Layouts.{part_is, covers_within, row_apart}
use Rattle.shade_words.proofs.TypeLaws.{lt_or}
use Rattle.shade_words.proofs.WordLaws.{back_word}

-- ---- words within a piece

le_true : (a b : ℕ) → a ≤ b → nat_le a b ≡ true
le_true a b h = grind (arith)

le_false : (a b : ℕ) → b < a → nat_le a b ≡ false
le_false a b h = grind (arith)

lt_true : (a b : ℕ) → a < b → nat_lt a b ≡ true
lt_true a b h = grind (arith)

lt_false : (a b : ℕ) → b ≤ a → nat_lt a b ≡ false
lt_false a b h = grind (arith)

and_false : (a : Bool) → (a && false) ≡ false
and_false true = refl
and_false false = refl

pub among_in : (first count i : ℕ) → first ≤ i → i < first + count → is_among first count i ≡ true
among_in first count i a b = rw (le_true first i a, lt_true i (first + count) b) refl

pub among_before : (first count i : ℕ) → i < first → is_among first count i ≡ false
among_before first count i h = rw (le_false first i h) refl

pub among_behind : (first count i : ℕ) → first + count ≤ i → is_among first count i ≡ false
among_behind first count i h = rw (lt_false i (first + count) h) (and_false (nat_le first i))

within_true : (first count : ℕ) (words : ℕ → Option ℕ) (i : ℕ) → is_among first count i ≡ true → within first count words i ≡ words (i - first)
within_true first count words i e = ap (λ b. if b then words (i - first) else None) e

within_false : (first count : ℕ) (words : ℕ → Option ℕ) (i : ℕ) → is_among first count i ≡ false → within first count words i ≡ None
within_false first count words i e = ap (λ b. if b then words (i - first) else None) e

within_at : (first count : ℕ) (words : ℕ → Option ℕ) (j : ℕ) → j < count → within first count words (first + j) ≡ words j
within_at first count words j lt =
    let e : first + j - first ≡ j = omega arith in
    within_true first count words (first + j) (among_in first count (first + j) (omega arith) (omega (arith, lt))) ∙ ap words e

-- where each word of the piece is none
within_none : (first count : ℕ) (words : ℕ → Option ℕ) (i : ℕ) → ((j : ℕ) → i ≡ first + j → j < count → words j ≡ None) → within first count words i ≡ None
within_none first count words i h = by (lt_or i first) (lt_or i (first + count)) where
  by : (i < first) ⊎ (first ≤ i) → (i < first + count) ⊎ (first + count ≤ i) → within first count words i ≡ None
  by (inl less) side = within_false first count words i (among_before first count i less)
  by (inr le) (inr past) = within_false first count words i (among_behind first count i past)
  by (inr le) (inl less) =
      within_true first count words i (among_in first count i le less) ∙ h (i - first) (omega (arith, le)) (omega (arith, le, less))

of_none : (n : ℕ) (gives : ℕ → Option ℕ) → ((k : ℕ) → k < n → gives k ≡ None) → of_some n gives ≡ None
of_none zero gives h = refl
of_none (suc n) gives h = rw (of_none n gives (λ k lt. h k (omega (arith, lt))), h n (omega arith)) refl

of_one : (n : ℕ) (gives : ℕ → Option ℕ) (k x : ℕ) → k < n → gives k ≡ Some x → ((m : ℕ) → m < k → gives m ≡ None) → of_some n gives ≡ Some x
of_one zero gives k x lt e h = absurd (omega (arith, lt))
of_one (suc n) gives k x lt e h = by (lt_or k n) (λ less. of_one n gives k x less e h) where
  last : (m : ℕ) → m ≡ k → or_else (of_some m gives) (gives m) ≡ Some x
  last m same = rw (of_none m gives (λ j less. h j (omega (arith, less, same))), ap gives same, e) refl

  by : (k < n) ⊎ (n ≤ k) → ((k < n) → of_some n gives ≡ Some x) → or_else (of_some n gives) (gives n) ≡ Some x
  by (inl less) earlier = rw (earlier less) refl
  by (inr le) earlier = last n (omega (arith, lt, le))

-- ---- padding is no word

not_zero : (i : ℕ) → (suc i == 0) ≡ false
not_zero i = grind (arith)

mutual
  pub no_word : (l : Lay) (v : Value) (i : ℕ) → ¬ Covers l i → word_in l v i ≡ None
  no_word (leaf s) v zero none = absurd (none refl)
  no_word (leaf s) v (suc i) none = ap (λ b. if b then Some (word_of (own_leaf v)) else None) (not_zero i)
  no_word (row e n stride) v i none =
      of_none n (λ k. within (k * stride) (size e) (word_in e (part_at v k)) i)
      (λ k lt. within_none (k * stride) (size e) (word_in e (part_at v k)) i
      (λ j is less. no_word e (part_at v k) j (λ c. none (k, j, lt, is, c))))
  no_word (fields words fs) v i none = no_field_word fs v 0 i none

  no_field_word : (fs : Fields) (v : Value) (k i : ℕ) → ¬ AnyCovers fs i → word_in_field fs v k i ≡ None
  no_field_word no_field v k i none = refl
  no_field_word (field offset l fs) v k i none =
      let first : within offset (size l) (word_in l (part_at v k)) i ≡ None =
      within_none offset (size l) (word_in l (part_at v k)) i (λ j is less. no_word l (part_at v k) j (λ c. none (inl (j, is, c)))) in
      rw (first, no_field_word fs v (k + 1) i (λ c. none (inr c))) refl

-- ---- a word that is covered

mutual
  pub the_word : (l : Lay) (w : ℕ → ℕ) (at i : ℕ) → IsLay l → IsConcrete l → AreFit l w at → Covers l i → word_in l (decode l w at) i ≡ Some (w (at + i) % 2 ^ 32)
  the_word (leaf s) w at i ok concrete fit c =
      let here : at + i ≡ at = omega (arith, c) in
      let is : word_of (leaf_of s (w at)) ≡ w (at + i) % 2 ^ 32 = back_word s (w at) concrete fit ∙ ap (λ j. w j % 2 ^ 32) (sym here) in
      ap (λ j. word_in (leaf s) (decode (leaf s) w at) j) c ∙ ap Some (ap word_of (own_one (leaf_of s (w at))) ∙ is)
  the_word (row e n stride) w at i ok concrete fit (k, j, lt, is, c) =
      let less : j < size e = covers_within e j ok.0 c in
      let v : Value = decode (row e n stride) w at in
      let gives : ℕ → Option ℕ = λ m. within (m * stride) (size e) (word_in e (part_at v m)) i in
      let part : part_at v k ≡ decode e w (at + k * stride) = part_is (row e n stride) w at k lt in
      let place : w (at + k * stride + j) % 2 ^ 32 ≡ w (at + i) % 2 ^ 32 = (let same : at + k * stride + j ≡ at + i = omega (arith, is) in ap (λ j. w j % 2 ^ 32) same) in
      let here : gives k ≡ Some (w (at + i) % 2 ^ 32) =
      ap (within (k * stride) (size e) (word_in e (part_at v k))) is
      ∙ (within_at (k * stride) (size e) (word_in e (part_at v k)) j less
      ∙ (ap (λ x. word_in e x j) part
      ∙ (the_word e w (at + k * stride) j ok.0 concrete (fit k lt) c ∙ ap Some place))) in
      of_one n gives k (w (at + i) % 2 ^ 32) lt here
      (λ m before. within_false (m * stride) (size e) (word_in e (part_at v m)) i
      (among_behind (m * stride) (size e) i (omega (arith, is, row_apart m k stride (size e) before ok.1))))
  the_word (fields size_of fs) w at i ok concrete fit c =
      field_word fs w at (decode (fields size_of fs) w at) 0 0 size_of i ok concrete fit
      (λ m lt. let same : 0 + m ≡ m = omega arith in ap (part_at (decode (fields size_of fs) w at)) same ∙ part_is (fields size_of fs) w at m lt) c

  field_word : (fs : Fields) (w : ℕ → ℕ) (at : ℕ) (v : Value) (k from end i : ℕ) → Ascends from end fs → AreConcrete fs → AreFieldsFit fs w at
      → ((m : ℕ) → m < field_count fs → part_at v (k + m) ≡ decode (field_lay fs m) w (at + field_offset fs m)) → AnyCovers fs i
      → word_in_field fs v k i ≡ Some (w (at + i) % 2 ^ 32)
  field_word no_field w at v k from end i ok concrete fit parts c = absurd c
  field_word (field offset l fs) w at v k from end i ok concrete fit parts (inl (j, is, c)) =
      let first : k + 0 ≡ k = omega arith in
      let part : part_at v k ≡ decode l w (at + offset) = ap (part_at v) (sym first) ∙ parts 0 (omega arith) in
      let place : w (at + offset + j) % 2 ^ 32 ≡ w (at + i) % 2 ^ 32 = (let same : at + offset + j ≡ at + i = omega (arith, is) in ap (λ j. w j % 2 ^ 32) same) in
      let here : within offset (size l) (word_in l (part_at v k)) i ≡ Some (w (at + i) % 2 ^ 32) =
      ap (within offset (size l) (word_in l (part_at v k))) is
      ∙ (within_at offset (size l) (word_in l (part_at v k)) j (covers_within l j ok.0 c)
      ∙ (ap (λ x. word_in l x j) part
      ∙ (the_word l w (at + offset) j ok.0 concrete.0 fit.0 c ∙ ap Some place))) in
      rw here refl
  field_word (field offset l fs) w at v k from end i ok concrete fit parts (inr c) =
      let behind : offset + size l ≤ i = fields_begin (offset + size l) end fs i ok.2 c in
      let none : within offset (size l) (word_in l (part_at v k)) i ≡ None =
      within_false offset (size l) (word_in l (part_at v k)) i (among_behind offset (size l) i behind) in
      let later : word_in_field fs v (k + 1) i ≡ Some (w (at + i) % 2 ^ 32) =
      field_word fs w at v (k + 1) (offset + size l) end i ok.2 concrete.1 fit.1
      (λ m lt. let next : k + 1 + m ≡ k + suc m = omega arith in ap (part_at v) next ∙ parts (suc m) (omega (arith, lt))) c in
      rw (none, later) refl

  fields_begin : (from end : ℕ) (fs : Fields) (i : ℕ) → Ascends from end fs → AnyCovers fs i → from ≤ i
  fields_begin from end no_field i ok c = absurd c
  fields_begin from end (field offset l fs) i ok (inl (j, is, c)) = omega (arith, is, ok.1)
  fields_begin from end (field offset l fs) i ok (inr c) = omega (arith, ok.1, fields_begin (offset + size l) end fs i ok.2 c)

-- ---- what comes to a place, word by word

stable : (m n : ℕ) → ((m ≡ n → ⊥) → ⊥) → m ≡ n
stable m n h = by (lt_or m n) (lt_or n m) where
  by : (m < n) ⊎ (n ≤ m) → (n < m) ⊎ (m ≤ n) → m ≡ n
  by (inl a) side = absurd (h (λ e. omega (arith, a, e)))
  by (inr a) (inl b) = absurd (h (λ e. omega (arith, b, e)))
  by (inr a) (inr b) = omega (arith, a, b)

-- what holds of a word that is covered, and of one that is not
pub both_ways : (l : Lay) (i x y : ℕ) → (Covers l i → x ≡ y) → (¬ Covers l i → x ≡ y) → x ≡ y
both_ways l i x y covered padding = stable x y (λ ne. ne (padding (λ c. ne (covered c))))

module _ (l : Lay) (ok : IsLay l) (concrete : IsConcrete l) (v : Value) (old new : List ℕ) (at : ℕ) (fit : AreFit l (λ j. get_or new j 0) at) (i : ℕ) where
  value_word : decode l (λ j. get_or new j 0) at ≡ v → Covers l i → word_in l v i ≡ Some (get_or new (at + i) 0 % 2 ^ 32)
  value_word is c = subst (λ x. word_in l x i ≡ Some (get_or new (at + i) 0 % 2 ^ 32)) is (the_word l (λ j. get_or new j 0) at i ok concrete fit c)

  -- padding is 0
  pub written_word : i < size l → Written l v old new at → get_or new (at + i) 0 % 2 ^ 32 ≡ word_or 0 (word_in l v i)
  written_word lt w =
      both_ways l i (get_or new (at + i) 0 % 2 ^ 32) (word_or 0 (word_in l v i))
      (λ c. sym (ap (word_or 0) (value_word w.value c)))
      (λ none. ap (λ x. x % 2 ^ 32) (w.padding i lt none) ∙ sym (ap (word_or 0) (no_word l v i none)))

  -- padding is as it was
  pub put_word : i < size l → Put l v old new at → get_or new (at + i) 0 < 2 ^ 32 → get_or new (at + i) 0 ≡ word_or (get_or old (at + i) 0) (word_in l v i)
  put_word lt w small =
      both_ways l i (get_or new (at + i) 0) (word_or (get_or old (at + i) 0) (word_in l v i))
      (λ c. sym (ap (word_or (get_or old (at + i) 0)) (value_word w.value c) ∙ less (get_or new (at + i) 0) small))
      (λ none. w.padding i lt none ∙ sym (ap (word_or (get_or old (at + i) 0)) (no_word l v i none)))
    where
      less : (n : ℕ) → n < 2 ^ 32 → n % 2 ^ 32 ≡ n
      less n h = omega (arith, h)
