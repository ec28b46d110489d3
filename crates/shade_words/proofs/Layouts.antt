-- A value is told by the words that its layout covers, and a part by the words of the part.
use Rattle.std.proofs.Common.{◌≡◌, ℕ, zero, suc, ◌+◌, ◌*◌, ◌<◌, ◌≤◌, inl, inr, List, [], ◌∷◌, map, length, get_or, refl, sym, ap, subst, ◌∙◌, arith}
use Rattle.std.specs.List.{range_with_len}
use Rattle.std.proofs.lemmas.List.FromFn.{get_or-map-range_with_len, length-map-range_with_len}
use Rattle.shade_values.specs.declared.value.Value.{Value}
use Rattle.shade_values.specs.declared.value.Value.TheVariants as value
use Rattle.shade_values.specs.declared.value.Value.TheViews.{outs-One, outs-Many}
use Rattle.shade_values.specs.Parts.{no_value, parts_of, parts_in, part_at}
use Rattle.shade_words.specs.Lays.{Lay, leaf, row, fields, Fields, no_field, field, size, IsLay, Ascends, decode, decode_fields, leaf_of, Covers, AnyCovers, IsFit, AreFit, AreFieldsFit}
use Rattle.shade_words.specs.Ways.{field_lay, field_offset, field_count, part_lay, part_offset, part_count, IsComposite}

pub range_same : (f g : ℕ → Value) (a n : ℕ) → ((k : ℕ) → k < n → f (a + k) ≡ g (a + k)) → map f (range_with_len a n) ≡ map g (range_with_len a n)
range_same f g a zero h = refl
range_same f g a (suc n) h =
    let here : f a ≡ g a = (let e : a + 0 ≡ a = omega arith in subst (λ x. f x ≡ g x) e (h 0 (omega arith))) in
    let later = range_same f g (a + 1) n (λ k lt. let e : a + suc k ≡ a + 1 + k = omega arith in subst (λ x. f x ≡ g x) e (h (suc k) (omega arith))) in
    λ i. here i ∷ later i

-- word j of part k of a row lies in the row, and a part ends before the next one
pub in_row : (n stride k j e : ℕ) → k < n → j < e → e ≤ stride → k * stride + j < n * stride
in_row n stride k j e lt l le = grind arith

pub row_apart : (i k stride e : ℕ) → i < k → e ≤ stride → i * stride + e ≤ k * stride
row_apart i k stride e lt le = grind arith

-- ---- the words that are covered tell the value

mutual
  pub decode_same : (l : Lay) (u v : ℕ → ℕ) (a b : ℕ) → ((i : ℕ) → Covers l i → u (a + i) ≡ v (b + i)) → decode l u a ≡ decode l v b
  decode_same (leaf s) u v a b h =
      let ea : a + 0 ≡ a = omega arith in
      let eb : b + 0 ≡ b = omega arith in
      ap (λ x. value.One (leaf_of s x)) (ap u (sym ea) ∙ (h 0 refl ∙ ap v eb))
  decode_same (row e n stride) u v a b h =
      ap value.Many (range_same (λ k. decode e u (a + k * stride)) (λ k. decode e v (b + k * stride)) 0 n
      (λ k lt. decode_same e u v (a + (0 + k) * stride) (b + (0 + k) * stride)
      (λ j c. let ea : a + (0 + k) * stride + j ≡ a + (k * stride + j) = omega arith in
      let eb : b + (0 + k) * stride + j ≡ b + (k * stride + j) = omega arith in
      ap u ea ∙ (h (k * stride + j) (k, j, lt, refl, c) ∙ ap v (sym eb)))))
  decode_same (fields words fs) u v a b h = ap value.Many (decode_fields_same fs u v a b h)

  decode_fields_same : (fs : Fields) (u v : ℕ → ℕ) (a b : ℕ) → ((i : ℕ) → AnyCovers fs i → u (a + i) ≡ v (b + i)) → decode_fields fs u a ≡ decode_fields fs v b
  decode_fields_same no_field u v a b h = refl
  decode_fields_same (field offset l fs) u v a b h =
      let first : decode l u (a + offset) ≡ decode l v (b + offset) = decode_same l u v (a + offset) (b + offset)
      (λ j c. let ea : a + offset + j ≡ a + (offset + j) = omega arith in
      let eb : b + offset + j ≡ b + (offset + j) = omega arith in
      ap u ea ∙ (h (offset + j) (inl (j, refl, c)) ∙ ap v (sym eb))) in
      let others = decode_fields_same fs u v a b (λ i c. h i (inr c)) in
      λ i. first i ∷ others i

-- and whether they are those of a value
mutual
  pub fit_same : (l : Lay) (u v : ℕ → ℕ) (a b : ℕ) → ((i : ℕ) → Covers l i → u (a + i) ≡ v (b + i)) → AreFit l u a → AreFit l v b
  fit_same (leaf s) u v a b h fit =
      let ea : a + 0 ≡ a = omega arith in
      let eb : b + 0 ≡ b = omega arith in
      subst (IsFit s) (ap u (sym ea) ∙ (h 0 refl ∙ ap v eb)) fit
  fit_same (row e n stride) u v a b h fit =
      λ k lt. fit_same e u v (a + k * stride) (b + k * stride)
      (λ j c. let ea : a + k * stride + j ≡ a + (k * stride + j) = omega arith in
      let eb : b + k * stride + j ≡ b + (k * stride + j) = omega arith in
      ap u ea ∙ (h (k * stride + j) (k, j, lt, refl, c) ∙ ap v (sym eb))) (fit k lt)
  fit_same (fields words fs) u v a b h fit = fields_fit_same fs u v a b h fit

  fields_fit_same : (fs : Fields) (u v : ℕ → ℕ) (a b : ℕ) → ((i : ℕ) → AnyCovers fs i → u (a + i) ≡ v (b + i)) → AreFieldsFit fs u a → AreFieldsFit fs v b
  fields_fit_same no_field u v a b h fit = tt
  fields_fit_same (field offset l fs) u v a b h fit = (
    fit_same l u v (a + offset) (b + offset)
        (λ j c. let ea : a + offset + j ≡ a + (offset + j) = omega arith in
        let eb : b + offset + j ≡ b + (offset + j) = omega arith in
        ap u ea ∙ (h (offset + j) (inl (j, refl, c)) ∙ ap v (sym eb))) fit.0,
    fields_fit_same fs u v a b (λ i c. h i (inr c)) fit.1,
  )

-- ---- where parts lie

ascends_ends : (from words : ℕ) (fs : Fields) → Ascends from words fs → from ≤ words
ascends_ends from words no_field h = h
ascends_ends from words (field offset l fs) h = omega (arith, h.1, ascends_ends (offset + size l) words fs h.2)

mutual
  pub covers_within : (l : Lay) (i : ℕ) → IsLay l → Covers l i → i < size l
  covers_within (leaf s) i ok c = omega (arith, c)
  covers_within (row e n stride) i ok (k, j, lt, is, c) = omega (arith, is, in_row n stride k j (size e) lt (covers_within e j ok.0 c) ok.1)
  covers_within (fields words fs) i ok c = any_within 0 words fs i ok c

  any_within : (from words : ℕ) (fs : Fields) (i : ℕ) → Ascends from words fs → AnyCovers fs i → i < words
  any_within from words no_field i ok c = absurd c
  any_within from words (field offset l fs) i ok (inl (j, is, c)) =
      omega (arith, is, covers_within l j ok.0 c, ascends_ends (offset + size l) words fs ok.2)
  any_within from words (field offset l fs) i ok (inr c) = any_within (offset + size l) words fs i ok.2 c

field_ends : (from words : ℕ) (fs : Fields) (k : ℕ) → Ascends from words fs → k < field_count fs → field_offset fs k + size (field_lay fs k) ≤ words
field_ends from words no_field k ok lt = absurd (omega (arith, lt))
field_ends from words (field offset l fs) zero ok lt = ascends_ends (offset + size l) words fs ok.2
field_ends from words (field offset l fs) (suc k) ok lt = field_ends (offset + size l) words fs k ok.2 (omega (arith, lt))

field_begins : (from words : ℕ) (fs : Fields) (k : ℕ) → Ascends from words fs → k < field_count fs → from ≤ field_offset fs k
field_begins from words no_field k ok lt = absurd (omega (arith, lt))
field_begins from words (field offset l fs) zero ok lt = ok.1
field_begins from words (field offset l fs) (suc k) ok lt = omega (arith, ok.1, field_begins (offset + size l) words fs k ok.2 (omega (arith, lt)))

pub fields_apart : (from words : ℕ) (fs : Fields) (i k : ℕ) → Ascends from words fs → i < k → k < field_count fs → field_offset fs i + size (field_lay fs i) ≤ field_offset fs k
fields_apart from words no_field i k ok less lt = absurd (omega (arith, lt))
fields_apart from words (field offset l fs) i zero ok less lt = absurd (omega (arith, less))
fields_apart from words (field offset l fs) zero (suc k) ok less lt = field_begins (offset + size l) words fs k ok.2 (omega (arith, lt))
fields_apart from words (field offset l fs) (suc i) (suc k) ok less lt = fields_apart (offset + size l) words fs i k ok.2 (omega (arith, less)) (omega (arith, lt))

pub field_lies : (from words : ℕ) (fs : Fields) (k : ℕ) → Ascends from words fs → IsLay (field_lay fs k)
field_lies from words no_field k ok = omega arith
field_lies from words (field offset l fs) zero ok = ok.0
field_lies from words (field offset l fs) (suc k) ok = field_lies (offset + size l) words fs k ok.2

-- a part lies in the whole, and before the next one
pub part_ends : (l : Lay) (k : ℕ) → IsLay l → k < part_count l → part_offset l k + size (part_lay l k) ≤ size l
part_ends (leaf s) k ok lt = absurd (omega (arith, lt))
part_ends (row e n stride) k ok lt = row_apart k n stride (size e) lt ok.1
part_ends (fields words fs) k ok lt = field_ends 0 words fs k ok lt

pub parts_apart : (l : Lay) (i k : ℕ) → IsLay l → i < k → k < part_count l → part_offset l i + size (part_lay l i) ≤ part_offset l k
parts_apart (leaf s) i k ok less lt = absurd (omega (arith, lt))
parts_apart (row e n stride) i k ok less lt = row_apart i k stride (size e) less ok.1
parts_apart (fields words fs) i k ok less lt = fields_apart 0 words fs i k ok less lt

pub part_lies : (l : Lay) (k : ℕ) → IsLay l → IsLay (part_lay l k)
part_lies (leaf s) k ok = omega arith
part_lies (row e n stride) k ok = ok.0
part_lies (fields words fs) k ok = field_lies 0 words fs k ok

pub field_covers : (fs : Fields) (k j : ℕ) → k < field_count fs → Covers (field_lay fs k) j → AnyCovers fs (field_offset fs k + j)
field_covers no_field k j lt c = absurd (omega (arith, lt))
field_covers (field offset l fs) zero j lt c = inl (j, refl, c)
field_covers (field offset l fs) (suc k) j lt c = inr (field_covers fs k j (omega (arith, lt)) c)

-- what a part covers the whole does
pub part_covers : (l : Lay) (k j : ℕ) → k < part_count l → Covers (part_lay l k) j → Covers l (part_offset l k + j)
part_covers (leaf s) k j lt c = absurd (omega (arith, lt))
part_covers (row e n stride) k j lt c = (k, j, lt, refl, c)
part_covers (fields words fs) k j lt c = field_covers fs k j lt c

-- ---- the parts of a value

pub row_part : (e : Lay) (n stride : ℕ) (w : ℕ → ℕ) (at k : ℕ) (d : Value) → k < n → get_or (map (λ k. decode e w (at + k * stride)) (range_with_len 0 n)) k d ≡ decode e w (at + k * stride)
row_part e n stride w at k d lt = get_or-map-range_with_len (λ k. decode e w (at + k * stride)) 0 n k k d lt (omega arith)

field_part : (fs : Fields) (w : ℕ → ℕ) (at k : ℕ) (d : Value) → k < field_count fs → get_or (decode_fields fs w at) k d ≡ decode (field_lay fs k) w (at + field_offset fs k)
field_part no_field w at k d lt = absurd (omega (arith, lt))
field_part (field offset l fs) w at zero d lt = refl
field_part (field offset l fs) w at (suc k) d lt = field_part fs w at k d (omega (arith, lt))

-- part k of a composite is what stands in its words
pub part_is : (l : Lay) (w : ℕ → ℕ) (at k : ℕ) → k < part_count l → part_at (decode l w at) k ≡ decode (part_lay l k) w (at + part_offset l k)
part_is (leaf s) w at k lt = absurd (omega (arith, lt))
part_is (row e n stride) w at k lt = ap (λ x. get_or (parts_in x) k no_value) (outs-Many _) ∙ row_part e n stride w at k no_value lt
part_is (fields words fs) w at k lt = ap (λ x. get_or (parts_in x) k no_value) (outs-Many _) ∙ field_part fs w at k no_value lt

count_fields : (fs : Fields) (w : ℕ → ℕ) (at : ℕ) → length (decode_fields fs w at) ≡ field_count fs
count_fields no_field w at = refl
count_fields (field offset l fs) w at = ap suc (count_fields fs w at)

pub count_is : (l : Lay) (w : ℕ → ℕ) (at : ℕ) → length (parts_of (decode l w at)) ≡ part_count l
count_is (leaf s) w at = ap (λ x. length (parts_in x)) (outs-One _)
count_is (row e n stride) w at = ap (λ x. length (parts_in x)) (outs-Many _) ∙ length-map-range_with_len (λ k. decode e w (at + k * stride)) 0 n
count_is (fields words fs) w at = ap (λ x. length (parts_in x)) (outs-Many _) ∙ count_fields fs w at

-- a composite is the list of its parts
pub whole_is : (l : Lay) (w : ℕ → ℕ) (at : ℕ) → IsComposite l → decode l w at ≡ value.Many (parts_of (decode l w at))
whole_is (leaf s) w at ok = absurd ok
whole_is (row e n stride) w at ok = ap (λ x. value.Many (parts_in x)) (sym (outs-Many _))
whole_is (fields words fs) w at ok = ap (λ x. value.Many (parts_in x)) (sym (outs-Many _))

pub has_parts : (l : Lay) (k : ℕ) → k < part_count l → IsComposite l
has_parts (leaf s) k lt = absurd (omega (arith, lt))
has_parts (row e n stride) k lt = tt
has_parts (fields words fs) k lt = tt

-- lists with the same items
pub all_same : (xs ys : List Value) → length xs ≡ length ys → ((i : ℕ) → i < length xs → get_or xs i no_value ≡ get_or ys i no_value) → xs ≡ ys
all_same [] [] e h = refl
all_same [] (y ∷ ys) e h = absurd (omega (arith, e))
all_same (x ∷ xs) [] e h = absurd (omega (arith, e))
all_same (x ∷ xs) (y ∷ ys) e h = (let first = h 0 (omega arith) in let rest = all_same xs ys (omega (arith, e)) (λ i l. h (suc i) (omega (arith, l))) in λ j. first j ∷ rest j)

-- what is decoded part by part
pub decode_parts : (l : Lay) (w : ℕ → ℕ) (at : ℕ) (vs : List Value) → IsComposite l → length vs ≡ part_count l
    → ((k : ℕ) → k < part_count l → decode (part_lay l k) w (at + part_offset l k) ≡ get_or vs k no_value) → decode l w at ≡ value.Many vs
decode_parts l w at vs ok long h =
    whole_is l w at ok
    ∙ ap value.Many (all_same (parts_of (decode l w at)) vs (count_is l w at ∙ sym long)
    (λ k lt. part_is l w at k (omega (arith, lt, count_is l w at)) ∙ h k (omega (arith, lt, count_is l w at))))

-- words are those of a value part by part
all_fit : (fs : Fields) (w : ℕ → ℕ) (at : ℕ) → ((k : ℕ) → k < field_count fs → AreFit (field_lay fs k) w (at + field_offset fs k)) → AreFieldsFit fs w at
all_fit no_field w at h = tt
all_fit (field offset l fs) w at h = (h 0 (omega arith), all_fit fs w at (λ k lt. h (suc k) (omega (arith, lt))))

pub fit_parts : (l : Lay) (w : ℕ → ℕ) (at : ℕ) → IsComposite l → ((k : ℕ) → k < part_count l → AreFit (part_lay l k) w (at + part_offset l k)) → AreFit l w at
fit_parts (leaf s) w at ok h = absurd ok
fit_parts (row e n stride) w at ok h = h
fit_parts (fields words fs) w at ok h = all_fit fs w at h

field_fit : (fs : Fields) (w : ℕ → ℕ) (at k : ℕ) → k < field_count fs → AreFieldsFit fs w at → AreFit (field_lay fs k) w (at + field_offset fs k)
field_fit no_field w at k lt h = absurd (omega (arith, lt))
field_fit (field offset l fs) w at zero lt h = h.0
field_fit (field offset l fs) w at (suc k) lt h = field_fit fs w at k (omega (arith, lt)) h.1

pub part_fit : (l : Lay) (w : ℕ → ℕ) (at k : ℕ) → k < part_count l → AreFit l w at → AreFit (part_lay l k) w (at + part_offset l k)
part_fit (leaf s) w at k lt h = absurd (omega (arith, lt))
part_fit (row e n stride) w at k lt h = h k lt
part_fit (fields words fs) w at k lt h = field_fit fs w at k lt h
