-- The members of a struct, one after another.
use Rattle.std.proofs.Common.{◌≡◌, ℕ, zero, suc, ◌+◌, ◌/◌, ◌<◌, ◌≤◌, ◌⊎◌, inl, inr, List, [], ◌∷◌, length, get_or, drop, refl, sym, ap, subst, ◌∙◌, arith, add-one, drop-cons}
use Rattle.std.specs.Prelude.{◌↔◌}
use Rattle.std.specs.Int.{next_multiple_of}
use Rattle.shade_values.specs.declared.types.Layout.{Layout}
use Rattle.shade_values.specs.declared.types.TypeId.{TypeId}
use Rattle.shade_values.specs.Shape.{Shape, shape_at, member_shapes}
use Rattle.shade_values.specs.Layouts.{layout, layouts, offset_after, end_after}
use Rattle.shade_words.specs.Lays.{Fields, no_field, field, size, Ascends, Covers, AnyCovers}
use Rattle.shade_words.specs.Ways.{field_lay, field_offset, field_count}
use Rattle.shade_words.specs.Types.{lay_of, fields_of}
use Rattle.shade_words.proofs.Layouts.{covers_within, fields_apart, field_lies, field_covers}
use Rattle.shade_words.proofs.TypeLaws.{rounded_up}

-- ---- fields from a number on

abbrev pub drop_fields : ℕ → Fields → Fields
drop_fields zero fs = fs
drop_fields (suc i) no_field = no_field
drop_fields (suc i) (field offset l fs) = drop_fields i fs

abbrev tail : Fields → Fields
tail no_field = no_field
tail (field offset l fs) = fs

drop_offset : (i : ℕ) (fs : Fields) → field_offset (drop_fields i fs) 0 ≡ field_offset fs i
drop_offset zero fs = refl
drop_offset (suc i) no_field = refl
drop_offset (suc i) (field offset l fs) = drop_offset i fs

drop_lay : (i : ℕ) (fs : Fields) → field_lay (drop_fields i fs) 0 ≡ field_lay fs i
drop_lay zero fs = refl
drop_lay (suc i) no_field = refl
drop_lay (suc i) (field offset l fs) = drop_lay i fs

drop_suc : (i : ℕ) (fs : Fields) → drop_fields (suc i) fs ≡ tail (drop_fields i fs)
drop_suc zero no_field = refl
drop_suc zero (field offset l fs) = refl
drop_suc (suc i) no_field = refl
drop_suc (suc i) (field offset l fs) = drop_suc i fs

pub field_past : (fs : Fields) (k : ℕ) → field_count fs ≤ k → 0 ≡ field_offset fs k
field_past no_field k h = refl
field_past (field offset l fs) zero h = absurd (omega (arith, h))
field_past (field offset l fs) (suc k) h = field_past fs k (omega (arith, h))

pub count_members : (known : List Shape) (ms : List (List ℕ × TypeId)) (end : ℕ) → field_count (fields_of end (member_shapes known ms)) ≡ length ms
count_members known [] end = refl
count_members known (m ∷ ms) end =
    ap suc (count_members known ms (offset_after end (layout (shape_at known m.1)) + (layout (shape_at known m.1)).size))

-- ---- a walk over the members

end_grows : (end : ℕ) (ls : List Layout) → end ≤ end_after end ls
end_grows end [] = omega arith
end_grows end (l ∷ ls) = omega (arith, rounded_up end l.align, end_grows (offset_after end l + l.size) ls)

-- the members below number i end at byte `end`
pub record Walking (known : List Shape) (ms : List (List ℕ × TypeId)) (i end : ℕ) : Type 0 where
  pub rest : drop_fields i (fields_of 0 (member_shapes known ms)) ≡ fields_of end (member_shapes known (drop i ms))
  pub ends : end_after end (layouts (member_shapes known (drop i ms))) ≡ end_after 0 (layouts (member_shapes known ms))

pub walking_begins : (known : List Shape) (ms : List (List ℕ × TypeId)) → Walking known ms 0 0
walking_begins known ms = record { rest = refl; ends = refl }

next : (ms : List (List ℕ × TypeId)) (i : ℕ) (m : List ℕ × TypeId) → i < length ms → m ≡ get_or ms i m → drop i ms ≡ m ∷ drop (i + 1) ms
next ms i m h e = rw add-one (drop-cons ms i m h ∙ ap (λ x. x ∷ drop (suc i) ms) (sym e))

module _ (known : List Shape) (ms : List (List ℕ × TypeId)) (i end : ℕ) (m : List ℕ × TypeId) (lt : i < length ms) (is : m ≡ get_or ms i m) (w : Walking known ms i end) where
  rest_is : drop_fields i (fields_of 0 (member_shapes known ms)) ≡ fields_of end (member_shapes known (m ∷ drop (i + 1) ms))
  rest_is = w.rest ∙ ap (λ l. fields_of end (member_shapes known l)) (next ms i m lt is)

  pub member_begins : field_offset (fields_of 0 (member_shapes known ms)) i ≡ offset_after end (layout (shape_at known m.1)) / 4
  member_begins = sym (drop_offset i (fields_of 0 (member_shapes known ms))) ∙ ap (λ fs. field_offset fs 0) rest_is

  pub member_lies : field_lay (fields_of 0 (member_shapes known ms)) i ≡ lay_of (shape_at known m.1)
  member_lies = sym (drop_lay i (fields_of 0 (member_shapes known ms))) ∙ ap (λ fs. field_lay fs 0) rest_is

  pub walking_step : Walking known ms (i + 1) (offset_after end (layout (shape_at known m.1)) + (layout (shape_at known m.1)).size)
  walking_step = record {
    rest = (let e : i + 1 ≡ suc i = omega arith in ap (λ n. drop_fields n (fields_of 0 (member_shapes known ms))) e)
        ∙ (drop_suc i (fields_of 0 (member_shapes known ms)) ∙ ap tail rest_is);
    ends = sym (ap (λ l. end_after end (layouts (member_shapes known l))) (next ms i m lt is)) ∙ w.ends;
  }

  pub member_ends : offset_after end (layout (shape_at known m.1)) + (layout (shape_at known m.1)).size ≤ end_after 0 (layouts (member_shapes known ms))
  member_ends =
      let at = offset_after end (layout (shape_at known m.1)) + (layout (shape_at known m.1)).size in
      omega (arith, end_grows at (layouts (member_shapes known (drop (i + 1) ms))), walking_step.ends)

-- the same of a layout and an offset that were computed
module _ (known : List Shape) (ms : List (List ℕ × TypeId)) (i end : ℕ) (m : List ℕ × TypeId) (x : Layout) (lt : i < length ms) (is : m ≡ get_or ms i m) (w : Walking known ms i end) (x_is : x ≡ layout (shape_at known m.1)) where
  pub next_fits : (total : ℕ) → end_after 0 (layouts (member_shapes known ms)) ≤ total → next_multiple_of end x.align ≤ total
  next_fits total bound =
      let after : next_multiple_of end x.align ≡ offset_after end (layout (shape_at known m.1)) = ap (offset_after end) x_is in
      omega (arith, after, bound, member_ends known ms i end m lt is w)

  module _ (at : ℕ) (at_is : at ≡ next_multiple_of end x.align) where
    after_is : at ≡ offset_after end (layout (shape_at known m.1))
    after_is = at_is ∙ ap (offset_after end) x_is

    end_is : offset_after end (layout (shape_at known m.1)) + (layout (shape_at known m.1)).size ≡ at + x.size
    end_is = (let e : (layout (shape_at known m.1)).size ≡ x.size = ap (λ y. y.size) (sym x_is) in omega (arith, after_is, e))

    pub stepped : Walking known ms (i + 1) (at + x.size)
    stepped = subst (Walking known ms (i + 1)) end_is (walking_step known ms i end m lt is w)

    pub begins_at : field_offset (fields_of 0 (member_shapes known ms)) i ≡ at / 4
    begins_at = member_begins known ms i end m lt is w ∙ ap (λ n. n / 4) (sym after_is)

    pub end_fits : (total : ℕ) → end_after 0 (layouts (member_shapes known ms)) ≤ total → at + x.size ≤ total
    end_fits total bound = omega (arith, end_is, bound, member_ends known ms i end m lt is w)

-- ---- a word of one member

any_part : (fs : Fields) (word : ℕ) → AnyCovers fs word → (k : ℕ) × (j : ℕ) × (k < field_count fs) × (word ≡ field_offset fs k + j) × Covers (field_lay fs k) j
any_part no_field word c = absurd c
any_part (field offset l fs) word (inl (j, is, c)) = (0, j, omega arith, is, c)
any_part (field offset l fs) word (inr c) =
    let p = any_part fs word c in
    (suc p.0, p.1, omega (arith, p.2), p.3, p.4)

-- a word outside of a member
abbrev pub IsOutside : Fields → ℕ → ℕ → Type 0
IsOutside fs word k = (word < field_offset fs k) ⊎ (field_offset fs k + size (field_lay fs k) ≤ word)

apart_or_same : (a b : ℕ) → (a < b) ⊎ (a ≡ b) ⊎ (b < a)
apart_or_same zero zero = inr (inl refl)
apart_or_same zero (suc b) = inl (omega arith)
apart_or_same (suc a) zero = inr (inr (omega arith))
apart_or_same (suc a) (suc b) = elim (apart_or_same a b) as (λ _. (suc a < suc b) ⊎ (suc a ≡ suc b) ⊎ (suc b < suc a)) [
  | inl h ↦ inl (omega (arith, h))
  | inr (inl h) ↦ inr (inl (ap suc h))
  | inr (inr h) ↦ inr (inr (omega (arith, h)))
]

module _ (words : ℕ) (fs : Fields) (ok : Ascends 0 words fs) (word : ℕ) where
  -- a word that is covered lies in the member that covers it
  pub none_covers : ((k : ℕ) → k < field_count fs → IsOutside fs word k) → ¬ AnyCovers fs word
  none_covers outside c =
      let p = any_part fs word c in
      let within = covers_within (field_lay fs p.0) p.1 (field_lies 0 words fs p.0 ok) p.4 in
      elim (outside p.0 p.2) [ inl h ↦ omega (arith, h, p.3) | inr h ↦ omega (arith, h, p.3, within) ]

  pub member_covers : (k j : ℕ) → k < field_count fs → word ≡ field_offset fs k + j → j < size (field_lay fs k) → Covers (field_lay fs k) j ↔ AnyCovers fs word
  member_covers k j lt is less = (there, back)
    where
      there : Covers (field_lay fs k) j → AnyCovers fs word
      there c = subst (AnyCovers fs) (sym is) (field_covers fs k j lt c)

      same : (n i : ℕ) → n < field_count fs → word ≡ field_offset fs n + i → i < size (field_lay fs n) → Covers (field_lay fs n) i → (n < k) ⊎ (n ≡ k) ⊎ (k < n) → Covers (field_lay fs k) j
      same n i low at short c (inl h) = absurd (omega (arith, at, is, short, fields_apart 0 words fs n k ok h lt))
      same n i low at short c (inr (inl h)) =
          let here : field_offset fs n ≡ field_offset fs k = ap (field_offset fs) h in
          let moved : i ≡ j = omega (arith, at, is, here) in
          subst (λ x. Covers (field_lay fs x) j) h (subst (Covers (field_lay fs n)) moved c)
      same n i low at short c (inr (inr h)) = absurd (omega (arith, at, is, less, fields_apart 0 words fs k n ok h low))

      back : AnyCovers fs word → Covers (field_lay fs k) j
      back c =
          let p = any_part fs word c in
          same p.0 p.1 p.2 p.3 (covers_within (field_lay fs p.0) p.1 (field_lies 0 words fs p.0 ok) p.4) p.4 (apart_or_same p.0 k)
