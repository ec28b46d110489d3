-- An array or a struct that is made of its parts.
use Rattle.std.proofs.Common.{◌≡◌, ℕ, ◌+◌, ◌<◌, ◌≤◌, ◌⊎◌, inl, inr, List, length, get_or, sym, ap, subst, ◌∙◌, arith, below_more}
use Rattle.std.specs.Prelude.{All}
use Rattle.std.proofs.lemmas.List.{get_or-map, length-map}
use Rattle.std.proofs.lemmas.Option.{slice_get-get_or}
use Rattle.shade_values.specs.declared.value.Value.TheVariants as value
use Rattle.shade_values.specs.Parts.{no_value}
use Rattle.shade_values.specs.Sound.{IsSound}
use Rattle.shade_values.specs.Table.{Table}
use Rattle.shade_words.specs.declared.span.WordSpan.{WordSpan}
use Rattle.shade_words.specs.Lays.{size, IsLay, AreFit}
use Rattle.shade_words.specs.Types.{lay}
use Rattle.shade_words.specs.Ways.{part_lay, part_offset, part_count}
use Rattle.shade_words.specs.Spans.{CanMake, IsFitSpan, value_of, values_of}
use Rattle.shade_words.specs.Written.{Written}
use Rattle.shade_words.proofs.CopyLaws.{Filled, filled, filled_more, still_fit, kept_value, kept_fit}
use Rattle.shade_words.proofs.Layouts.{part_ends}
use Rattle.shade_words.proofs.TypeLaws.{lay_lies}

module _ (t : Table) (sound : IsSound t) (args : List WordSpan) (long : ℕ) (place : WordSpan) (can : CanMake t args long place) (k : ℕ) (d : WordSpan) (lt : k < length args) where
  pub part_in : k < part_count (lay t place.ty)
  part_in = omega (arith, lt, can.count)

  pub part_same : lay t (get_or args k d).ty ≡ part_lay (lay t place.ty) k
  part_same = can.parts k (get_or args k d) (slice_get-get_or args k d lt)

  lies : IsLay (lay t place.ty)
  lies = (lay_lies t sound place.ty).lies

  -- where the part goes lies in the place
  pub part_within : part_offset (lay t place.ty) k + size (lay t (get_or args k d).ty) ≤ place.count
  part_within = omega (arith, part_ends (lay t place.ty) k lies part_in, ap size part_same, can.place.sized)

  -- and does not meet the argument
  pub part_apart : (offset : ℕ) → offset ≡ part_offset (lay t place.ty) k
      → ((get_or args k d).first + size (lay t (get_or args k d).ty) ≤ place.first + offset) ⊎ (place.first + offset + size (lay t (get_or args k d).ty) ≤ (get_or args k d).first)
  part_apart offset is = side (can.apart k d lt)
    where
      side : ((get_or args k d).first + (get_or args k d).count ≤ place.first) ⊎ (place.first + place.count ≤ (get_or args k d).first)
          → ((get_or args k d).first + size (lay t (get_or args k d).ty) ≤ place.first + offset) ⊎ (place.first + offset + size (lay t (get_or args k d).ty) ≤ (get_or args k d).first)
      side (inl h) = inl (omega (arith, h, (can.spans k d lt).sized))
      side (inr h) = inr (omega (arith, h, is, part_within))

  -- the argument's words are not the place's
  clear_of : ((get_or args k d).first + size (lay t (get_or args k d).ty) ≤ place.first) ⊎ (place.first + size (lay t place.ty) ≤ (get_or args k d).first)
  clear_of = side (can.apart k d lt)
    where
      side : ((get_or args k d).first + (get_or args k d).count ≤ place.first) ⊎ (place.first + place.count ≤ (get_or args k d).first)
          → ((get_or args k d).first + size (lay t (get_or args k d).ty) ≤ place.first) ⊎ (place.first + size (lay t place.ty) ≤ (get_or args k d).first)
      side (inl h) = inl (omega (arith, h, (can.spans k d lt).sized))
      side (inr h) = inr (omega (arith, h, can.place.sized))

  module _ (old cur new : List ℕ) (offset : ℕ) (is : offset ≡ part_offset (lay t place.ty) k) (p : Filled (lay t place.ty) (values_of t (λ j. get_or old j 0) args) k old cur place.first)
      (w : Written (lay t (get_or args k d).ty) (value_of t (λ j. get_or cur j 0) (get_or args k d)) cur new (place.first + offset)) where
    part_told : value_of t (λ j. get_or cur j 0) (get_or args k d) ≡ get_or (values_of t (λ j. get_or old j 0) args) k no_value
    part_told =
        kept_value (lay t (get_or args k d).ty) old cur (get_or args k d).first place.first (size (lay t place.ty)) (lay_lies t sound (get_or args k d).ty).lies p.others clear_of
        ∙ sym (get_or-map (value_of t (λ j. get_or old j 0)) args k d no_value lt)

    part_written : Written (part_lay (lay t place.ty) k) (value_of t (λ j. get_or cur j 0) (get_or args k d)) cur new (place.first + part_offset (lay t place.ty) k)
    part_written =
        subst (λ o. Written (part_lay (lay t place.ty) k) (value_of t (λ j. get_or cur j 0) (get_or args k d)) cur new (place.first + o)) is
        (subst (λ l. Written l (value_of t (λ j. get_or cur j 0) (get_or args k d)) cur new (place.first + offset)) part_same w)

    pub make_more : Filled (lay t place.ty) (values_of t (λ j. get_or old j 0) args) (k + 1) old new place.first
    make_more =
        filled_more (lay t place.ty) (values_of t (λ j. get_or old j 0) args) (value_of t (λ j. get_or cur j 0) (get_or args k d)) k old cur new place.first lies part_in p part_written part_told

    pub make_fit : (AreFit (lay t (get_or args k d).ty) (λ j. get_or cur j 0) (get_or args k d).first → AreFit (lay t (get_or args k d).ty) (λ j. get_or new j 0) (place.first + offset))
        → ((i : ℕ) → i < k → AreFit (part_lay (lay t place.ty) i) (λ j. get_or cur j 0) (place.first + part_offset (lay t place.ty) i)) → All (IsFitSpan t (λ j. get_or old j 0)) args
        → (i : ℕ) → i < k + 1 → AreFit (part_lay (lay t place.ty) i) (λ j. get_or new j 0) (place.first + part_offset (lay t place.ty) i)
    make_fit copied before all =
        below_more (λ i. AreFit (part_lay (lay t place.ty) i) (λ j. get_or new j 0) (place.first + part_offset (lay t place.ty) i)) k
        (λ i less. still_fit (lay t place.ty) lies k part_in cur new place.first part_written.others i less (before i less))
        (subst (λ o. AreFit (part_lay (lay t place.ty) k) (λ j. get_or new j 0) (place.first + o)) is
        (subst (λ l. AreFit l (λ j. get_or new j 0) (place.first + offset)) part_same
        (copied (kept_fit (lay t (get_or args k d).ty) old cur (get_or args k d).first place.first (size (lay t place.ty)) (lay_lies t sound (get_or args k d).ty).lies p.others clear_of (all k d lt)))))

pub made : (t : Table) (args : List WordSpan) (long : ℕ) (place : WordSpan) → CanMake t args long place → (old new : List ℕ) (k : ℕ) → k ≡ length args
    → Filled (lay t place.ty) (values_of t (λ j. get_or old j 0) args) k old new place.first → Written (lay t place.ty) (value.Many (values_of t (λ j. get_or old j 0) args)) old new place.first
made t args long place can old new k all p =
    filled (lay t place.ty) (values_of t (λ j. get_or old j 0) args) old new place.first can.composite
    (length-map args (value_of t (λ j. get_or old j 0)) ∙ can.count)
    (subst (λ n. Filled (lay t place.ty) (values_of t (λ j. get_or old j 0) args) n old new place.first) (all ∙ can.count) p)
