-- A value that was put among words is a change of them.
use Rattle.std.proofs.Common.{◌≡◌, ℕ, ◌+◌, ◌-◌, ◌<◌, ◌≤◌, ◌^◌, ◌⊎◌, inl, inr, List, length, get_or, sym, subst, ◌∙◌, arith}
use Rattle.std.proofs.lemmas.List.{ext_get_or}
use Rattle.shade_values.specs.declared.value.Value.{Value}
use Rattle.shade_values.specs.Shape.{Shape}
use Rattle.shade_words.specs.Lays.{size, IsLay, IsConcrete, AreFit}
use Rattle.shade_words.specs.Types.{lay_of}
use Rattle.shade_words.specs.Written.{Put}
use Rattle.shade_words.proofs.TypeLaws.{lt_or}
use Rattle.shade_words.proofs.ValueWords.{among_before, among_behind, put_word}
use Rattle.shade_spots.specs.Changes.{value_change}
use Rattle.shade_spots.specs.Memory.{word_after, changed}
use Rattle.shade_spots.proofs.ChangeLaws.{word_in_piece, word_beside, changed_length, changed_at}

module _ (shape : Shape) (v : Value) (old new : List ℕ) (first : ℕ) (ok : IsLay (lay_of shape)) (concrete : IsConcrete (lay_of shape)) (fit : AreFit (lay_of shape) (λ j. get_or new j 0) first)
    (small : (i : ℕ) → i < size (lay_of shape) → get_or new (first + i) 0 < 2 ^ 32) (p : Put (lay_of shape) v old new first) where
  word_is : (i : ℕ) → (i < first) ⊎ (first ≤ i) → (i < first + size (lay_of shape)) ⊎ (first + size (lay_of shape) ≤ i)
      → get_or new i 0 ≡ word_after first (size (lay_of shape)) (value_change shape v) i (get_or old i 0)
  word_is i (inl less) side =
      p.others i (inl less) ∙ sym (word_beside first (size (lay_of shape)) (value_change shape v) i (get_or old i 0) (among_before first (size (lay_of shape)) i less))
  word_is i (inr le) (inr past) =
      p.others i (inr past) ∙ sym (word_beside first (size (lay_of shape)) (value_change shape v) i (get_or old i 0) (among_behind first (size (lay_of shape)) i past))
  word_is i (inr le) (inl less) =
      let j : ℕ = i - first in
      let e : first + j ≡ i = omega (arith, le) in
      let lt : j < size (lay_of shape) = omega (arith, le, less) in
      subst (λ k. get_or new k 0 ≡ word_after first (size (lay_of shape)) (value_change shape v) k (get_or old k 0)) e
      (put_word (lay_of shape) ok concrete v old new first fit j lt p (small j lt)
      ∙ sym (word_in_piece first (size (lay_of shape)) (value_change shape v) j (get_or old (first + j) 0) lt))

  pub put_changes : length new ≡ length old → new ≡ changed first (size (lay_of shape)) (value_change shape v) old
  put_changes same =
      ext_get_or 0 new (changed first (size (lay_of shape)) (value_change shape v) old)
      (same ∙ sym (changed_length first (size (lay_of shape)) (value_change shape v) old))
      (λ i lt. word_is i (lt_or i first) (lt_or i (first + size (lay_of shape)))
      ∙ sym (changed_at first (size (lay_of shape)) (value_change shape v) old i (omega (arith, lt, same))))
