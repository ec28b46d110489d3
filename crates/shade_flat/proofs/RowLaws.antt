-- A value that came to the place of a statement's value in the row.
use Rattle.std.proofs.Common.{◌≡◌, ℕ, ◌+◌, ◌<◌, ◌≤◌, ◌⊎◌, inl, inr, List, [], ◌∷◌, ◌++◌, get_or, Some, sym, ap, subst, ◌∙◌, arith}
use Rattle.shade_values.specs.declared.types.TypeId.{TypeId}
use Rattle.shade_values.specs.declared.value.Value.{Value}
use Rattle.shade_values.specs.Sound.{IsSound}
use Rattle.shade_values.specs.Table.{Table}
use Rattle.shade_words.specs.Lays.{size, decode}
use Rattle.shade_words.specs.Types.{lay}
use Rattle.shade_words.specs.Written.{Written}
use Rattle.shade_slots.specs.declared.slot.Slot.{Slot}
use Rattle.shade_slots.specs.declared.layout.FrameLayout.{FrameLayout}
use Rattle.shade_slots.specs.Slots.{size_of}
use Rattle.shade_frames.specs.Control.{Place}
use Rattle.shade_frames.specs.Frames.{Setting}
use Rattle.shade_flat.specs.declared.open.Open.{Open}
use Rattle.shade_flat.specs.Flat.{slot_at, slot_value, frames_of, own_of, lane_of}
use Rattle.shade_flat.specs.Rows.{IsFrameOf, ArePrivates, Stacked, put_first, with_value}
use Rattle.shade_flat.proofs.FrameLaws.{frames_put, own_same}

abbrev at : List ℕ → ℕ → ℕ
at words j = get_or words j 0

module _ (s : Setting) (layouts : ℕ → FrameLayout) (privates : List Slot) (place : Place) (all : (f : ℕ) → IsFrameOf s f (layouts f)) (old new : List ℕ) (start : ℕ) (below : List Open) (top : Open) (n first : ℕ) (ty : TypeId) (x : Value)
    (is : slot_at (layouts top.function).values.items n ≡ record { first = first; ty = Some ty }) (are : ArePrivates s privates start) (stacked : Stacked layouts start top.base below) where
  given_here : IsSound s.shader.types → Written (lay s.shader.types ty) x old new (top.base + first)
      → lane_of s layouts privates place (at new) (below ++ top ∷ []) ≡ with_value n x (lane_of s layouts privates place (at old) (below ++ top ∷ []))
  given_here sound w = λ i. record { place = place; frames = frames i; own = own i }
    where
      begin : (slot_at (layouts top.function).values.items n).first ≡ first
      begin = ap (λ k. k.first) is

      long : size_of s.shader.types (slot_at (layouts top.function).values.items n).ty ≡ size (lay s.shader.types ty)
      long = ap (λ k. size_of s.shader.types k.ty) is

      others : (j : ℕ) → (j < top.base + (slot_at (layouts top.function).values.items n).first) ⊎ (top.base + (slot_at (layouts top.function).values.items n).first + size_of s.shader.types (slot_at (layouts top.function).values.items n).ty ≤ j)
          → at new j ≡ at old j
      others j (inl h) = w.others j (inl (omega (arith, h, begin)))
      others j (inr h) = w.others j (inr (omega (arith, h, begin, long)))

      here : slot_value s.shader.types (at new) top.base (slot_at (layouts top.function).values.items n) ≡ x
      here = subst (λ k. slot_value s.shader.types (at new) top.base k ≡ x) (sym is) w.value

      frames : frames_of s layouts (at new) (below ++ top ∷ []) ≡ put_first n x (frames_of s layouts (at old) (below ++ top ∷ []))
      frames = frames_put s sound layouts all (at old) (at new) start below top n x stacked others here

      own : own_of s layouts privates (at new) (below ++ top ∷ []) ≡ own_of s layouts privates (at old) (below ++ top ∷ [])
      own = own_same s sound layouts all (at old) (at new) top n others privates start below are stacked

  pub given_value : (t : Table) → IsSound t → s.shader.types ≡ t → (new_below : List Open) (new_top : Open) → new_below ≡ below → new_top ≡ top → Written (lay t ty) x old new (top.base + first)
      → lane_of s layouts privates place (at new) (new_below ++ new_top ∷ []) ≡ with_value n x (lane_of s layouts privates place (at old) (below ++ top ∷ []))
  given_value t sound e new_below new_top same_below same_top w =
      (λ i. lane_of s layouts privates place (at new) (same_below i ++ same_top i ∷ []))
      ∙ given_here (subst IsSound (sym e) sound) (subst (λ k. Written (lay k ty) x old new (top.base + first)) (sym e) w)
