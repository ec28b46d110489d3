-- A type gets one id, and what is found of a node is kept in one way.
use Rattle.std.proofs.Common.{◌≡◌, refl, sym, ap, subst, ◌∙◌, ℕ, inl, inr, ◌⊎◌, List, Option, Some, None, slice_get}
use Rattle.std.specs.Prelude.{Contains}
use Rattle.shade_values.specs.declared.types.ShadeType.{ShadeType}
use Rattle.shade_values.specs.declared.types.TypeId.{TypeId}
use Rattle.shade_values.specs.Table.{Table, with_type}
use Rattle.shade_values.specs.Sound.{IsSound, IsOf, Grows}
use Rattle.shade_values.proofs.Lists.{contained}
use Rattle.shade_values.proofs.SoundLaws.{sound_type}
use Rattle.shade_known.specs.declared.known.Found.{Found}
use Rattle.shade_known.specs.declared.known.Found.TheVariants as found
use Rattle.shade_known.specs.declared.known.Known.{Known}
use Rattle.shade_known.specs.declared.known.What.{What}
use Rattle.shade_known.specs.declared.known.What.TheVariants as what
use Rattle.shade_known.specs.Keeps.{IsIdOf, with_fact, Keeps}
use Rattle.shade_known.specs.Laws.{KeepsInOneWay}

-- whether the old table has the type, by what stood at the id
module _ (old new : Table) (ty : ShadeType) (id : TypeId) (names : slice_get new.types id.0 ≡ Some ty) (grows : Grows old new) (known : Contains old.types ty → new ≡ old) where
  lacks : slice_get old.types id.0 ≡ None → ¬ Contains old.types ty
  lacks none has = absurd (let e : None ≡ Some ty = sym none ∙ subst (λ t. slice_get t.types id.0 ≡ Some ty) (known has) names in cc)

  has_by : (o : Option ShadeType) → slice_get old.types id.0 ≡ o → Contains old.types ty ⊎ (¬ Contains old.types ty)
  has_by None none = inr (lacks none)
  has_by (Some x) at = inl (contained old.types id.0 ty (at ∙ sym (grows.stay id.0 x at) ∙ names))

  has_or_lacks : Contains old.types ty ⊎ (¬ Contains old.types ty)
  has_or_lacks = has_by (slice_get old.types id.0) refl

  sound_by : IsSound old → IsOf old ty → (¬ Contains old.types ty → new ≡ with_type old ty) → Contains old.types ty ⊎ (¬ Contains old.types ty) → IsSound new
  sound_by sound of added (inl has) = subst IsSound (sym (known has)) sound
  sound_by sound of added (inr new_one) = subst IsSound (sym (added new_one)) (sound_type old ty sound of new_one)

  pub is_id_of : IsSound old → IsOf old ty → (¬ Contains old.types ty → new ≡ with_type old ty) → IsIdOf old new ty id
  is_id_of sound of added = record {
    names = names;
    only = λ n at. (sound_by sound of added has_or_lacks).distinct n id.0 ty at names;
    grows = grows;
    known = known;
    added = added;
  }

module _ (old new other : Table) (ty : ShadeType) (i j : TypeId) (h : IsIdOf old new ty i) (g : IsIdOf old other ty j) where
  table_by : Contains old.types ty ⊎ (¬ Contains old.types ty) → new ≡ other
  table_by (inl has) = h.known has ∙ sym (g.known has)
  table_by (inr lacking) = h.added lacking ∙ sym (g.added lacking)

  pub one_table : new ≡ other
  one_table = table_by (has_or_lacks old new ty i h.names h.grows h.known)

  at_id : j.0 ≡ i.0
  at_id = h.only j.0 (subst (λ t. slice_get t.types j.0 ≡ Some ty) (sym one_table) g.names)

  pub one_id : i ≡ j
  one_id = λ k. record { 0 = sym at_id k }

one_known : (a b : Known) → a.types ≡ b.types → a.facts ≡ b.facts → a ≡ b
one_known a b types facts = λ i. record { types = types i; facts = facts i }

module _ (old new other : Known) (node : ℕ) (ty : ShadeType) (as_what : TypeId → What) where
  pub one_fact : (i j : TypeId) → IsIdOf old.types new.types ty i → IsIdOf old.types other.types ty j → new.facts ≡ with_fact old.facts node (as_what i)
      → other.facts ≡ with_fact old.facts node (as_what j) → new ≡ other
  one_fact i j h g p q =
      one_known new other (one_table old.types new.types other.types ty i j h g)
      (p ∙ ap (λ id. with_fact old.facts node (as_what id)) (one_id old.types new.types other.types ty i j h g) ∙ sym q)

keeps_one : (old : Known) (node : ℕ) (f : Found) (new other : Known) → Keeps old node f new → Keeps old node f other → new ≡ other
keeps_one old node (found.Value ty op v) new other p q = one_fact old new other node ty (λ id. what.Value id op v) p.0 q.0 p.1 q.1 p.2 q.2
keeps_one old node (found.Reference ty space access part v) new other p q =
    one_fact old new other node ty (λ id. what.Reference id space access part v) p.0 q.0 p.1 q.1 p.2 q.2
keeps_one old node (found.Type ty bad) new other p q = one_fact old new other node ty (λ id. what.Type id bad) p.0 q.0 p.1 q.1 p.2 q.2
keeps_one old node (found.Known w) new other p q = p ∙ sym q
keeps_one old node found.Nothing new other p q = p ∙ sym q

pub keeps_in_one_way : KeepsInOneWay
keeps_in_one_way old node f new other p q = keeps_one old node f new other p q
