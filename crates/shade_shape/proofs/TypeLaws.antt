-- What is kept of a type by its id.
use Rattle.std.proofs.Common.{◌≡◌, sym, ap, subst, ◌∙◌, ◌<◌, List, length, Some}
use Rattle.std.specs.Prelude.{◌↔◌, IsTrue}
use Rattle.std.proofs.lemmas.List.{length-map}
use Rattle.std.proofs.lemmas.Option.{slice_get-get_or, slice_get_within}
use Rattle.shade_values.specs.declared.types.ShadeType.{ShadeType}
use Rattle.shade_values.specs.declared.types.ShadeType.TheVariants as type
use Rattle.shade_values.specs.declared.types.Scalar.TheVariants as scalar
use Rattle.shade_values.specs.declared.types.TypeId.{TypeId}
use Rattle.shade_values.specs.Table.{Table}
use Rattle.shade_values.specs.Shape.{shape_of, shapes}
use Rattle.shade_values.proofs.ShapeLaws.{length-shapes, shape_is}
use Rattle.shade_core.specs.Types.{is_constructible, type_at, spelled, NamesHeld}
use Rattle.shade_shape.specs.declared.facts.TypeFacts.{TypeFacts}
use Rattle.shade_shape.specs.Facts.{AreFacts, facts_of, fact_in}
use Rattle.shade_shape.proofs.FactLaws.{fact_at}

-- the shape at an id is the one that the type there spells
pub spelled_is : (t : Table) (facts : List TypeFacts) → AreFacts t facts → (id : TypeId) (ty : ShadeType) → type_at t id ≡ Some ty → shape_of t id ≡ spelled t ty
spelled_is t facts are id ty at = shape_is t are.sound.over id.0 ty at

-- as many as types
pub facts_long : (t : Table) (facts : List TypeFacts) → AreFacts t facts → length facts ≡ length t.types
facts_long t facts are = ap length are.are ∙ (length-map (shapes t) facts_of ∙ length-shapes t)

pub facts_at : (t : Table) (facts : List TypeFacts) → AreFacts t facts → (id : TypeId) → fact_in facts id ≡ facts_of (shape_of t id)
facts_at t facts are id = ap (λ f. fact_in f id) are.are ∙ fact_at (shapes t) id

pub held_tells : (t : Table) (facts : List TypeFacts) → AreFacts t facts → (id : TypeId) → id.0 < length t.types → IsTrue (is_constructible (shape_of t id)) ↔ NamesHeld t id
held_tells t facts are id lt =
    let at = slice_get-get_or t.types id.0 (type.Plain scalar.Bool) lt in (
      λ h. (_, at, subst (λ s. IsTrue (is_constructible s)) (spelled_is t facts are id _ at) h),
      λ h. subst (λ s. IsTrue (is_constructible s)) (sym (spelled_is t facts are id h.0 h.1)) h.2,
    )

pub held_within : (t : Table) (id : TypeId) → NamesHeld t id → id.0 < length t.types
held_within t id h = slice_get_within t.types id.0 h.0 h.1
