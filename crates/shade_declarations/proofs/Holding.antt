-- What is kept of a type is what holds of it.
use Rattle.std.proofs.Common.{◌≡◌, ap, ◌∙◌, Bool, List, map, Option}
use Rattle.std.proofs.Math.ListN.{get_or-map as get_or-map_same}
use Rattle.shade_values.specs.declared.types.Access.{Access}
use Rattle.shade_values.specs.declared.types.ShadeType.{ShadeType}
use Rattle.shade_values.specs.declared.types.Space.{Space}
use Rattle.shade_values.specs.declared.types.TypeId.{TypeId}
use Rattle.shade_values.specs.Shape.{Shape, pointer, shape_at, shape_of, shapes}
use Rattle.shade_values.specs.Table.{Table}
use Rattle.shade_shape.specs.declared.facts.TypeFacts.{TypeFacts}
use Rattle.shade_shape.specs.Facts.{fact_in, facts_of}
use Rattle.shade_declarations.specs.Spaces.{suits, suits_by}

fact_at : (known : List Shape) (id : TypeId) → fact_in (map facts_of known) id ≡ facts_of (shape_at known id)
fact_at known id = get_or-map_same facts_of known id.0 pointer

pub kept_fact : (t : Table) (id : TypeId) (facts : List TypeFacts) → facts ≡ map facts_of (shapes t) → fact_in facts id ≡ facts_of (shape_of t id)
kept_fact t id facts is = ap (λ f. fact_in f id) is ∙ fact_at (shapes t) id

pub suits_so : (s s1 : Option Space) (a a1 : Access) (ty : ShadeType) (f : TypeFacts) (shape : Shape) (r : Bool) → r ≡ suits_by s a ty f.holds_bool f.holds_atomic
    → s ≡ s1 → a ≡ a1 → f ≡ facts_of shape → r ≡ suits s1 a1 ty shape
suits_so s s1 a a1 ty f shape r is space access fact = is ∙ (λ i. suits_by (space i) (access i) ty (fact i).holds_bool (fact i).holds_atomic)
