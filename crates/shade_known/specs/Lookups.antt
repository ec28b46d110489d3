-- Rule: what is known of the nodes of a tree, looked up. Of a node of which nothing is known there is no type and no value.
use Rattle.std.specs.Prelude.{ℕ, Bool, false, List, [], ◌∷◌, Option, None, Some, is_some, slice_get, if◌then◌else◌}
use Rattle.std.specs.List.{flat_map}
use Rattle.std.specs.Option.{option_flatten}
use Rattle.shade_base.specs.declared.place.Place.{Place}
use Rattle.shade_values.specs.declared.types.ShadeType.{ShadeType}
use Rattle.shade_values.specs.declared.value.Value.{Value}
use Rattle.shade_values.specs.Table.{Table}
use Rattle.shade_known.specs.declared.known.Operand.{Operand}
use Rattle.shade_known.specs.declared.known.What.{What}
use Rattle.shade_known.specs.declared.known.What.TheVariants as what
use Rattle.shade_known.specs.declared.known.Known.{Known}

abbrev pub what_in : List (Option What) → ℕ → Option What
what_in facts n = option_flatten (slice_get facts n)

-- the type of a value, and that of the value in the memory that a reference names
abbrev pub type_in : Table → Option What → Option ShadeType
type_in t (Some (what.Value ty op value)) = slice_get t.types ty.0
type_in t (Some (what.Reference ty space access part value)) = slice_get t.types ty.0
type_in t _ = None

-- the value of a constant; memory has none
abbrev pub value_in : Option What → Option Value
value_in (Some (what.Value ty op value)) = value
value_in _ = None

abbrev pub type_of_node : Known → ℕ → Option ShadeType
type_of_node k n = type_in k.types (what_in k.facts n)

abbrev pub value_of_node : List (Option What) → ℕ → Option Value
value_of_node facts n = value_in (what_in facts n)

abbrev pub one_or_none : {A : Type 0} → Option A → List A
one_or_none None = []
one_or_none (Some a) = a ∷ []

-- the place of the first operand that is no value, and names none
abbrev pub first_untyped : Known → List Operand → Option Place
first_untyped k [] = None
first_untyped k (o ∷ os) = if is_some (type_of_node k o.node) then first_untyped k os else Some o.place

-- the types of some operands
abbrev pub types_of : Known → List Operand → List ShadeType
types_of k operands = flat_map (λ o. one_or_none (type_of_node k o.node)) operands

abbrev pub joined_values : Option Value → Option (List Value) → Option (List Value)
joined_values (Some v) (Some vs) = Some (v ∷ vs)
joined_values _ _ = None

-- the values of some operands, where all are constant
abbrev pub values_of : List (Option What) → List Operand → Option (List Value)
values_of facts [] = Some []
values_of facts (o ∷ os) = joined_values (value_of_node facts o.node) (values_of facts os)

abbrev pub decided_in : Option What → Bool
decided_in (Some (what.Decided b)) = b
decided_in _ = false

-- whether nobody asks for what stands in the right side of a `&&` or `||`
abbrev pub is_idle : List (Option What) → Option ℕ → Bool
is_idle facts None = false
is_idle facts (Some whole) = decided_in (what_in facts whole)
