-- Rule: what a `switch` asks of its selector, its case values and its defaults. (WGSL, "Switch Statement".) The selector is an i32 or u32, and
-- AbstractInt becomes i32. Each case value is a constant of the type of the selector, or of AbstractInt that becomes it; no number is
-- that of two cases, and one clause alone has a default. A `switch` is known by the type of its selector as it is written, the numbers of
-- its cases so far, and how many defaults it has.
use Rattle.std.specs.Prelude.{ℕ, ℤ, ◌+◌, min, Bool, true, false, List, [], ◌∷◌, ◌++◌, Option, None, Some, slice_get, ◌==◌, Ok, Err, if◌then◌else◌}
use Rattle.std.specs.List.{list_any}
use Rattle.std.specs.Ordering.{int_eq}
use Rattle.shade_base.specs.declared.place.Place.{Place}
use Rattle.shade_values.specs.declared.types.Scalar.{Scalar}
use Rattle.shade_values.specs.declared.types.Scalar.TheVariants as scalar
use Rattle.shade_values.specs.declared.types.ShadeType.{ShadeType}
use Rattle.shade_values.specs.declared.types.ShadeType.TheVariants as type
use Rattle.shade_values.specs.declared.types.TypeId.{TypeId}
use Rattle.shade_values.specs.declared.value.Value.{Value}
use Rattle.shade_values.specs.Parts.{own_leaf}
use Rattle.shade_values.specs.Table.{Table}
use Rattle.shade_evaluate.specs.declared.fault.ConstFault.TheVariants as const_fault
use Rattle.shade_evaluate.specs.Fits.{fits}
use Rattle.shade_known.specs.declared.known.Found.{Found}
use Rattle.shade_known.specs.declared.known.Found.TheVariants as found
use Rattle.shade_known.specs.declared.known.Known.{Known}
use Rattle.shade_known.specs.declared.known.Operand.{Operand}
use Rattle.shade_known.specs.declared.known.What.{What}
use Rattle.shade_known.specs.declared.known.What.TheVariants as what
use Rattle.shade_known.specs.declared.fault.TypingFault.TheVariants as fault
use Rattle.shade_known.specs.declared.fault.TypeRule.TheVariants as rule
use Rattle.shade_known.specs.Lookups.{what_in, type_of_node, value_of_node}
use Rattle.shade_typing.specs.Values.{Answer, breaks}

-- ---- selectors

-- the scalar in which the numbers of a selector of this type are compared
abbrev pub compared_in : Option ShadeType → Option Scalar
compared_in (Some (type.Plain scalar.I32)) = Some scalar.I32
compared_in (Some (type.Plain scalar.U32)) = Some scalar.U32
compared_in (Some (type.Plain scalar.Abstract)) = Some scalar.I32
compared_in _ = None

abbrev pub overflow : Place → Answer
overflow place = Err (fault.Constant (const_fault.Overflow place))

-- the id of the type of the value that something is or names
abbrev pub id_in : Option What → Option TypeId
id_in (Some (what.Value ty op value)) = Some ty
id_in (Some (what.Reference ty space access part value)) = Some ty
id_in _ = None

-- what is no constant has a number that fits
abbrev pub is_fit : Scalar → Option Value → Bool
is_fit s None = true
is_fit s (Some v) = fits s v

-- a `switch` without a clause so far
abbrev pub begun : TypeId → Found
begun id = found.Known (what.Switch id [] 0)

abbrev pub selected_in : Option Scalar → TypeId → Option Value → Place → Answer
selected_in None id value place = breaks place rule.Switch
selected_in (Some s) id value place = if is_fit s value then Ok (begun id) else overflow place

abbrev pub selected_by : Option TypeId → Known → Operand → Answer
selected_by None k selector = breaks selector.place rule.Switch
selected_by (Some id) k selector = selected_in (compared_in (slice_get k.types.types id.0)) id (value_of_node k.facts selector.node) selector.place

-- of a `switch` with this selector; all is told at the selector
abbrev pub selected : Known → Operand → Answer
selected k selector = selected_by (id_in (what_in k.facts selector.node)) k selector

-- ---- case values

-- whether a value of this type becomes this scalar, which is that of a selector
abbrev pub may_become : Scalar → Option ShadeType → Bool
may_become s (Some (type.Plain scalar.Abstract)) = true
may_become scalar.I32 (Some (type.Plain scalar.I32)) = true
may_become scalar.U32 (Some (type.Plain scalar.U32)) = true
may_become s ty = false

abbrev pub is_repeated : ℤ → List ℤ → Bool
is_repeated key keys = list_any (λ other. int_eq other key) keys

-- the scalar in which the numbers of a `switch` are compared
abbrev pub scalar_in : Table → Option What → Option Scalar
scalar_in t (Some (what.Switch id keys defaults)) = compared_in (slice_get t.types id.0)
scalar_in t w = None

-- a `switch` with one key more, which it does not have
abbrev pub with_key : Option What → ℤ → Place → Answer
with_key (Some (what.Switch id keys defaults)) key place =
    if is_repeated key keys then breaks place rule.Switch else Ok (found.Known (what.Switch id (keys ++ key ∷ []) defaults))
with_key w key place = breaks place rule.Switch

-- a constant that fits has its number as its key
abbrev pub keyed : Scalar → Option What → Option Value → Place → Answer
keyed s w None place = Err (fault.Constant (const_fault.NotConstant place))
keyed s w (Some v) place = if fits s v then with_key w (own_leaf v).number place else overflow place

abbrev pub case_in : Option Scalar → Known → Option What → Operand → Answer
case_in None k w value = breaks value.place rule.Switch
case_in (Some s) k w value =
    if may_become s (type_of_node k value.node) then keyed s w (value_of_node k.facts value.node) value.place else breaks value.place rule.Switch

abbrev pub case_by : Known → Option What → Operand → Answer
case_by k w value = case_in (scalar_in k.types w) k w value

-- of the `switch` with this node, by a case value; all is told at the value: that it is of another type before that it is no constant, then
-- that it does not fit, and then that it is repeated
abbrev pub case_found : Known → ℕ → Operand → Answer
case_found k switch value = case_by k (what_in k.facts switch) value

-- ---- defaults

-- more than 4,294,967,295 are counted as that many
abbrev pub greatest_count : ℕ
greatest_count = 4294967295

abbrev pub with_default : Option What → Found
with_default (Some (what.Switch id keys defaults)) = found.Known (what.Switch id keys (min (defaults + 1) greatest_count))
with_default w = found.Nothing

-- of the `switch` with this node, by a default
abbrev pub default_found : Known → ℕ → Answer
default_found k switch = Ok (with_default (what_in k.facts switch))

abbrev pub has_one_default : Option What → Bool
has_one_default (Some (what.Switch id keys defaults)) = defaults == 1
has_one_default w = false

-- of the `switch` with this node, behind all of its clauses; told at its first token
abbrev pub all_chosen : Known → ℕ → Place → Answer
all_chosen k switch place = if has_one_default (what_in k.facts switch) then Ok found.Nothing else breaks place rule.Switch
