-- Rule: what literals and parentheses are, what is used as a value, and what conditions and assertions ask. (WGSL, "Literals", "Parenthesized
-- Expressions", "The Load Rule", "Short-circuit Evaluation", "Const Assertion Statement".)
use Rattle.std.specs.Prelude.{ℕ, Bool, true, false, ◌||◌, Option, None, Some, is_some, slice_get, Result, Ok, Err, if◌then◌else◌}
use Rattle.shade_base.specs.declared.place.Place.{Place}
use Rattle.shade_lex.specs.declared.token.Suffix.{Suffix}
use Rattle.shade_ast.specs.declared.expr.Infix.{Infix}
use Rattle.shade_ast.specs.declared.expr.Infix.TheVariants as infix_of
use Rattle.shade_values.specs.declared.types.Access.{Access}
use Rattle.shade_values.specs.declared.types.Scalar.TheVariants as scalar
use Rattle.shade_values.specs.declared.types.ShadeType.{ShadeType}
use Rattle.shade_values.specs.declared.types.ShadeType.TheVariants as type
use Rattle.shade_values.specs.declared.types.Space.{Space}
use Rattle.shade_values.specs.declared.value.Leaf.{Leaf}
use Rattle.shade_values.specs.declared.value.Value.{Value}
use Rattle.shade_values.specs.declared.value.Value.TheVariants as value
use Rattle.shade_values.specs.declared.op.Op.{Op}
use Rattle.shade_values.specs.declared.op.Op.TheVariants.{LogicalAnd, LogicalOr}
use Rattle.shade_values.specs.Apply.{is_true}
use Rattle.shade_values.specs.Layouts.{is_loadable}
use Rattle.shade_values.specs.Numbers.{truth}
use Rattle.shade_values.specs.Parts.{own_leaf}
use Rattle.shade_values.specs.Shape.{shape_of}
use Rattle.shade_values.specs.Table.{Table}
use Rattle.shade_evaluate.specs.declared.fault.ConstFault.TheVariants as const_fault
use Rattle.shade_const.specs.Constant.{literal, decided_by}
use Rattle.shade_known.specs.declared.known.Found.{Found}
use Rattle.shade_known.specs.declared.known.Found.TheVariants as found
use Rattle.shade_known.specs.declared.known.Known.{Known}
use Rattle.shade_known.specs.declared.known.Part.{Part}
use Rattle.shade_known.specs.declared.known.What.{What}
use Rattle.shade_known.specs.declared.known.What.TheVariants as what
use Rattle.shade_known.specs.declared.fault.TypingFault.{TypingFault}
use Rattle.shade_known.specs.declared.fault.TypingFault.TheVariants as fault
use Rattle.shade_known.specs.declared.fault.TypeRule.{TypeRule}
use Rattle.shade_known.specs.declared.fault.TypeRule.TheVariants as rule
use Rattle.shade_known.specs.Lookups.{what_in, type_of_node, value_of_node}

abbrev pub Answer : Type 0
Answer = Result Found TypingFault

abbrev pub breaks : Place → TypeRule → Answer
breaks place broken = Err (fault.Rule place broken)

-- ---- literals

-- a scalar of its own, made by no operation
abbrev pub constant_scalar : Leaf → Found
constant_scalar leaf = found.Value (type.Plain leaf.scalar) None (Some (value.One leaf))

abbrev pub number_found : ℕ → Suffix → Found
number_found n suffix = constant_scalar (literal n suffix)

abbrev pub truth_found : Bool → Found
truth_found b = constant_scalar (truth b)

-- ---- parentheses

abbrev pub value_found : Option ShadeType → Option Value → Found
value_found None v = found.Nothing
value_found (Some ty) v = found.Value ty None v

abbrev pub reference_found : Option ShadeType → Space → Access → Part → Option Value → Found
reference_found None space access part v = found.Nothing
reference_found (Some ty) space access part v = found.Reference ty space access part v

-- the value that something is, which no operation of its own makes, or the memory that it names
abbrev pub same_by : Table → Option What → Found
same_by t (Some (what.Value ty op v)) = value_found (slice_get t.types ty.0) v
same_by t (Some (what.Reference ty space access part v)) = reference_found (slice_get t.types ty.0) space access part v
same_by t _ = found.Nothing

abbrev pub same_found : Known → ℕ → Found
same_found k n = same_by k.types (what_in k.facts n)

-- ---- values

abbrev pub is_pointer : Option ShadeType → Bool
is_pointer (Some (type.Pointer space pointee access)) = true
is_pointer _ = false

-- a value is a pointer or of a type that is loadable, and memory is read as a value where its type is
abbrev pub is_usable : Table → Option What → Bool
is_usable t (Some (what.Value ty op v)) = is_pointer (slice_get t.types ty.0) || is_loadable (shape_of t ty)
is_usable t (Some (what.Reference ty space access part v)) = is_loadable (shape_of t ty)
is_usable t _ = false

abbrev pub as_value : Known → ℕ → Place → Answer
as_value k n place = if is_usable k.types (what_in k.facts n) then Ok found.Nothing else breaks place rule.Conversion

-- an operand that is read or changed in parts, or whose address is taken: a value, or memory also of a type that is not loadable
abbrev pub as_operand : Known → ℕ → Place → Answer
as_operand k n place = if is_some (type_of_node k n) then Ok found.Nothing else breaks place rule.Conversion

-- ---- conditions

abbrev pub is_bool : Option ShadeType → Bool
is_bool (Some (type.Plain scalar.Bool)) = true
is_bool _ = false

abbrev pub as_condition : Known → ℕ → Place → Answer
as_condition k n place = if is_bool (type_of_node k n) then Ok found.Nothing else breaks place rule.Condition

-- a constant that is asserted; told at its own place where it is none, and at the keyword where it is false
abbrev pub held : Option Value → Place → Place → Answer
held None place keyword = Err (fault.Constant (const_fault.NotConstant place))
held (Some v) place keyword = if is_true (own_leaf v) then Ok found.Nothing else Err (fault.Constant (const_fault.AssertFailed keyword))

abbrev pub as_assertion : Known → ℕ → Place → Place → Answer
as_assertion k n place keyword = if is_bool (type_of_node k n) then held (value_of_node k.facts n) place keyword else breaks place rule.Condition

-- ---- the left side of `&&` and `||`

abbrev pub lazy_op : Infix → Option Op
lazy_op infix_of.And = Some LogicalAnd
lazy_op infix_of.Or = Some LogicalOr
lazy_op _ = None

abbrev pub decides_by : Option Op → Option ShadeType → Option Value → Bool
decides_by (Some op) (Some (type.Plain scalar.Bool)) (Some v) = is_some (decided_by op (is_true (own_leaf v)))
decides_by _ _ _ = false

-- nobody asks for the right side: the whole stands where nobody asks for it, or the left side decides it
abbrev pub decided_found : Known → Bool → Infix → ℕ → Found
decided_found k idle operator left = found.Known (what.Decided (idle || decides_by (lazy_op operator) (type_of_node k left) (value_of_node k.facts left)))
