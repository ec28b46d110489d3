-- Rule: types where one is asked, aliases, types of results, constants and `return`. (WGSL, "Types", "Array Types", "Type Aliases", "const
-- Declarations", "Functions", "Return Statement".)
use Rattle.std.specs.Prelude.{◌≡◌, ℕ, Bool, true, false, ◌&&◌, Option, None, Some, slice_get, Result, Ok, Err, if◌then◌else◌}
use Rattle.shade_base.specs.declared.place.Place.{Place}
use Rattle.shade_values.specs.declared.types.ShadeType.{ShadeType}
use Rattle.shade_values.specs.declared.types.TypeId.{TypeId}
use Rattle.shade_values.specs.declared.value.Value.{Value}
use Rattle.shade_values.specs.Layouts.{is_loadable}
use Rattle.shade_values.specs.Shape.{shape_of}
use Rattle.shade_values.specs.Table.{Table}
use Rattle.shade_evaluate.specs.declared.fault.ConstFault.TheVariants as const_fault
use Rattle.shade_known.specs.declared.known.Found.TheVariants as found
use Rattle.shade_known.specs.declared.known.Known.{Known}
use Rattle.shade_known.specs.declared.known.Operand.{Operand}
use Rattle.shade_known.specs.declared.known.What.{What}
use Rattle.shade_known.specs.declared.known.What.TheVariants as what
use Rattle.shade_known.specs.declared.fault.TypingFault.{TypingFault}
use Rattle.shade_known.specs.declared.fault.TypingFault.TheVariants as fault
use Rattle.shade_known.specs.declared.fault.TypeRule.TheVariants as rule
use Rattle.shade_known.specs.Conversions.{ConvertsTo}
use Rattle.shade_known.specs.Lookups.{what_in, value_of_node}
use Rattle.shade_steps.specs.declared.step.TypeRole.{TypeRole}
use Rattle.shade_steps.specs.declared.step.TypeRole.TheVariants as role
use Rattle.shade_typing.specs.Values.{Answer, breaks, same_found}
use Rattle.shade_typing.specs.Assignments.{IsConverted}
use Rattle.shade_calls.specs.Names.{declared_by}
use Rattle.shade_calls.specs.Templates.{is_runtime_array, is_runtime_sized, written_type}
use Rattle.shade_tasks.specs.Arguments.{is_bad_type, is_storage}

-- ---- types

abbrev pub in_storage : Known → Option Operand → Bool
in_storage k None = false
in_storage k (Some word) = is_storage (what_in k.facts word.node)

-- whether a type whose size a buffer decides may stand here: as the type of a storage variable, under another name, or as an array that is
-- the last member of a struct
abbrev pub may_be_unsized : Known → TypeRole → ShadeType → Bool
may_be_unsized k role.Alias ty = true
may_be_unsized k (role.Variable word) ty = in_storage k word
may_be_unsized k role.LastMember ty = is_runtime_array (Some ty)
may_be_unsized k role.Parameter ty = false
may_be_unsized k role.Other ty = false

abbrev pub may_stand : Known → TypeRole → ShadeType → Bool
may_stand k wanted ty = if is_runtime_sized k.types ty then may_be_unsized k wanted ty else true

-- of a parameter the parameter is asked whether the access of its pointer is one of its space, and of anything else the type
abbrev pub is_told : TypeRole → Bool
is_told role.Parameter = false
is_told _ = true

abbrev pub access_by : TypeRole → Bool → Place → Answer
access_by wanted bad place = if is_told wanted && bad then breaks place rule.Space else Ok found.Nothing

abbrev pub type_by : Known → TypeRole → Option ShadeType → Bool → Place → Answer
type_by k wanted None bad place = breaks place rule.Template
type_by k wanted (Some ty) bad place = if may_stand k wanted ty then access_by wanted bad place else breaks place rule.Template

-- a node where a type is asked
abbrev pub as_type : Known → TypeRole → ℕ → Place → Answer
as_type k wanted n place = type_by k wanted (written_type k n) (is_bad_type (what_in k.facts n)) place

-- ---- aliases

abbrev pub alias_found : Known → Operand → Answer
alias_found k ty = Ok (declared_by k.types (what_in k.facts ty.node))

-- ---- results

abbrev pub is_result_type : Table → Option What → Bool
is_result_type t (Some (what.Type id bad)) = is_loadable (shape_of t id)
is_result_type t _ = false

-- the type of a function's result, which is loadable
abbrev pub as_result : Known → ℕ → Place → Answer
as_result k n place = if is_result_type k.types (what_in k.facts n) then Ok found.Nothing else breaks place rule.Signature

-- ---- constants

abbrev pub bound : ShadeType → Result (Option Value) TypingFault → Answer
bound ty (Ok v) = Ok (found.Value ty None v)
bound ty (Err f) = Err f

-- the value in the type that is written
abbrev pub IsBound : Known → Operand → Option ShadeType → Answer → Type 0
IsBound k value None r = r ≡ breaks value.place rule.Conversion
IsBound k value (Some to) r = (c : Result (Option Value) TypingFault) × ConvertsTo k false value to c × (r ≡ bound to c)

-- without a written type AbstractInt stays
abbrev pub ByType : Known → Option Operand → Operand → Answer → Type 0
ByType k None value r = r ≡ Ok (same_found k value.node)
ByType k (Some ty) value r = IsBound k value (written_type k ty.node) r

abbrev pub ByConstness : Option Value → Known → Option Operand → Operand → Answer → Type 0
ByConstness None k ty value r = r ≡ Err (fault.Constant (const_fault.NotConstant value.place))
ByConstness (Some v) k ty value r = ByType k ty value r

-- what is told at the value comes first, and then what the declaration asks of it and of the type
abbrev pub IsConstant : Known → Option Operand → Operand → Answer → Type 0
IsConstant k ty value = ByConstness (value_of_node k.facts value.node) k ty value

-- ---- `return`

abbrev pub result_of : Option What → Option TypeId
result_of (Some (what.Function parameters given must_use entry)) = given
result_of _ = None

-- in a function with this result: a value where one is asked, which converts to the type of the result
abbrev pub IsReturned : Known → Option TypeId → Option Operand → Place → Answer → Type 0
IsReturned k None None place r = r ≡ Ok found.Nothing
IsReturned k None (Some value) place r = r ≡ breaks place rule.Signature
IsReturned k (Some id) None place r = r ≡ breaks place rule.Signature
IsReturned k (Some id) (Some value) place r = IsConverted k value (slice_get k.types.types id.0) r
