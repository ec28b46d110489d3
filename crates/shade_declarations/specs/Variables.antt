-- Rule: what a `var` declares. (WGSL, "Variable Declarations".) It names memory of its type in its space. The value converts to the type; that of a
-- private variable is constant, and its memory begins with it. Of several rules that fail the first is told, and then a constant that does not fit.
use Rattle.std.specs.Prelude.{◌≡◌, Bool, true, false, List, ℕ, Option, None, Some, slice_get, Result, Ok, Err, if◌then◌else◌}
use Rattle.shade_base.specs.declared.place.Place.{Place}
use Rattle.shade_values.specs.declared.types.Access.{Access}
use Rattle.shade_values.specs.declared.types.ShadeType.{ShadeType}
use Rattle.shade_values.specs.declared.types.Space.{Space}
use Rattle.shade_values.specs.declared.types.Space.TheVariants as space
use Rattle.shade_values.specs.declared.types.TypeId.{TypeId}
use Rattle.shade_values.specs.declared.value.Value.{Value}
use Rattle.shade_values.specs.Shape.{shape_of}
use Rattle.shade_evaluate.specs.declared.fault.ConstFault.TheVariants as const_fault
use Rattle.shade_known.specs.declared.known.Found.{Found}
use Rattle.shade_known.specs.declared.known.Found.TheVariants as found
use Rattle.shade_known.specs.declared.known.Known.{Known}
use Rattle.shade_known.specs.declared.known.Operand.{Operand}
use Rattle.shade_known.specs.declared.known.Part.TheVariants as part
use Rattle.shade_known.specs.declared.fault.TypingFault.{TypingFault}
use Rattle.shade_known.specs.declared.fault.TypingFault.TheVariants as fault
use Rattle.shade_known.specs.declared.fault.TypeRule.{TypeRule}
use Rattle.shade_known.specs.declared.fault.TypeRule.TheVariants as rule
use Rattle.shade_known.specs.Conversions.{ConvertsTo}
use Rattle.shade_known.specs.Lookups.{value_of_node}
use Rattle.shade_steps.specs.declared.step.Level.{Level}
use Rattle.shade_steps.specs.declared.step.Level.TheVariants as level
use Rattle.shade_steps.specs.declared.step.VarParts.{VarParts}
use Rattle.shade_typing.specs.Values.{Answer, breaks}
use Rattle.shade_declarations.specs.Spaces.{granted, keeps_space, space_of, suits, written_access}

abbrev pub space_in : Known → VarParts → Option Space
space_in k v = space_of k.facts v.level v.space

abbrev pub access_in : Known → VarParts → Access
access_in k v = granted (space_in k v) (written_access k.facts v.access)

-- ---- what the variable begins with

-- the memory of a module's variable begins with a constant; a local variable gets its value when it is declared
abbrev pub begins : Level → Option Value → Option Value
begins level.Module v = v
begins level.Function v = None

abbrev pub memory_found : Option Space → Access → ShadeType → Option Value → Found
memory_found None a ty v = found.Nothing
memory_found (Some s) a ty v = found.Reference ty s a part.Whole v

-- the memory of a variable of this type, whose value is this one in it, where it is constant
abbrev pub memory_of : Known → VarParts → ShadeType → Option Value → Found
memory_of k v ty value = memory_found (space_in k v) (access_in k v) ty (begins v.level value)

-- ---- rules, the first of them first

-- the first rule that the type and the space break
abbrev pub broken_rule : Known → List (List ℕ) → VarParts → TypeId → ShadeType → Option TypeRule
broken_rule k names v id ty =
    if suits (space_in k v) (access_in k v) ty (shape_of k.types id) then (if keeps_space k.facts names v then None else Some rule.Space) else Some rule.Stored

abbrev pub unless_broken : Option TypeRule → Place → Answer → Answer
unless_broken None place r = r
unless_broken (Some broken) place r = breaks place broken

-- a value that does not convert is told before all else, but for want of memory, and a constant behind the rules
abbrev pub fault_by : Option TypeRule → Place → TypingFault → Answer
fault_by broken place (fault.Rule at first) = breaks at first
fault_by broken place (fault.OutOfProfile at word) = unless_broken broken place (Err (fault.OutOfProfile at word))
fault_by broken place (fault.Constant f) = unless_broken broken place (Err (fault.Constant f))
fault_by broken place fault.NoMemory = Err fault.NoMemory

abbrev pub judged : Option TypeRule → Known → VarParts → ShadeType → Result (Option Value) TypingFault → Answer
judged broken k v ty (Ok value) = unless_broken broken v.place (Ok (memory_of k v ty value))
judged broken k v ty (Err f) = fault_by broken v.place f

-- ---- a variable of a type that is written or inferred

-- the value in the type of the variable, or none where it has no value
abbrev pub Converted : Known → Option Operand → ShadeType → Result (Option Value) TypingFault → Type 0
Converted k None ty c = c ≡ Ok None
Converted k (Some value) ty c = ConvertsTo k false value ty c

abbrev pub OfType : Known → List (List ℕ) → VarParts → TypeId → Option ShadeType → Answer → Type 0
OfType k names v id None r = r ≡ breaks v.place rule.Conversion
OfType k names v id (Some ty) r = (c : Result (Option Value) TypingFault) × Converted k v.value ty c × (r ≡ judged (broken_rule k names v id ty) k v ty c)

-- without a type it breaks the rule of conversions
abbrev pub Typed : Known → List (List ℕ) → VarParts → Option TypeId → Answer → Type 0
Typed k names v None r = r ≡ breaks v.place rule.Conversion
Typed k names v (Some id) r = OfType k names v id (slice_get k.types.types id.0) r

-- ---- what must be constant

abbrev pub not_constant : Place → Answer
not_constant place = Err (fault.Constant (const_fault.NotConstant place))

abbrev pub is_private : Option Space → Bool
is_private (Some space.Private) = true
is_private s = false

-- the place of a value that is none, where it must be constant
abbrev pub unless_constant : Bool → Option Value → Place → Option Place
unless_constant true None place = Some place
unless_constant true (Some v) place = None
unless_constant false v place = None

abbrev pub no_constant : Known → VarParts → Option Operand → Option Place
no_constant k v None = None
no_constant k v (Some value) = unless_constant (is_private (space_in k v)) (value_of_node k.facts value.node) value.place

-- the value of a private variable must be constant, which is asked of it before all else
abbrev pub VariableBy : Option Place → Known → List (List ℕ) → VarParts → Option TypeId → Answer → Type 0
VariableBy (Some place) k names v id r = r ≡ not_constant place
VariableBy None k names v id r = Typed k names v id r

abbrev pub IsVariable : Known → List (List ℕ) → VarParts → Option TypeId → Answer → Type 0
IsVariable k names v id r = VariableBy (no_constant k v v.value) k names v id r
