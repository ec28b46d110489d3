-- Rule: what may stand in a template list. (WGSL, "Memory View Types", "Array Types", "Address Spaces".) A type whose size a buffer decides stands in
-- no list but as what a pointer to storage points to; else the rule of templates fails at it. A pointer whose access is none of its space stands in
-- no list; the rule of spaces fails at it.
use Rattle.std.specs.Prelude.{ℕ, Bool, true, false, not, ◌&&◌, List, Option, None, Some, slice_get, Ok}
use Rattle.std.specs.Option.{option_flatten}
use Rattle.shade_base.specs.declared.place.Place.{Place}
use Rattle.shade_values.specs.declared.types.ShadeType.{ShadeType}
use Rattle.shade_values.specs.declared.types.Space.TheVariants as space
use Rattle.shade_values.specs.Table.{Table}
use Rattle.shade_scope.specs.declared.scoped.Meaning.{Meaning}
use Rattle.shade_known.specs.declared.known.Found.TheVariants as found
use Rattle.shade_known.specs.declared.known.Generator.{Generator}
use Rattle.shade_known.specs.declared.known.Generator.TheVariants as generator
use Rattle.shade_known.specs.declared.known.Known.{Known}
use Rattle.shade_known.specs.declared.known.What.{What}
use Rattle.shade_known.specs.declared.known.What.TheVariants as what
use Rattle.shade_known.specs.declared.fault.TypeRule.TheVariants as rule
use Rattle.shade_known.specs.Lookups.{what_in}
use Rattle.shade_steps.specs.declared.step.Slot.{Slot}
use Rattle.shade_steps.specs.declared.step.Slot.TheVariants as slot
use Rattle.shade_typing.specs.Values.{Answer, breaks}
use Rattle.shade_calls.specs.Templates.{generator_of, is_runtime_sized, written_type}

-- a pointer whose access is none of its space
abbrev pub is_bad_type : Option What → Bool
is_bad_type (Some (what.Type id bad)) = bad
is_bad_type _ = false

abbrev pub is_unsized : Table → Option ShadeType → Bool
is_unsized t None = false
is_unsized t (Some ty) = is_runtime_sized t ty

abbrev pub is_storage : Option What → Bool
is_storage (Some (what.Space space.Storage)) = true
is_storage _ = false

abbrev pub is_pointer_word : Option Generator → Bool
is_pointer_word (Some generator.Pointer) = true
is_pointer_word _ = false

-- whether what stands here in the list of a word is what a pointer to storage points to
abbrev pub is_stored : Option Generator → Known → Slot → Bool
is_stored word k (slot.Second before) = is_pointer_word word && is_storage (what_in k.facts before.node)
is_stored word k _ = false

-- by whether a buffer decides its size and it may not stand here, and whether its access is none of its space
abbrev pub argument_by : Bool → Bool → Place → Answer
argument_by true bad place = breaks place rule.Template
argument_by false true place = breaks place rule.Space
argument_by false false place = Ok found.Nothing

-- an argument of the list of a word
abbrev pub listed_by : Option Generator → Known → Slot → ℕ → Place → Answer
listed_by word k at n place =
    argument_by (is_unsized k.types (written_type k n) && not (is_stored word k at)) (is_bad_type (what_in k.facts n)) place

-- of the list of the name with this number, used at the node `list`
abbrev pub as_argument : List (Option Meaning) → List (List ℕ) → Known → ℕ → ℕ → Slot → ℕ → Place → Answer
as_argument uses names k list name at n place =
    listed_by (generator_of (option_flatten (slice_get uses list)) (slice_get names name)) k at n place
