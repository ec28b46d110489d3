-- Rule: how the space of a variable goes together with where it stands, its access, its attributes, its value and its type. (WGSL, "Address
-- Space", "Memory Access Mode", "Module Scope Variables", "Resource Interface".)
use Rattle.std.specs.Prelude.{ℕ, Bool, true, false, not, ◌&&◌, ◌||◌, List, [], ◌∷◌, Option, None, Some, codes}
use Rattle.std.specs.List.{list_any}
use Rattle.shade_ast.specs.declared.attr.AttrName.{AttrName}
use Rattle.shade_ast.specs.declared.attr.AttrName.TheVariants as attr
use Rattle.shade_values.specs.declared.types.Access.{Access}
use Rattle.shade_values.specs.declared.types.Access.TheVariants as access
use Rattle.shade_values.specs.declared.types.ShadeType.{ShadeType}
use Rattle.shade_values.specs.declared.types.Space.{Space}
use Rattle.shade_values.specs.declared.types.Space.TheVariants as space
use Rattle.shade_values.specs.Shape.{Shape}
use Rattle.shade_events.specs.Words.{is_one_of}
use Rattle.shade_core.specs.Types.{holds_bool, holds_atomic}
use Rattle.shade_core.specs.Roots.{is_writable}
use Rattle.shade_known.specs.declared.known.AccessWord.{AccessWord}
use Rattle.shade_known.specs.declared.known.Operand.{Operand}
use Rattle.shade_known.specs.declared.known.What.{What}
use Rattle.shade_known.specs.Lookups.{what_in}
use Rattle.shade_steps.specs.declared.step.AttrMark.{AttrMark}
use Rattle.shade_steps.specs.declared.step.Level.{Level}
use Rattle.shade_steps.specs.declared.step.Level.TheVariants as level
use Rattle.shade_steps.specs.declared.step.VarParts.{VarParts}
use Rattle.shade_calls.specs.Templates.{access_by, access_named, is_bad, is_pointer, space_named}

-- ---- space and access

-- the space of a variable without a word for it
abbrev pub own_space : Level → Option Space
own_space level.Module = None
own_space level.Function = Some space.Function

-- the space that is written; a local variable without one is of its function
abbrev pub space_of : List (Option What) → Level → Option Operand → Option Space
space_of facts l None = own_space l
space_of facts l (Some word) = space_named (what_in facts word.node)

abbrev pub written_access : List (Option What) → Option Operand → Option AccessWord
written_access facts None = None
written_access facts (Some word) = access_named (what_in facts word.node)

-- what a shader may do with the memory of a variable
abbrev pub granted : Option Space → Option AccessWord → Access
granted None w = access.ReadWrite
granted (Some s) w = access_by s w

-- a module's variable has a space, which is not that of functions
abbrev pub is_of_module : Option Space → Bool
is_of_module None = false
is_of_module (Some space.Function) = false
is_of_module (Some s) = true

abbrev pub is_of_function : Option Space → Bool
is_of_function (Some space.Function) = true
is_of_function s = false

abbrev pub may_stand : Level → Option Space → Bool
may_stand level.Module s = is_of_module s
may_stand level.Function s = is_of_function s

-- an access that is written is one of its space
abbrev pub may_access : Option Space → Option AccessWord → Bool
may_access (Some s) (Some w) = not (is_bad s w)
may_access _ _ = false

abbrev pub keeps_access : Option Operand → Option Space → Option AccessWord → Bool
keeps_access None s w = true
keeps_access (Some written) s w = may_access s w

-- variables of functions and of one lane alone begin with a value
abbrev pub may_begin : Option Space → Bool
may_begin (Some space.Workgroup) = false
may_begin (Some space.Storage) = false
may_begin (Some space.Uniform) = false
may_begin s = true

abbrev pub keeps_value : Option Operand → Option Space → Bool
keeps_value None s = true
keeps_value (Some value) s = may_begin s

-- ---- attributes

abbrev pub group_word : List (List ℕ)
group_word = codes "group" ∷ []

abbrev pub binding_word : List (List ℕ)
binding_word = codes "binding" ∷ []

abbrev pub is_called : List (List ℕ) → List (List ℕ) → AttrName → Bool
is_called words names (attr.Name n) = is_one_of words names n.name
is_called words names (attr.Diagnostic place) = false
is_called words names (attr.Const place) = false

abbrev pub has_attribute : List (List ℕ) → List (List ℕ) → List AttrMark → Bool
has_attribute words names marks = list_any (λ a. is_called words names a.name) marks

-- what comes from outside
abbrev pub is_resource : Option Space → Bool
is_resource (Some space.Storage) = true
is_resource (Some space.Uniform) = true
is_resource s = false

-- what comes from outside has both, and everything else neither
abbrev pub may_bind : Bool → Bool → Bool → Bool
may_bind true group binding = group && binding
may_bind false group binding = not (group || binding)

abbrev pub keeps_attributes : Option Space → List (List ℕ) → List AttrMark → Bool
keeps_attributes s names marks = may_bind (is_resource s) (has_attribute group_word names marks) (has_attribute binding_word names marks)

-- ---- all but the type

-- where it stands, its access, its value and its attributes
abbrev pub keeps_by : Option Space → List (Option What) → List (List ℕ) → VarParts → Bool
keeps_by s facts names v =
    may_stand v.level s && (keeps_access v.access s (written_access facts v.access) && (keeps_value v.value s && keeps_attributes s names v.attributes))

abbrev pub keeps_space : List (Option What) → List (List ℕ) → VarParts → Bool
keeps_space facts names v = keeps_by (space_of facts v.level v.space) facts names v

-- ---- the type

-- what comes from outside holds no bool, and atomics stand in memory of a workgroup and in storage that may be written: by whether the type
-- holds a bool, and an atomic
abbrev pub space_suits : Option Space → Access → Bool → Bool → Bool
space_suits (Some space.Workgroup) a bool atomic = true
space_suits (Some space.Storage) a bool atomic = not bool && (is_writable a || not atomic)
space_suits (Some space.Uniform) a bool atomic = not (bool || atomic)
space_suits (Some space.Private) a bool atomic = not atomic
space_suits (Some space.Function) a bool atomic = not atomic
space_suits None a bool atomic = true

-- no variable has the type of a pointer
abbrev pub suits_by : Option Space → Access → ShadeType → Bool → Bool → Bool
suits_by s a ty bool atomic = not (is_pointer ty) && space_suits s a bool atomic

abbrev pub suits : Option Space → Access → ShadeType → Shape → Bool
suits s a ty shape = suits_by s a ty (holds_bool shape) (holds_atomic shape)
