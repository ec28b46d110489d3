-- The attributes of the profile (WGSL, "Attributes"), what `@builtin` names ("Built-in Values"), and the integers that constants are.
use Rattle.std.specs.Prelude.{ℕ, ℤ, Bool, true, false, List, [], ◌∷◌, Option, Some, None, codes, slice_get, if◌then◌else◌}
use Rattle.shade_ast.specs.declared.attr.AttrName.{AttrName}
use Rattle.shade_ast.specs.declared.attr.AttrName.TheVariants as attr
use Rattle.shade_ast.specs.Lexemes.{named_in}
use Rattle.shade_values.specs.declared.types.Scalar.{Scalar}
use Rattle.shade_values.specs.declared.types.Scalar.TheVariants as scalar
use Rattle.shade_values.specs.declared.types.ShadeType.{ShadeType}
use Rattle.shade_values.specs.declared.types.ShadeType.TheVariants as type
use Rattle.shade_values.specs.declared.value.Value.{Value}
use Rattle.shade_values.specs.Parts.{own_leaf}
use Rattle.shade_known.specs.declared.known.Known.{Known}
use Rattle.shade_known.specs.Lookups.{type_of_node, value_of_node}
use Rattle.shade_attributes.specs.declared.words.Kind.{Kind}
use Rattle.shade_attributes.specs.declared.words.Kind.TheVariants as kind
use Rattle.shade_attributes.specs.declared.words.Input.{Input}
use Rattle.shade_attributes.specs.declared.words.Input.TheVariants as input

-- ---- attributes

abbrev pub kind_words : List (List ℕ × Kind)
kind_words =
    (codes "compute", kind.Compute) ∷ ((codes "workgroup_size", kind.WorkgroupSize) ∷ ((codes "group", kind.Group) ∷ ((codes "binding", kind.Binding)
    ∷ ((codes "builtin", kind.Builtin) ∷ ((codes "must_use", kind.MustUse) ∷ ((codes "diagnostic", kind.Diagnostic) ∷ []))))))

-- the name of an attribute, which may be one of two keywords
abbrev pub attr_text : List (List ℕ) → AttrName → Option (List ℕ)
attr_text names (attr.Name n) = slice_get names n.name
attr_text names (attr.Diagnostic place) = Some (codes "diagnostic")
attr_text names (attr.Const place) = Some (codes "const")

abbrev pub kind_by : Option (List ℕ) → Option Kind
kind_by None = None
kind_by (Some text) = named_in kind_words text

-- the attribute of the profile that has a name
abbrev pub kind_named : List (List ℕ) → AttrName → Option Kind
kind_named names name = kind_by (attr_text names name)

-- ---- what `@builtin` names

abbrev pub input_words : List (List ℕ × Input)
input_words =
    (codes "local_invocation_id", input.LocalId) ∷ ((codes "local_invocation_index", input.LocalIndex) ∷ ((codes "global_invocation_id", input.GlobalId)
    ∷ ((codes "workgroup_id", input.GroupId) ∷ ((codes "num_workgroups", input.GroupCount) ∷ []))))

abbrev pub input_by : Option (List ℕ) → Option Input
input_by None = None
input_by (Some text) = named_in input_words text

abbrev pub input_named : List (List ℕ) → Option ℕ → Option Input
input_named names None = None
input_named names (Some n) = input_by (slice_get names n)

-- ---- integers

abbrev pub is_integer : Scalar → Bool
is_integer scalar.I32 = true
is_integer scalar.U32 = true
is_integer scalar.Abstract = true
is_integer scalar.Bool = false

abbrev pub integer_by : Option ShadeType → Option Value → Option ℤ
integer_by (Some (type.Plain s)) (Some v) = if is_integer s then Some (own_leaf v).number else None
integer_by _ _ = None

-- the integer that a constant is
abbrev pub integer_of : Known → ℕ → Option ℤ
integer_of k n = integer_by (type_of_node k n) (value_of_node k.facts n)
