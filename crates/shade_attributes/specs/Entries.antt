-- Rule: what an entry must have. (WGSL, "Entry Points", "Built-in Inputs and Outputs".) A function with `@compute` or `@workgroup_size` is one; it has
-- both, each size an integer from 1 to 4,294,967,295, no result, and inputs alone: a parameter is one by a `@builtin` that fits its
-- type, or by its type, where that is a struct of inputs. Else the rule of entries fails at the first token of the function.
use Rattle.std.specs.Prelude.{ℕ, ℤ, pos, Bool, true, false, not, ◌&&◌, ◌||◌, ◌==◌, List, Option, Some, None, is_some, slice_get, nat_lt, nat_le, Ok}
use Rattle.std.specs.List.{list_any, list_all}
use Rattle.shade_base.specs.declared.place.Place.{Place}
use Rattle.shade_ast.specs.declared.attr.Attr.{Attr}
use Rattle.shade_ast.specs.declared.attr.Arguments.{Arguments}
use Rattle.shade_ast.specs.declared.tree.Decl.{Decl}
use Rattle.shade_ast.specs.declared.tree.DeclKind.{DeclKind}
use Rattle.shade_ast.specs.declared.tree.DeclKind.TheVariants as decl
use Rattle.shade_ast.specs.declared.tree.FnResult.{FnResult}
use Rattle.shade_ast.specs.declared.tree.Member.{Member}
use Rattle.shade_values.specs.declared.types.Scalar.{Scalar}
use Rattle.shade_values.specs.declared.types.Scalar.TheVariants as scalar
use Rattle.shade_values.specs.declared.types.ShadeType.{ShadeType}
use Rattle.shade_values.specs.declared.types.ShadeType.TheVariants as type
use Rattle.shade_values.specs.Table.{Table}
use Rattle.shade_known.specs.declared.known.Found.TheVariants as found
use Rattle.shade_known.specs.declared.known.Known.{Known}
use Rattle.shade_known.specs.declared.known.What.{What}
use Rattle.shade_known.specs.declared.known.What.TheVariants as what
use Rattle.shade_known.specs.declared.fault.TypeRule.TheVariants as rule
use Rattle.shade_known.specs.Lookups.{what_in}
use Rattle.shade_steps.specs.Statements.{only_word}
use Rattle.shade_typing.specs.Values.{Answer, breaks}
use Rattle.shade_attributes.specs.declared.words.Kind.{Kind}
use Rattle.shade_attributes.specs.declared.words.Kind.TheVariants as kind
use Rattle.shade_attributes.specs.declared.words.Input.{Input}
use Rattle.shade_attributes.specs.declared.words.Input.TheVariants as input
use Rattle.shade_attributes.specs.Words.{input_named, integer_of, kind_named}

-- ---- the stage and its sizes

abbrev pub is_stage_kind : Option Kind → Bool
is_stage_kind (Some kind.Compute) = true
is_stage_kind _ = false

abbrev pub is_size_kind : Option Kind → Bool
is_size_kind (Some kind.WorkgroupSize) = true
is_size_kind _ = false

abbrev pub has_stage : List (List ℕ) → List Attr → Bool
has_stage names attrs = list_any (λ a. is_stage_kind (kind_named names a.name)) attrs

abbrev pub has_size : List (List ℕ) → List Attr → Bool
has_size names attrs = list_any (λ a. is_size_kind (kind_named names a.name)) attrs

abbrev pub is_size : Option ℤ → Bool
is_size (Some (pos n)) = nat_lt 0 n && nat_le n 4294967295
is_size _ = false

abbrev pub are_sizes : Known → Option Arguments → Bool
are_sizes k None = true
are_sizes k (Some a) = list_all (λ e. is_size (integer_of k e.node)) a.items

-- each argument of each `@workgroup_size`, of which there is one
abbrev pub has_sizes : List (List ℕ) → Known → List Attr → Bool
has_sizes names k attrs = list_all (λ a. not (is_size_kind (kind_named names a.name)) || are_sizes k a.arguments) attrs

-- ---- inputs

abbrev pub written_in : Table → Option What → Option ShadeType
written_in t (Some (what.Type id bad)) = slice_get t.types id.0
written_in t _ = None

-- the type that a node is
abbrev pub written_type : Known → ℕ → Option ShadeType
written_type k n = written_in k.types (what_in k.facts n)

abbrev pub is_unsigned : Scalar → Bool
is_unsigned scalar.U32 = true
is_unsigned _ = false

abbrev pub is_number : Option ShadeType → Bool
is_number (Some (type.Plain s)) = is_unsigned s
is_number _ = false

abbrev pub is_triple : Option ShadeType → Bool
is_triple (Some (type.Vector n s)) = n == 3 && is_unsigned s
is_triple _ = false

-- the index is a `u32`, and all else that an entry is handed a `vec3<u32>`
abbrev pub fits : Option Input → Option ShadeType → Bool
fits (Some input.LocalIndex) ty = is_number ty
fits (Some input.LocalId) ty = is_triple ty
fits (Some input.GlobalId) ty = is_triple ty
fits (Some input.GroupId) ty = is_triple ty
fits (Some input.GroupCount) ty = is_triple ty
fits None ty = false

abbrev pub is_builtin_kind : Option Kind → Bool
is_builtin_kind (Some kind.Builtin) = true
is_builtin_kind _ = false

abbrev pub has_builtin : List (List ℕ) → List Attr → Bool
has_builtin names attrs = list_any (λ a. is_builtin_kind (kind_named names a.name)) attrs

-- whether an attribute is a `@builtin` of this type
abbrev pub attr_fits : List (List ℕ) → Option ShadeType → Attr → Bool
attr_fits names ty a = is_builtin_kind (kind_named names a.name) && fits (input_named names (only_word a.arguments)) ty

-- a parameter or a member with a `@builtin` that fits its type
abbrev pub is_input : List (List ℕ) → Known → Member → Bool
is_input names k m = list_any (attr_fits names (written_type k m.ty.node)) m.attrs

-- ---- structs of inputs

abbrev pub is_struct : ℕ → Option ShadeType → Bool
is_struct number (Some (type.Struct n)) = n == number
is_struct number _ = false

-- whether a declaration is that of the struct with this number, and all its members are inputs
abbrev pub declares_inputs : List (List ℕ) → Known → ℕ → DeclKind → Bool
declares_inputs names k number (decl.Struct name members trailing end) =
    is_struct number (written_type k name.node) && list_all (is_input names k) members
declares_inputs names k number _ = false

abbrev pub is_struct_of_inputs : List (List ℕ) → Known → List Decl → Option ShadeType → Bool
is_struct_of_inputs names k decls (Some (type.Struct number)) = list_any (λ d. declares_inputs names k number d.kind) decls
is_struct_of_inputs names k decls _ = false

abbrev pub is_handed : List (List ℕ) → Known → List Decl → Member → Bool
is_handed names k decls m =
    is_input names k m || (not (has_builtin names m.attrs) && is_struct_of_inputs names k decls (written_type k m.ty.node))

-- ---- the function

abbrev pub is_whole : List (List ℕ) → Known → List Attr → Option FnResult → Bool
is_whole names k attrs result = has_stage names attrs && has_size names attrs && has_sizes names k attrs && not (is_some result)

abbrev pub is_entry : List (List ℕ) → List Attr → Bool
is_entry names attrs = has_stage names attrs || has_size names attrs

abbrev pub entry_by : Bool → Bool → Place → Answer
entry_by true false place = breaks place rule.Entry
entry_by entry whole place = Ok found.Nothing

-- a declaration whose first token stands at this place
abbrev pub declared_answer : List (List ℕ) → Known → List Decl → Place → DeclKind → Answer
declared_answer names k decls place (decl.Fn attrs keyword name params trailing result body) =
    entry_by (is_entry names attrs) (is_whole names k attrs result && list_all (is_handed names k decls) params) place
declared_answer names k decls place _ = Ok found.Nothing

-- a declaration among those of a text, behind the body of a function
abbrev pub entry_answer : List (List ℕ) → Known → List Decl → Decl → Answer
entry_answer names k decls d = declared_answer names k decls d.place d.kind
