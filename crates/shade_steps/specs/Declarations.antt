-- Rule: what is asked of directives and declarations, in order: of attributes, of types and values, then of the declaration, and of a function's body
-- behind its parameters and its result. (WGSL, "Declaration and Scope", "Functions", "Variable and Value Declarations".)
use Rattle.std.specs.Prelude.{ℕ, Bool, true, false, List, [], ◌∷◌, ◌++◌, map, Option, Some, None, option_map}
use Rattle.std.specs.List.{flat_map, list_any}
use Rattle.shade_base.specs.declared.place.Place.{Place}
use Rattle.shade_ast.specs.declared.attr.Attr.{Attr}
use Rattle.shade_ast.specs.declared.expr.Named.{Named}
use Rattle.shade_ast.specs.declared.stmt.Block.{Block}
use Rattle.shade_ast.specs.declared.tree.Decl.{Decl}
use Rattle.shade_ast.specs.declared.tree.DeclKind.{DeclKind}
use Rattle.shade_ast.specs.declared.tree.DeclKind.TheVariants as decl
use Rattle.shade_ast.specs.declared.tree.Directive.{Directive}
use Rattle.shade_ast.specs.declared.tree.DirectiveKind.{DirectiveKind}
use Rattle.shade_ast.specs.declared.tree.DirectiveKind.TheVariants as directive
use Rattle.shade_ast.specs.declared.tree.FnResult.{FnResult}
use Rattle.shade_ast.specs.declared.tree.Member.{Member}
use Rattle.shade_events.specs.Events.{is_entry_name}
use Rattle.shade_known.specs.declared.known.Operand.{Operand}
use Rattle.shade_steps.specs.declared.step.AttrMark.{AttrMark}
use Rattle.shade_steps.specs.declared.step.FnParts.{FnParts}
use Rattle.shade_steps.specs.declared.step.MemberParts.{MemberParts}
use Rattle.shade_steps.specs.declared.step.Position.{Position}
use Rattle.shade_steps.specs.declared.step.Position.TheVariants as position
use Rattle.shade_steps.specs.declared.step.TypeRole.{TypeRole}
use Rattle.shade_steps.specs.declared.step.TypeRole.TheVariants as role
use Rattle.shade_steps.specs.declared.step.Level.TheVariants as level
use Rattle.shade_steps.specs.declared.step.Task.TheVariants as task
use Rattle.shade_steps.specs.Steps.{own_of, steps_of_type, steps_of_value}
use Rattle.shade_steps.specs.Statements.{Es, maybe, asks, node_of, name_of, assert_steps, attrs_steps, var_steps, const_steps, block_steps}

abbrev pub mark_of : Attr → AttrMark
mark_of a = record { node = a.node; name = a.name }

abbrev pub marks_of : List Attr → List AttrMark
marks_of attrs = map mark_of attrs

-- ---- members and parameters

abbrev pub member_parts : Member → MemberParts
member_parts m = record { own = own_of m.node m.place; name = m.name; ty = node_of m.ty; attributes = marks_of m.attrs }

-- for what the type of a member is written behind which there are these
abbrev pub member_role : List Member → TypeRole
member_role [] = role.LastMember
member_role (m ∷ others) = role.Other

abbrev pub member_steps : List (List ℕ) → TypeRole → Member → Es
member_steps names wanted m = attrs_steps names position.Member m.attrs ++ steps_of_type wanted m.ty

abbrev pub members_steps : List (List ℕ) → List Member → Es
members_steps names [] = []
members_steps names (m ∷ others) = member_steps names (member_role others) m ++ members_steps names others

-- before what the attributes of a parameter stand, by whether its function is an entry
abbrev pub param_position : Bool → Position
param_position true = position.Input
param_position false = position.Parameter

abbrev pub is_entry : List (List ℕ) → List Attr → Bool
is_entry names attrs = list_any (λ a. is_entry_name names a.name) attrs

abbrev pub param_steps : List (List ℕ) → Position → Member → Es
param_steps names at m = attrs_steps names at m.attrs ++ steps_of_type role.Parameter m.ty ++ asks (name_of m.name) (task.Parameter (member_parts m))

abbrev pub result_steps : List (List ℕ) → FnResult → Es
result_steps names r = attrs_steps names position.Result r.attrs ++ steps_of_type role.Other r.ty ++ asks (node_of r.ty) task.Result

-- ---- declarations

abbrev pub result_type : FnResult → Operand
result_type r = node_of r.ty

abbrev pub fn_parts : Place → List Attr → List Member → Option FnResult → FnParts
fn_parts place attrs params given = record {
  place = place;
  attributes = marks_of attrs;
  parameters = map member_parts params;
  result = option_map result_type given;
}

-- what stands before the body of a function whose first token stands at this place
abbrev pub fn_head : List (List ℕ) → Place → List Attr → Named → List Member → Option FnResult → Es
fn_head names place attrs name params given =
    attrs_steps names position.Function attrs ++ flat_map (param_steps names (param_position (is_entry names attrs))) params ++ maybe (result_steps names) given
    ++ asks (name_of name) (task.Function (fn_parts place attrs params given))

-- the body of the function with this name, which is this declaration
abbrev pub fn_body : List (List ℕ) → Operand → Named → Block → Es
fn_body names own name body = block_steps names name.node body ++ asks own (task.Finished name.node)

-- what a declaration is, at the place of its first token and its node
abbrev pub decl_kind_steps : List (List ℕ) → Place → ℕ → DeclKind → Es
decl_kind_steps names place node decl.Empty = []
decl_kind_steps names place node (decl.Alias name ty) = steps_of_type role.Alias ty ++ asks (name_of name) (task.Alias (node_of ty))
decl_kind_steps names place node (decl.Const b) = const_steps b
decl_kind_steps names place node (decl.ConstAssert condition) = assert_steps condition place
decl_kind_steps names place node (decl.Struct name members trailing end) = members_steps names members ++ asks (name_of name) (task.Struct place name.name (map member_parts members))
decl_kind_steps names place node (decl.Var attrs v) = attrs_steps names position.Variable attrs ++ var_steps level.Module place (marks_of attrs) v
decl_kind_steps names place node (decl.Override attrs keyword name ty value) =
    attrs_steps names position.Override attrs ++ maybe (steps_of_type role.Other) ty ++ maybe (steps_of_value None) value ++ asks (own_of node keyword) task.Override
decl_kind_steps names place node (decl.Fn attrs keyword name params trailing result body) =
    fn_head names place attrs name params result ++ fn_body names (own_of node place) name body

abbrev pub decl_steps : List (List ℕ) → Decl → Es
decl_steps names d = decl_kind_steps names d.place d.node d.kind

-- ---- directives

abbrev pub first_name : List Named → Option ℕ
first_name [] = None
first_name (n ∷ others) = Some n.name

abbrev pub requires_steps : Named → Es
requires_steps n = asks (name_of n) (task.Requires n.name)

abbrev pub directive_kind_steps : Operand → DirectiveKind → Es
directive_kind_steps own (directive.Diagnostic severity rule trailing) = []
directive_kind_steps own (directive.Requires listed trailing) = flat_map requires_steps listed
directive_kind_steps own (directive.Enable listed trailing) = asks own (task.Enables (first_name listed))

abbrev pub directive_steps : Directive → Es
directive_steps d = directive_kind_steps (own_of d.node d.place) d.kind
