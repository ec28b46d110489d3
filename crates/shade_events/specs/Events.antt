-- What happens to names and filters in a text, in its order. The names that a text uses are all but those behind a `.`, those of
-- attributes, of `builtin` and `diagnostic`, and of directives (WGSL, "Declaration and Scope").
use Rattle.std.specs.Prelude.{ℕ, Bool, true, false, List, [], ◌∷◌, ◌++◌, map, Option, Some, None, if◌then◌else◌}
use Rattle.std.specs.List.{flat_map, list_any}
use Rattle.shade_base.specs.declared.place.Place.{Place}
use Rattle.shade_ast.specs.declared.attr.Attr.{Attr}
use Rattle.shade_ast.specs.declared.attr.AttrName.{AttrName}
use Rattle.shade_ast.specs.declared.attr.AttrName.TheVariants as attr
use Rattle.shade_ast.specs.declared.attr.Arguments.{Arguments}
use Rattle.shade_ast.specs.declared.expr.Named.{Named}
use Rattle.shade_ast.specs.declared.expr.Expr.{Expr, Expr-F, fold-Expr}
use Rattle.shade_ast.specs.declared.expr.ExprKind.{ExprKind-F}
use Rattle.shade_ast.specs.declared.expr.ExprKind.TheOpen as kind
use Rattle.shade_ast.specs.declared.stmt.Var.{Var}
use Rattle.shade_ast.specs.declared.stmt.VarSpace.{VarSpace}
use Rattle.shade_ast.specs.declared.stmt.Binding.{Binding}
use Rattle.shade_ast.specs.declared.stmt.Update.{Update}
use Rattle.shade_ast.specs.declared.stmt.Update.TheVariants as update
use Rattle.shade_ast.specs.declared.stmt.Simple.{Simple}
use Rattle.shade_ast.specs.declared.stmt.Simple.TheVariants as simple
use Rattle.shade_ast.specs.declared.stmt.Selector.{Selector}
use Rattle.shade_ast.specs.declared.stmt.Selector.TheVariants as selector
use Rattle.shade_ast.specs.declared.stmt.BreakIf.{BreakIf}
use Rattle.shade_ast.specs.declared.stmt.Clause.{Clause, Clause-F, fold-Clause}
use Rattle.shade_ast.specs.declared.stmt.Clause.TheOpen as open_stmt
use Rattle.shade_ast.specs.declared.stmt.StmtKind.{StmtKind-F}
use Rattle.shade_ast.specs.declared.stmt.Arm.{Arm, Arm-F, fold-Arm}
use Rattle.shade_ast.specs.declared.stmt.Block.{Block, Block-F, fold-Block, out-Block}
use Rattle.shade_ast.specs.declared.stmt.Continuing.{Continuing, Continuing-F, fold-Continuing}
use Rattle.shade_ast.specs.declared.stmt.Otherwise.{Otherwise, Otherwise-F, fold-Otherwise}
use Rattle.shade_ast.specs.declared.stmt.Stmt.{Stmt, Stmt-F, fold-Stmt}
use Rattle.shade_ast.specs.declared.tree.Decl.{Decl}
use Rattle.shade_ast.specs.declared.tree.DeclKind.{DeclKind}
use Rattle.shade_ast.specs.declared.tree.DeclKind.TheVariants as decl
use Rattle.shade_ast.specs.declared.tree.Directive.{Directive}
use Rattle.shade_ast.specs.declared.tree.DirectiveKind.{DirectiveKind}
use Rattle.shade_ast.specs.declared.tree.DirectiveKind.TheVariants as directive
use Rattle.shade_ast.specs.declared.tree.FnResult.{FnResult}
use Rattle.shade_ast.specs.declared.tree.Member.{Member}
use Rattle.shade_ast.specs.declared.tree.Rule.{Rule}
use Rattle.shade_ast.specs.declared.tree.Rule.TheVariants as rule
use Rattle.shade_ast.specs.declared.tree.Tree.{Tree}
use Rattle.shade_events.specs.declared.event.Event.{Event}
use Rattle.shade_events.specs.declared.event.Event.TheVariants as event
use Rattle.shade_events.specs.declared.event.Role.{Role}
use Rattle.shade_events.specs.declared.event.Role.TheVariants as role
use Rattle.shade_events.specs.declared.filters.Filter.{Filter}
use Rattle.shade_events.specs.Words.{is_one_of, entry_words, builtin_words}
use Rattle.shade_events.specs.Filters.{filter_of, directive_filter, bad_severity, bad_directive}

abbrev pub Es : Type 0
Es = List Event

abbrev pub maybe : {A : Type 0} → (A → Es) → Option A → Es
maybe f None = []
maybe f (Some a) = f a

abbrev pub joined : List Es → Es
joined [] = []
joined (es ∷ others) = es ++ joined others

abbrev pub given : Option Es → Es
given None = []
given (Some es) = es

-- ---- expressions and types

abbrev pub part : Role → Role
part role.Ignored = role.Ignored
part role.Used = role.Used
part role.Called = role.Used

abbrev pub callee : Role → Role
callee role.Ignored = role.Ignored
callee role.Used = role.Called
callee role.Called = role.Called

abbrev pub looked_up : Role → Named → Es
looked_up role.Ignored n = []
looked_up role.Used n = event.Uses n false ∷ []
looked_up role.Called n = event.Uses n true ∷ []

abbrev pub named : ℕ → ℕ → Place → Named
named name node place = record { node = node; place = place; name = name }

abbrev pub In : Type 0
In = Role → Es

abbrev pub all_in : Role → List In → Es
all_in r [] = []
all_in r (e ∷ es) = e r ++ all_in r es

abbrev pub KindIn : Type 0
KindIn = ℕ → Place → In

abbrev pub kind_uses : ExprKind-F KindIn In → KindIn
kind_uses (kind.Infix left operator at right) node place r = left (part r) ++ right (part r)
kind_uses (kind.Prefix operator operand) node place r = operand (part r)
kind_uses (kind.Member whole dot member) node place r = whole (part r) ++ event.Node member.node ∷ []
kind_uses (kind.Index whole bracket at) node place r = whole (part r) ++ at (part r)
kind_uses (kind.Call called arguments trailing) node place r = called (callee r) ++ all_in (part r) arguments
kind_uses (kind.Template name arguments trailing) node place r = looked_up r (named name node place) ++ all_in (part r) arguments
kind_uses (kind.Name name) node place r = looked_up r (named name node place)
kind_uses (kind.Number value suffix) node place r = []
kind_uses kind.True node place r = []
kind_uses kind.False node place r = []
kind_uses (kind.Paren inner) node place r = inner (part r)

abbrev pub expr_uses : Expr-F KindIn In → In
expr_uses e r = e.kind e.node e.place r ++ event.Node e.node ∷ []

abbrev pub uses_in : Expr → Role → Es
uses_in = fold-Expr KindIn In kind_uses expr_uses

abbrev pub used : Expr → Es
used e = uses_in e role.Used

abbrev pub arguments_events : Role → Arguments → Es
arguments_events r a = all_in r (map uses_in a.items)

-- ---- attributes

abbrev pub node_of : Named → Es
node_of n = event.Node n.node ∷ []

abbrev pub attr_role : List (List ℕ) → AttrName → Role
attr_role names (attr.Name n) = if is_one_of builtin_words names n.name then role.Ignored else role.Used
attr_role names (attr.Diagnostic place) = role.Ignored
attr_role names (attr.Const place) = role.Used

abbrev pub attr_name_events : AttrName → Es
attr_name_events (attr.Name n) = node_of n
attr_name_events (attr.Diagnostic place) = []
attr_name_events (attr.Const place) = []

abbrev pub lacking : Option Place → Es
lacking None = []
lacking (Some place) = event.LacksSeverity place ∷ []

abbrev pub attr_events : List (List ℕ) → Attr → Es
attr_events names a = attr_name_events a.name ++ maybe (arguments_events (attr_role names a.name)) a.arguments ++ lacking (bad_severity names a) ++ event.Node a.node ∷ []

abbrev pub attrs_events : List (List ℕ) → List Attr → Es
attrs_events names attrs = flat_map (attr_events names) attrs

abbrev pub filter_events : Option Filter → Es
filter_events None = []
filter_events (Some f) = event.Filters f ∷ []

-- some attributes, and the beginning of the range that they stand before, with its filters
abbrev pub range : List (List ℕ) → List Attr → Es
range names attrs = attrs_events names attrs ++ event.Covers ∷ [] ++ flat_map (λ a. filter_events (filter_of names a)) attrs

-- the node of a construct with a range is of the range
abbrev pub range_end : ℕ → Es
range_end node = event.Node node ∷ event.Uncovers ∷ []

-- ---- declarations: in force behind their own text

abbrev pub name_uses : Named → Es
name_uses n = event.Uses n false ∷ event.Node n.node ∷ []

abbrev pub space_events : VarSpace → Es
space_events s = name_uses s.space ++ maybe name_uses s.access

abbrev pub var_uses : Var → Es
var_uses v = maybe space_events v.space ++ node_of v.name ++ maybe used v.ty ++ maybe used v.value

abbrev pub declares : Named → Es
declares n = event.Declares n false ∷ []

abbrev pub var_events : Var → Es
var_events v = var_uses v ++ declares v.name

abbrev pub binding_uses : Binding → Es
binding_uses b = node_of b.name ++ maybe used b.ty ++ used b.value

abbrev pub binding_events : Binding → Es
binding_events b = binding_uses b ++ declares b.name

-- ---- statements

abbrev pub update_events : Update → Es
update_events (update.Assign target at value) = used target ++ used value
update_events (update.Compound target operator at value) = used target ++ used value
update_events (update.Phony underscore at value) = used value
update_events (update.Increment target at) = used target
update_events (update.Decrement target at) = used target
update_events (update.Call e) = used e

abbrev pub simple_events : Simple → Es
simple_events (simple.Var v) = var_events v
simple_events (simple.Const b) = binding_events b
simple_events (simple.Let b) = binding_events b
simple_events (simple.Update u) = update_events u

abbrev pub selector_events : Selector → Es
selector_events (selector.Default place) = []
selector_events (selector.Value e) = used e

abbrev pub leave_events : BreakIf → Es
leave_events b = used b.condition

-- a scope with these events
abbrev pub scope : Es → Es
scope es = event.Opens ∷ [] ++ es ++ event.Closes ∷ []

-- what stands in the parentheses of a `for`
abbrev pub header : Option Simple → Option Expr → Option Update → Es
header initial condition changed = maybe simple_events initial ++ maybe used condition ++ maybe update_events changed

-- the events of a statement by the place of its first token and its node
abbrev pub KindEs : Type 0
KindEs = Place → ℕ → Es

abbrev pub clause_step : Clause-F Es KindEs Es Es Es Es Es → Es
clause_step (open_stmt.Case keyword selectors trailing colon body) = flat_map selector_events selectors ++ body
clause_step (open_stmt.Default keyword colon body) = body

abbrev pub own : ℕ → Es
own node = event.Node node ∷ []

abbrev pub kind_step : List (List ℕ) → StmtKind-F Es KindEs Es Es Es Es Es → KindEs
kind_step names open_stmt.Empty place node = own node
kind_step names (open_stmt.Block block) place node = block ++ own node
kind_step names (open_stmt.Simple s) place node = simple_events s ++ own node
kind_step names (open_stmt.Return value) place node = maybe used value ++ own node
kind_step names open_stmt.Break place node = own node
kind_step names open_stmt.Continue place node = event.Continues place ∷ own node
kind_step names open_stmt.Discard place node = own node
kind_step names (open_stmt.ConstAssert condition) place node = used condition ++ own node
kind_step names (open_stmt.If attrs keyword condition first arms otherwise) place node = range names attrs ++ used condition ++ first ++ joined arms ++ given otherwise ++ range_end node
kind_step names (open_stmt.Switch attrs keyword chosen inner clauses end) place node =
    range names attrs ++ used chosen ++ range names inner ++ joined clauses ++ event.Uncovers ∷ [] ++ range_end node
kind_step names (open_stmt.Loop attrs keyword inner body continuing end) place node =
    range names attrs ++ range names inner ++ event.Opens ∷ [] ++ event.Loops ∷ [] ++ joined body ++ given continuing
    ++ event.LoopEnds ∷ [] ++ event.Closes ∷ [] ++ event.Uncovers ∷ [] ++ range_end node
kind_step names (open_stmt.For attrs keyword initial condition changed body) place node =
    range names attrs ++ event.Opens ∷ [] ++ event.Loops ∷ [] ++ header initial condition changed ++ body ++ event.LoopEnds ∷ [] ++ event.Closes ∷ [] ++ range_end node
kind_step names (open_stmt.While attrs keyword condition body) place node =
    range names attrs ++ event.Loops ∷ [] ++ used condition ++ body ++ event.LoopEnds ∷ [] ++ range_end node

abbrev pub arm_step : Arm-F Es KindEs Es Es Es Es Es → Es
arm_step a = used a.condition ++ a.body

abbrev pub block_step : List (List ℕ) → Block-F Es KindEs Es Es Es Es Es → Es
block_step names b = range names b.attrs ++ scope (joined b.body) ++ range_end b.node

abbrev pub continuing_step : List (List ℕ) → Continuing-F Es KindEs Es Es Es Es Es → Es
continuing_step names c = range names c.attrs ++ event.Turns ∷ [] ++ scope (joined c.body ++ maybe leave_events c.leave) ++ event.Uncovers ∷ []

abbrev pub otherwise_step : Otherwise-F Es KindEs Es Es Es Es Es → Es
otherwise_step o = o.body

abbrev pub stmt_step : Stmt-F Es KindEs Es Es Es Es Es → Es
stmt_step s = s.kind s.place s.node

abbrev pub stmt_events : List (List ℕ) → Stmt → Es
stmt_events names = fold-Stmt Es KindEs Es Es Es Es Es clause_step (kind_step names) arm_step (block_step names) (continuing_step names) otherwise_step stmt_step

abbrev pub block_events : List (List ℕ) → Block → Es
block_events names = fold-Block Es KindEs Es Es Es Es Es clause_step (kind_step names) arm_step (block_step names) (continuing_step names) otherwise_step stmt_step

abbrev pub otherwise_events : List (List ℕ) → Otherwise → Es
otherwise_events names = fold-Otherwise Es KindEs Es Es Es Es Es clause_step (kind_step names) arm_step (block_step names) (continuing_step names) otherwise_step stmt_step

abbrev pub clause_events : List (List ℕ) → Clause → Es
clause_events names = fold-Clause Es KindEs Es Es Es Es Es clause_step (kind_step names) arm_step (block_step names) (continuing_step names) otherwise_step stmt_step

abbrev pub arm_events : List (List ℕ) → Arm → Es
arm_events names = fold-Arm Es KindEs Es Es Es Es Es clause_step (kind_step names) arm_step (block_step names) (continuing_step names) otherwise_step stmt_step

abbrev pub continuing_events : List (List ℕ) → Continuing → Es
continuing_events names = fold-Continuing Es KindEs Es Es Es Es Es clause_step (kind_step names) arm_step (block_step names) (continuing_step names) otherwise_step stmt_step

-- the body of a function: its scope is that of the parameters
abbrev pub body_events : List (List ℕ) → Block → Es
body_events names b = range names (out-Block b).attrs ++ joined (map (stmt_events names) (out-Block b).body) ++ range_end (out-Block b).node

-- ---- declarations of the module, in force everywhere

abbrev pub member_uses : List (List ℕ) → Member → Es
member_uses names m = attrs_events names m.attrs ++ node_of m.name ++ used m.ty ++ own m.node

-- a parameter is in force behind its own type
abbrev pub param_events : List (List ℕ) → Member → Es
param_events names m = member_uses names m ++ declares m.name

abbrev pub member_declares : Member → Es
member_declares m = declares m.name

abbrev pub result_events : List (List ℕ) → FnResult → Es
result_events names r = attrs_events names r.attrs ++ used r.ty

abbrev pub decl_kind_events : List (List ℕ) → DeclKind → ℕ → Es
decl_kind_events names decl.Empty node = own node
decl_kind_events names (decl.Alias name ty) node = node_of name ++ used ty ++ own node
decl_kind_events names (decl.Const b) node = binding_uses b ++ own node
decl_kind_events names (decl.ConstAssert condition) node = used condition ++ own node
decl_kind_events names (decl.Struct name members trailing end) node = node_of name ++ flat_map (member_uses names) members ++ scope (flat_map member_declares members) ++ own node
decl_kind_events names (decl.Var attrs v) node = attrs_events names attrs ++ var_uses v ++ own node
decl_kind_events names (decl.Override attrs keyword name ty value) node = attrs_events names attrs ++ node_of name ++ maybe used ty ++ maybe used value ++ own node
decl_kind_events names (decl.Fn attrs keyword name params trailing result body) node =
    range names attrs ++ node_of name ++ event.Opens ∷ [] ++ flat_map (param_events names) params ++ maybe (result_events names) result
    ++ body_events names body ++ event.Closes ∷ [] ++ range_end node

-- what a declaration declares, and whether that is an entry: a function with `@compute` or `@workgroup_size`
abbrev pub declared_name : DeclKind → Option Named
declared_name decl.Empty = None
declared_name (decl.Alias name ty) = Some name
declared_name (decl.Const b) = Some b.name
declared_name (decl.ConstAssert condition) = None
declared_name (decl.Struct name members trailing end) = Some name
declared_name (decl.Var attrs v) = Some v.name
declared_name (decl.Override attrs keyword name ty value) = Some name
declared_name (decl.Fn attrs keyword name params trailing result body) = Some name

abbrev pub is_entry_name : List (List ℕ) → AttrName → Bool
is_entry_name names (attr.Name n) = is_one_of entry_words names n.name
is_entry_name names (attr.Diagnostic place) = false
is_entry_name names (attr.Const place) = false

abbrev pub is_entry : List (List ℕ) → DeclKind → Bool
is_entry names (decl.Fn attrs keyword name params trailing result body) = list_any (λ a. is_entry_name names a.name) attrs
is_entry names _ = false

-- the node by which a declaration is known: that of its name, where it has one
abbrev pub node_or : ℕ → Option Named → ℕ
node_or node None = node
node_or node (Some name) = name.node

abbrev pub declared_node : Decl → ℕ
declared_node d = node_or d.node (declared_name d.kind)

abbrev pub heading : Bool → Option Named → Es
heading entry None = []
heading entry (Some name) = event.Declares name entry ∷ []

abbrev pub head_events : List (List ℕ) → Decl → Es
head_events names d = heading (is_entry names d.kind) (declared_name d.kind)

abbrev pub decl_events : List (List ℕ) → Decl → Es
decl_events names d = event.Enters (declared_node d) ∷ [] ++ decl_kind_events names d.kind d.node

-- ---- directives and whole texts

abbrev pub rule_events : Rule → Es
rule_events (rule.Plain name) = node_of name
rule_events (rule.Scoped scope_name dot name) = node_of scope_name ++ node_of name

abbrev pub directive_kind_events : DirectiveKind → Es
directive_kind_events (directive.Diagnostic chosen r trailing) = node_of chosen ++ rule_events r
directive_kind_events (directive.Requires listed trailing) = flat_map node_of listed
directive_kind_events (directive.Enable listed trailing) = flat_map node_of listed

abbrev pub directive_events : List (List ℕ) → Directive → Es
directive_events names d = lacking (bad_directive names d.kind) ++ directive_kind_events d.kind ++ own d.node

-- the range of all directives is the module
abbrev pub directives_events : List (List ℕ) → List Directive → Es
directives_events names directives =
    flat_map (directive_events names) directives ++ event.Covers ∷ [] ++ flat_map (λ d. filter_events (directive_filter names d)) directives

abbrev pub tree_events : Tree → Es
tree_events t = directives_events t.names t.directives ++ flat_map (head_events t.names) t.decls ++ flat_map (decl_events t.names) t.decls
