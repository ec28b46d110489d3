-- Rule: what is asked of attributes and statements, in order: of the parts of a statement as they stand in the text, and of each statement behind
-- its operands. (WGSL, "Statements".)
use Rattle.std.specs.Prelude.{ℕ, Bool, true, false, List, [], ◌∷◌, ◌++◌, map, Option, Some, None, option_map, is_some, ◌&&◌}
use Rattle.std.specs.List.{flat_map}
use Rattle.shade_base.specs.declared.place.Place.{Place}
use Rattle.shade_ast.specs.declared.attr.Attr.{Attr}
use Rattle.shade_ast.specs.declared.attr.AttrName.{AttrName}
use Rattle.shade_ast.specs.declared.attr.AttrName.TheVariants as attr
use Rattle.shade_ast.specs.declared.attr.Arguments.{Arguments}
use Rattle.shade_ast.specs.declared.expr.Named.{Named}
use Rattle.shade_ast.specs.declared.expr.Expr.{Expr}
use Rattle.shade_ast.specs.declared.expr.ExprKind.{ExprKind, ExprKind-F, out-ExprKind}
use Rattle.shade_ast.specs.declared.expr.ExprKind.TheOpen as kind
use Rattle.shade_ast.specs.declared.stmt.Var.{Var}
use Rattle.shade_ast.specs.declared.stmt.VarSpace.{VarSpace}
use Rattle.shade_ast.specs.declared.stmt.Binding.{Binding}
use Rattle.shade_ast.specs.declared.stmt.Update.{Update}
use Rattle.shade_ast.specs.declared.stmt.Update.TheVariants as update
use Rattle.shade_ast.specs.declared.stmt.Simple.{Simple}
use Rattle.shade_ast.specs.declared.stmt.Simple.TheVariants as simple
use Rattle.shade_ast.specs.declared.stmt.Selector.{Selector}
use Rattle.shade_ast.specs.declared.stmt.Selector.TheVariants as selector
use Rattle.shade_ast.specs.declared.stmt.BreakIf.{BreakIf}
use Rattle.shade_ast.specs.declared.stmt.Clause.{Clause, Clause-F, fold-Clause}
use Rattle.shade_ast.specs.declared.stmt.Clause.TheOpen as open_stmt
use Rattle.shade_ast.specs.declared.stmt.StmtKind.{StmtKind-F}
use Rattle.shade_ast.specs.declared.stmt.Arm.{Arm, Arm-F, fold-Arm}
use Rattle.shade_ast.specs.declared.stmt.Block.{Block, Block-F, fold-Block}
use Rattle.shade_ast.specs.declared.stmt.Continuing.{Continuing, Continuing-F, fold-Continuing}
use Rattle.shade_ast.specs.declared.stmt.Otherwise.{Otherwise, Otherwise-F, fold-Otherwise}
use Rattle.shade_ast.specs.declared.stmt.Stmt.{Stmt, Stmt-F, fold-Stmt}
use Rattle.shade_events.specs.Words.{is_one_of, builtin_words}
use Rattle.shade_events.specs.Filters.{word_of, rule_of}
use Rattle.shade_known.specs.declared.known.Operand.{Operand}
use Rattle.shade_steps.specs.declared.step.Step.{Step}
use Rattle.shade_steps.specs.declared.step.Task.{Task}
use Rattle.shade_steps.specs.declared.step.Task.TheVariants as task
use Rattle.shade_steps.specs.declared.step.AttrMark.{AttrMark}
use Rattle.shade_steps.specs.declared.step.Position.{Position}
use Rattle.shade_steps.specs.declared.step.Position.TheVariants as position
use Rattle.shade_steps.specs.declared.step.Level.{Level}
use Rattle.shade_steps.specs.declared.step.Level.TheVariants as level
use Rattle.shade_steps.specs.declared.step.TypeRole.TheVariants as role
use Rattle.shade_steps.specs.Steps.{own_of, part_of, step_of, steps_of, steps_of_value, steps_of_type}

abbrev pub Es : Type 0
Es = List Step

abbrev pub maybe : {A : Type 0} → (A → Es) → Option A → Es
maybe f None = []
maybe f (Some a) = f a

abbrev pub joined : List Es → Es
joined [] = []
joined (es ∷ others) = es ++ joined others

abbrev pub given : Option Es → Es
given None = []
given (Some es) = es

-- one step, which stands in no right side of a `&&` or `||`
abbrev pub asks : Operand → Task → Es
asks own asked = step_of own None asked ∷ []

abbrev pub node_of : Expr → Operand
node_of e = (part_of e).own

abbrev pub name_of : Named → Operand
name_of n = own_of n.node n.place

-- a value, and what is asked of it besides
abbrev pub value_and : Expr → Task → Es
value_and e asked = steps_of_value None e ++ asks (node_of e) asked

-- the condition of a `const_assert` whose keyword stands at this place
abbrev pub assert_steps : Expr → Place → Es
assert_steps e keyword = value_and e (task.Asserts keyword)

-- ---- attributes

-- the arguments of `builtin` and `diagnostic` are words
abbrev pub has_words : List (List ℕ) → AttrName → Bool
has_words names (attr.Name n) = is_one_of builtin_words names n.name
has_words names (attr.Diagnostic place) = true
has_words names (attr.Const place) = false

-- nothing is asked of words
abbrev pub argument_steps : Bool → Arguments → Es
argument_steps true a = []
argument_steps false a = flat_map (steps_of_value None) a.items

abbrev pub nodes_of : Arguments → List Operand
nodes_of a = map node_of a.items

abbrev pub word_in : List Expr → Option ℕ
word_in (e ∷ []) = word_of e
word_in _ = None

-- the name that is the only argument
abbrev pub only_word : Option Arguments → Option ℕ
only_word None = None
only_word (Some a) = word_in a.items

abbrev pub filter_in : List Expr → Bool
filter_in (severity ∷ rule ∷ []) = is_some (word_of severity) && is_some (rule_of rule)
filter_in _ = false

-- whether there are a word and a rule, as `diagnostic` takes them
abbrev pub are_filter : Option Arguments → Bool
are_filter None = false
are_filter (Some a) = filter_in a.items

abbrev pub attr_task : Position → ℕ → Attr → Task
attr_task at first a = task.Attribute (record {
  position = at;
  first = first;
  name = a.name;
  arguments = option_map nodes_of a.arguments;
  word = only_word a.arguments;
  filter = are_filter a.arguments;
})

abbrev pub attr_steps : List (List ℕ) → Position → ℕ → Attr → Es
attr_steps names at first a = maybe (argument_steps (has_words names a.name)) a.arguments ++ asks (own_of a.node a.place) (attr_task at first a)

abbrev pub first_node : List Attr → ℕ
first_node [] = 0
first_node (a ∷ others) = a.node

-- some attributes that stand before one thing
abbrev pub attrs_steps : List (List ℕ) → Position → List Attr → Es
attrs_steps names at attrs = flat_map (attr_steps names at (first_node attrs)) attrs

abbrev pub range : List (List ℕ) → List Attr → Es
range names attrs = attrs_steps names position.Range attrs

-- ---- declarations

abbrev pub named_steps : Named → Es
named_steps n = asks (name_of n) (task.Name n.name)

abbrev pub space_steps : VarSpace → Es
space_steps s = named_steps s.space ++ maybe named_steps s.access

abbrev pub space_of : Option VarSpace → Option Operand
space_of None = None
space_of (Some s) = Some (name_of s.space)

abbrev pub access_of : Option VarSpace → Option Operand
access_of None = None
access_of (Some s) = option_map name_of s.access

abbrev pub var_task : Level → Place → List AttrMark → Var → Task
var_task stands place attributes v = task.Variable (record {
  level = stands;
  place = place;
  space = space_of v.space;
  access = access_of v.space;
  ty = option_map node_of v.ty;
  value = option_map node_of v.value;
  attributes = attributes;
})

abbrev pub var_steps : Level → Place → List AttrMark → Var → Es
var_steps stands place attributes v =
    maybe space_steps v.space ++ maybe (steps_of_type (role.Variable (space_of v.space))) v.ty ++ maybe (steps_of_value None) v.value ++ asks (name_of v.name) (var_task stands place attributes v)

abbrev pub binding_parts : Binding → Es
binding_parts b = maybe (steps_of_type role.Other) b.ty ++ steps_of_value None b.value

abbrev pub const_steps : Binding → Es
const_steps b = binding_parts b ++ asks (name_of b.name) (task.Constant (option_map node_of b.ty) (node_of b.value))

abbrev pub let_steps : Binding → Es
let_steps b = binding_parts b ++ asks (name_of b.name) (task.Binds (option_map node_of b.ty) (node_of b.value))

-- ---- what changes a variable

abbrev pub target_steps : Expr → Es
target_steps e = steps_of None e ++ asks (node_of e) task.Target

-- what is read before it is changed is also a value, which is asked of it first
abbrev pub changed_steps : Expr → Es
changed_steps e = steps_of_value None e ++ asks (node_of e) task.Target

-- what a call calls
abbrev pub callee_in : ExprKind-F ExprKind Expr → Expr → Operand
callee_in (kind.Call callee arguments trailing) e = node_of callee
callee_in _ e = node_of e

abbrev pub callee_of : Expr → Operand
callee_of e = callee_in (out-ExprKind e.kind) e

abbrev pub update_steps : Update → Es
update_steps (update.Assign target at value) = target_steps target ++ steps_of_value None value ++ asks (node_of target) (task.Assigns (node_of value))
update_steps (update.Compound target operator at value) = changed_steps target ++ steps_of_value None value ++ asks (node_of target) (task.Compound operator at (node_of value))
update_steps (update.Phony underscore at value) = steps_of_value None value
update_steps (update.Increment target at) = changed_steps target ++ asks (node_of target) (task.Increment at)
update_steps (update.Decrement target at) = changed_steps target ++ asks (node_of target) (task.Decrement at)
update_steps (update.Call e) = steps_of None e ++ asks (node_of e) (task.Dropped (callee_of e))

abbrev pub simple_steps : Simple → Es
simple_steps (simple.Var v) = var_steps level.Function v.keyword [] v
simple_steps (simple.Const b) = const_steps b
simple_steps (simple.Let b) = let_steps b
simple_steps (simple.Update u) = update_steps u

-- ---- statements

abbrev pub condition_steps : Expr → Es
condition_steps e = value_and e task.Condition

abbrev pub default_steps : ℕ → Place → Es
default_steps switch place = asks (own_of switch place) task.Default

-- the case value, and the `switch` by it, at its place
abbrev pub case_steps : ℕ → Expr → Es
case_steps switch e = steps_of_value None e ++ asks (own_of switch (node_of e).place) (task.Case (node_of e))

-- of the `switch` with this node
abbrev pub selector_steps : ℕ → Selector → Es
selector_steps switch (selector.Default place) = default_steps switch place
selector_steps switch (selector.Value e) = case_steps switch e

abbrev pub leave_steps : BreakIf → Es
leave_steps b = condition_steps b.condition

-- the selector of the `switch` that is this node
abbrev pub selected_steps : Operand → Expr → Es
selected_steps own e = steps_of_value None e ++ asks own (task.Selects (node_of e))

-- what stands in the parentheses of a `for`
abbrev pub header : Option Simple → Option Expr → Option Update → Es
header initial condition changed = maybe simple_steps initial ++ maybe condition_steps condition ++ maybe update_steps changed

-- the steps of a clause, by the node of its `switch`
abbrev pub InSwitch : Type 0
InSwitch = ℕ → Es

abbrev pub clauses_steps : ℕ → List InSwitch → Es
clauses_steps switch [] = []
clauses_steps switch (c ∷ cs) = c switch ++ clauses_steps switch cs

-- the steps of a statement, by the place of its first token and its node
abbrev pub KindEs : Type 0
KindEs = Place → ℕ → Es

abbrev pub clause_step : Clause-F InSwitch KindEs Es Es Es Es Es → InSwitch
clause_step (open_stmt.Case keyword selectors trailing colon body) switch = flat_map (selector_steps switch) selectors ++ body
clause_step (open_stmt.Default keyword colon body) switch = default_steps switch keyword ++ body

abbrev pub kind_step : List (List ℕ) → ℕ → StmtKind-F InSwitch KindEs Es Es Es Es Es → KindEs
kind_step names function open_stmt.Empty place node = []
kind_step names function (open_stmt.Block block) place node = block
kind_step names function (open_stmt.Simple s) place node = simple_steps s
kind_step names function (open_stmt.Return value) place node =
    maybe (steps_of_value None) value ++ asks (own_of node place) (task.Returns function (option_map node_of value))
kind_step names function open_stmt.Break place node = []
kind_step names function open_stmt.Continue place node = []
kind_step names function open_stmt.Discard place node = asks (own_of node place) task.Discards
kind_step names function (open_stmt.ConstAssert condition) place node = assert_steps condition place
kind_step names function (open_stmt.If attrs keyword condition first arms otherwise) place node =
    range names attrs ++ condition_steps condition ++ first ++ joined arms ++ given otherwise
kind_step names function (open_stmt.Switch attrs keyword chosen inner clauses end) place node =
    range names attrs ++ selected_steps (own_of node place) chosen ++ range names inner ++ clauses_steps node clauses
    ++ asks (own_of node place) task.Chosen
kind_step names function (open_stmt.Loop attrs keyword inner body continuing end) place node = range names attrs ++ range names inner ++ joined body ++ given continuing
kind_step names function (open_stmt.For attrs keyword initial condition changed body) place node = range names attrs ++ header initial condition changed ++ body
kind_step names function (open_stmt.While attrs keyword condition body) place node = range names attrs ++ condition_steps condition ++ body

abbrev pub arm_step : Arm-F InSwitch KindEs Es Es Es Es Es → Es
arm_step a = condition_steps a.condition ++ a.body

abbrev pub block_step : List (List ℕ) → Block-F InSwitch KindEs Es Es Es Es Es → Es
block_step names b = range names b.attrs ++ joined b.body

abbrev pub continuing_step : List (List ℕ) → Continuing-F InSwitch KindEs Es Es Es Es Es → Es
continuing_step names c = range names c.attrs ++ joined c.body ++ maybe leave_steps c.leave

abbrev pub otherwise_step : Otherwise-F InSwitch KindEs Es Es Es Es Es → Es
otherwise_step o = o.body

abbrev pub stmt_step : Stmt-F InSwitch KindEs Es Es Es Es Es → Es
stmt_step s = s.kind s.place s.node

-- in the body of the function with this node
abbrev pub stmt_steps : List (List ℕ) → ℕ → Stmt → Es
stmt_steps names function = fold-Stmt InSwitch KindEs Es Es Es Es Es clause_step (kind_step names function) arm_step (block_step names) (continuing_step names) otherwise_step stmt_step

abbrev pub block_steps : List (List ℕ) → ℕ → Block → Es
block_steps names function = fold-Block InSwitch KindEs Es Es Es Es Es clause_step (kind_step names function) arm_step (block_step names) (continuing_step names) otherwise_step stmt_step

abbrev pub otherwise_steps : List (List ℕ) → ℕ → Otherwise → Es
otherwise_steps names function = fold-Otherwise InSwitch KindEs Es Es Es Es Es clause_step (kind_step names function) arm_step (block_step names) (continuing_step names) otherwise_step stmt_step

abbrev pub clause_steps : List (List ℕ) → ℕ → Clause → InSwitch
clause_steps names function = fold-Clause InSwitch KindEs Es Es Es Es Es clause_step (kind_step names function) arm_step (block_step names) (continuing_step names) otherwise_step stmt_step

abbrev pub arm_steps : List (List ℕ) → ℕ → Arm → Es
arm_steps names function = fold-Arm InSwitch KindEs Es Es Es Es Es clause_step (kind_step names function) arm_step (block_step names) (continuing_step names) otherwise_step stmt_step

abbrev pub continuing_steps : List (List ℕ) → ℕ → Continuing → Es
continuing_steps names function = fold-Continuing InSwitch KindEs Es Es Es Es Es clause_step (kind_step names function) arm_step (block_step names) (continuing_step names) otherwise_step stmt_step
