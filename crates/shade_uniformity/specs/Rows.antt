-- What the rules of uniformity say of one analysed statement. (This project's rules, after WGSL, "Uniformity analysis": "Uniformity Rules for
-- Statements", "Uniformity Rules for Expressions" and "Uniformity Rules for Function Calls".)
use Rattle.std.specs.Prelude.{◌≡◌, ℕ, true, false, Option, Some, List, [], slice_get, IsSome}
use Rattle.shade_base.specs.declared.severity.Severity.{Severity}
use Rattle.shade_values.specs.declared.op.Op.{Op}
use Rattle.shade_values.specs.declared.types.Access.TheVariants.{ReadWrite}
use Rattle.shade_values.specs.declared.types.ShadeType.TheVariants as type
use Rattle.shade_values.specs.declared.types.Space.{Space}
use Rattle.shade_values.specs.declared.types.Space.TheVariants.{Private, Workgroup, Storage}
use Rattle.shade_values.specs.declared.types.TypeId.{TypeId}
use Rattle.shade_core.specs.declared.module.CoreFunction.{CoreFunction}
use Rattle.shade_core.specs.declared.module.CoreModule.{CoreModule}
use Rattle.shade_core.specs.declared.module.CoreParam.TheVariants as param
use Rattle.shade_core.specs.declared.module.Root.{Root}
use Rattle.shade_core.specs.declared.statement.Argument.{Argument}
use Rattle.shade_core.specs.declared.statement.Argument.TheVariants.{Pointer}
use Rattle.shade_core.specs.declared.statement.Argument.TheVariants as argument
use Rattle.shade_core.specs.declared.statement.Base.{Base}
use Rattle.shade_core.specs.declared.statement.Base.TheVariants.{Local, Module, Pointee}
use Rattle.shade_core.specs.declared.statement.Operand.{Operand}
use Rattle.shade_core.specs.declared.statement.View.{View}
use Rattle.shade_core.specs.declared.statement.ViewStep.TheVariants.{Index}
use Rattle.shade_core.specs.Code.{Plain, Set, Load, Declare, Store, Atomic, Barrier, UniformLoad, Length, Jump, Return, Code, plain, jump, call, branch, switch, loop, code_of}
use Rattle.shade_core.specs.Behaviour.{goes_on}
use Rattle.shade_flow.specs.declared.definition.Definition.{Definition}
use Rattle.shade_flow.specs.declared.definition.Definition.TheVariants as definition
use Rattle.shade_flow.specs.declared.point.Point.TheVariants.{At}
use Rattle.shade_flow.specs.Definitions.{tracked}
use Rattle.shade_flow.specs.Flow.{Reaches}
use Rattle.shade_graph.specs.declared.node.Node.{Node}
use Rattle.shade_graph.specs.declared.node.Node.TheVariants.{Required, NonUniform, Start, Param, ContentsIn, ContentsOut, Returned, Before, After, Part, Value, Stored}
use Rattle.shade_graph.specs.declared.node.Tag.{Tag}
use Rattle.shade_graph.specs.Graph.{Among, Names, end_of}
use Rattle.shade_uniformity.specs.Structure.{Starts, first_ways, HasPart}

-- ---- variables

-- an operand that says which part of a variable a view leads to
abbrev pub Indexes : View → Operand → Type 0
Indexes view operand = Among (Index operand) view.steps

-- a definition of a tracked variable that reaches the statement with a number
pub record IsHeld (function : CoreFunction) (variable : Base) (n : ℕ) (by : Definition) : Type 0 where
  pub followed : tracked function variable ≡ true
  pub reaches : Reaches (code_of function.body) variable by (At n)

-- the node of what a definition gives
abbrev pub definition_node : Definition → Node
definition_node (definition.Entry i) = ContentsIn i
definition_node (definition.At n) = Stored n 0
definition_node (definition.Argument n j) = Stored n j

-- A variable whose value may differ from lane to lane whatever the function does: one of the module that may be written, or what a
-- parameter points to in such a space. A tracked variable is none, nor is one that is only read.
pub data MayDiffer (shader : CoreModule) (function : CoreFunction) : Base → Type 0 where
  writable_root : {i : ℕ} {root : Root} → slice_get shader.roots i ≡ Some root → root.access ≡ ReadWrite → MayDiffer shader function (Module i)
  private_pointee : {i : ℕ} {ty : TypeId} → slice_get function.params i ≡ Some (param.Pointer Private ty) → MayDiffer shader function (Pointee i)
  workgroup_pointee : {i : ℕ} {ty : TypeId} → slice_get function.params i ≡ Some (param.Pointer Workgroup ty) → MayDiffer shader function (Pointee i)
  storage_pointee : {i : ℕ} {ty pointee : TypeId} {space : Space} → slice_get function.params i ≡ Some (param.Pointer Storage ty)
      → slice_get shader.types.types ty.0 ≡ Some (type.Pointer space pointee ReadWrite) → MayDiffer shader function (Pointee i)

-- a statement that writes a variable, and the value that it writes where it has one
pub data Writes : Plain → Base → Option Operand → Type 0 where
  declare_writes : {local : ℕ} {value : Option Operand} → Writes (Declare local value) (Local local) value
  store_writes : {view : View} {value : Operand} → Writes (Store view value) view.base (Some value)

-- the views of statements that read or write through them, but for atomic operations
pub data Views : Plain → View → Type 0 where
  load_views : {view : View} → Views (Load view) view
  store_views : {view : View} {value : Operand} → Views (Store view value) view

-- ---- which statements have which nodes

-- A statement that gives a value. A call does where its function has a result.
pub data GivesValue : Plain → Type 0 where
  set_gives : {op : Op} {args : List Operand} → GivesValue (Set op args)
  load_gives : {view : View} → GivesValue (Load view)
  atomic_gives : {op : Op} {view : View} {args : List Operand} → GivesValue (Atomic op view args)
  uniform_load_gives : {view : View} {severity : Severity} → GivesValue (UniformLoad view severity)
  length_gives : {view : View} → GivesValue (Length view)

-- The nodes of the statement that a list begins with: control before it and after it, each of its parts, its value, and what it stores in a
-- tracked variable. The standard has them as the nodes of control flow and of values that its tables of rules are written with.
pub data StatementNode (shader : CoreModule) (function : CoreFunction) : Code → Node → Type 0 where
  before_stands : {c rest : Code} {n : ℕ} → Starts c n rest → StatementNode shader function c (Before n)
  after_stands : {c rest : Code} {n : ℕ} → Starts c n rest → StatementNode shader function c (After n)
  part_stands : {c body : Code} {n p : ℕ} → HasPart c n p body → StatementNode shader function c (Part n p)
  value_stands : {n : ℕ} {act : Plain} {rest : Code} → GivesValue act → StatementNode shader function (plain n act rest) (Value n)
  call_value_stands : {n g : ℕ} {args : List Argument} {rest : Code} {callee : CoreFunction} → slice_get shader.functions g ≡ Some callee → IsSome callee.result
      → StatementNode shader function (call n g args rest) (Value n)
  stored_stands : {n : ℕ} {act : Plain} {rest : Code} {variable : Base} {value : Option Operand} → Writes act variable value → tracked function variable ≡ true
      → StatementNode shader function (plain n act rest) (Stored n 0)
  argument_stands : {n g j : ℕ} {args : List Argument} {rest : Code} {view : View} → slice_get args j ≡ Some (Pointer view) → tracked function view.base ≡ true
      → StatementNode shader function (call n g args rest) (Stored n j)

-- ---- the rows of one statement, tags aside

-- a statement without parts
pub data IsSimple : Code → Type 0 where
  plain_simple : {n : ℕ} {act : Plain} {rest : Code} → IsSimple (plain n act rest)
  jump_simple : {n : ℕ} {act : Jump} {rest : Code} → IsSimple (jump n act rest)
  call_simple : {n g : ℕ} {args : List Argument} {rest : Code} → IsSimple (call n g args rest)

-- a statement that takes one of its parts by an operand
pub data Selects : Code → Operand → Type 0 where
  branch_selects : {n : ℕ} {cond : Operand} {one two rest : Code} → Selects (branch n cond one two rest) cond
  switch_selects : {n : ℕ} {selector : Operand} {parts rest : Code} → Selects (switch n selector parts rest) selector

-- a statement of a severity at which all lanes of a workgroup have to wait together
pub data Collects : Plain → Severity → Type 0 where
  barrier_collects : {space : Space} {severity : Severity} → Collects (Barrier space severity) severity
  uniform_load_collects : {view : View} {severity : Severity} → Collects (UniformLoad view severity) severity

-- a statement whose value stands for control before it: any that gives one but an atomic operation, whose value is never uniform
pub data GivesUnder : Plain → Type 0 where
  set_under : {op : Op} {args : List Operand} → GivesUnder (Set op args)
  load_under : {view : View} → GivesUnder (Load view)
  uniform_load_under : {view : View} {severity : Severity} → GivesUnder (UniformLoad view severity)
  length_under : {view : View} → GivesUnder (Length view)

-- what a Load or a Store moves
pub data Moves (n : ℕ) : Plain → Node → Type 0 where
  load_moves : {view : View} → Moves n (Load view) (Value n)
  store_moves : {view : View} {value : Operand} → Moves n (Store view value) (Stored n 0)

-- The rows of an analysed statement to which control comes from a node: an edge from u to v, so where u must be uniform, v must be. Each
-- is given by the statement's own kind; what a call adds by the tags of its function stands below.
pub data Row (shader : CoreModule) (function : CoreFunction) (a : Node) : Code → Node → Node → Type 0 where
  -- control
  control_before : {c rest : Code} {n : ℕ} → Starts c n rest → Row shader function a c (Before n) a
  control_after : {c rest : Code} {n : ℕ} → Starts c n rest → IsSimple c → Row shader function a c (After n) (Before n)
  selected_part : {c body : Code} {n p : ℕ} {operand : Operand} → Selects c operand → HasPart c n p body → Row shader function a c (Part n p) (Before n)
  selected_by : {c body : Code} {n p : ℕ} {operand : Operand} {v : Node} → Selects c operand → HasPart c n p body → Names operand v
      → Row shader function a c (Part n p) v
  goes_on_after : {c body : Code} {n p : ℕ} → HasPart c n p body → goes_on (first_ways c) ≡ true → Row shader function a c (After n) (Before n)
  selected_end : {c body : Code} {n p : ℕ} {operand : Operand} → Selects c operand → HasPart c n p body → goes_on (first_ways c) ≡ false
      → Row shader function a c (After n) (end_of (Part n p) body)
  loop_begin : {n : ℕ} {body continuing rest : Code} {leave : Option Operand} → Row shader function a (loop n body continuing leave rest) (Part n 0) (Before n)
  loop_turn : {n : ℕ} {body continuing rest : Code} {leave : Option Operand} → Row shader function a (loop n body continuing leave rest) (Part n 0) (end_of (Part n 1) continuing)
  loop_leave : {n : ℕ} {body continuing rest : Code} {operand : Operand} {v : Node} → Names operand v → Row shader function a (loop n body continuing (Some operand) rest) (Part n 0) v
  loop_continuing : {n : ℕ} {body continuing rest : Code} {leave : Option Operand} → Row shader function a (loop n body continuing leave rest) (Part n 1) (end_of (Part n 0) body)
  loop_after : {n : ℕ} {body continuing rest : Code} {leave : Option Operand} → goes_on (first_ways (loop n body continuing leave rest)) ≡ false
      → Row shader function a (loop n body continuing leave rest) (After n) (Part n 0)
  -- what has to be uniform
  required_control : {n : ℕ} {act : Plain} {rest : Code} {severity : Severity} → Collects act severity → Row shader function a (plain n act rest) (Required severity) (Before n)
  required_index : {n : ℕ} {view : View} {severity : Severity} {rest : Code} {operand : Operand} {v : Node} → Indexes view operand → Names operand v
      → Row shader function a (plain n (UniformLoad view severity) rest) (Required severity) v
  required_pointer : {n i : ℕ} {view : View} {severity : Severity} {rest : Code} → view.base ≡ Pointee i → Row shader function a (plain n (UniformLoad view severity) rest) (Required severity) (Param i)
  -- values
  value_control : {n : ℕ} {act : Plain} {rest : Code} → GivesUnder act → Row shader function a (plain n act rest) (Value n) (Before n)
  value_operand : {n : ℕ} {op : Op} {args : List Operand} {rest : Code} {operand : Operand} {v : Node} → Among operand args → Names operand v → Row shader function a (plain n (Set op args) rest) (Value n) v
  value_atomic : {n : ℕ} {op : Op} {view : View} {args : List Operand} {rest : Code} → Row shader function a (plain n (Atomic op view args) rest) (Value n) NonUniform
  value_call : {n g : ℕ} {args : List Argument} {rest : Code} → Row shader function a (call n g args rest) (Value n) (Before n)
  -- loads and stores
  moved_index : {n : ℕ} {act : Plain} {view : View} {rest : Code} {operand : Operand} {u v : Node} → Moves n act u → Views act view → Indexes view operand → Names operand v
      → Row shader function a (plain n act rest) u v
  moved_pointer : {n i : ℕ} {act : Plain} {view : View} {rest : Code} {u : Node} → Moves n act u → Views act view → view.base ≡ Pointee i → Row shader function a (plain n act rest) u (Param i)
  loaded_definition : {n : ℕ} {view : View} {rest : Code} {by : Definition} → IsHeld function view.base n by → Row shader function a (plain n (Load view) rest) (Value n) (definition_node by)
  loaded_differs : {n : ℕ} {view : View} {rest : Code} → MayDiffer shader function view.base → Row shader function a (plain n (Load view) rest) (Value n) NonUniform
  stored_control : {n : ℕ} {act : Plain} {rest : Code} {variable : Base} {value : Option Operand} → Writes act variable value → Row shader function a (plain n act rest) (Stored n 0) (Before n)
  stored_value : {n : ℕ} {act : Plain} {rest : Code} {variable : Base} {value : Operand} {v : Node} → Writes act variable (Some value) → Names value v
      → Row shader function a (plain n act rest) (Stored n 0) v
  -- what a function gives back
  returned_control : {n : ℕ} {value : Option Operand} {rest : Code} → Row shader function a (jump n (Return value) rest) Returned (Before n)
  returned_value : {n : ℕ} {value : Operand} {rest : Code} {v : Node} → Names value v → Row shader function a (jump n (Return (Some value)) rest) Returned v
  returned_contents : {n i : ℕ} {value : Option Operand} {rest : Code} {by : Definition} → IsHeld function (Pointee i) n by
      → Row shader function a (jump n (Return value) rest) (ContentsOut i) (definition_node by)

-- ---- what a call adds

-- what the source of a tag is at a call
pub data SourceAt (n : ℕ) : Node → Node → Type 0 where
  required_at : {severity : Severity} → SourceAt n (Required severity) (Required severity)
  returned_at : SourceAt n Returned (Value n)
  contents_out_at : {j : ℕ} → SourceAt n (ContentsOut j) (Stored n j)

-- What the target of a tag is at a call with these arguments. A pointer is what its indices are and, where it leads on from what a parameter
-- points to, what this parameter is; what it points to is each definition that reaches the call.
pub data TargetAt (function : CoreFunction) (n : ℕ) (args : List Argument) : Node → Node → Type 0 where
  start_at : TargetAt function n args Start (Before n)
  non_uniform_at : TargetAt function n args NonUniform NonUniform
  plain_at : {i : ℕ} {operand : Operand} {v : Node} → slice_get args i ≡ Some (argument.Plain operand) → Names operand v → TargetAt function n args (Param i) v
  index_at : {i : ℕ} {view : View} {operand : Operand} {v : Node} → slice_get args i ≡ Some (Pointer view) → Indexes view operand → Names operand v → TargetAt function n args (Param i) v
  pointer_at : {i k : ℕ} {view : View} → slice_get args i ≡ Some (Pointer view) → view.base ≡ Pointee k → TargetAt function n args (Param i) (Param k)
  contents_in_at : {i : ℕ} {view : View} {by : Definition} → slice_get args i ≡ Some (Pointer view) → IsHeld function view.base n by → TargetAt function n args (ContentsIn i) (definition_node by)

-- A call gives an edge by a tag of the function that it calls: between what the ends of the tag are there.
pub data TagRow (function : CoreFunction) (tags : List (List Tag)) : Code → Tag → Node → Node → Type 0 where
  by_tag : {n g : ℕ} {args : List Argument} {rest : Code} {of : List Tag} {tag : Tag} {u v : Node} → slice_get tags g ≡ Some of → Among tag of → SourceAt n tag.source u → TargetAt function n args tag.target v
      → TagRow function tags (call n g args rest) tag u v
