-- The nodes and edges of a function's uniformity graph. An edge from u to v means: where u must be uniform, v must be.
-- The rules are this project's, after WGSL, "Uniformity analysis". They are said of functions that have rules (`has_rules`).
use Rattle.std.specs.Prelude.{◌≡◌, ℕ, ◌<◌, true, false, if◌then◌else◌, Option, Some, List, ◌∷◌, length, slice_get, IsSome}
use Rattle.shade_base.specs.declared.severity.Severity.{Severity}
use Rattle.shade_base.specs.declared.severity.Severity.TheVariants.{Error, Warning, Info}
use Rattle.shade_values.specs.declared.op.Op.{Op}
use Rattle.shade_values.specs.declared.types.Space.{Space}
use Rattle.shade_core.specs.declared.statement.Operand.{Operand}
use Rattle.shade_core.specs.declared.statement.Operand.TheVariants as operand
use Rattle.shade_core.specs.declared.module.CoreFunction.{CoreFunction}
use Rattle.shade_core.specs.declared.module.CoreParam.{CoreParam}
use Rattle.shade_core.specs.declared.module.CoreParam.TheVariants.{Input}
use Rattle.shade_core.specs.declared.module.BuiltinInput.TheVariants.{LocalId, LocalIndex, GlobalId}
use Rattle.shade_core.specs.Code.{Plain, Set, Barrier, Jump, Return, Code, done, plain, jump, call, branch, switch, loop, no_part, part, code_of}
use Rattle.shade_core.specs.Behaviour.{branch_behaviour, switch_behaviour, loop_behaviour, goes_on}
use Rattle.shade_graph.specs.declared.node.Node.{Node}
use Rattle.shade_graph.specs.declared.node.Node.TheVariants.{Required, NonUniform, Start, Param, Returned, Before, After, Part, Value}

-- The node of an operand: of a parameter or of a statement's value. A constant has none.
pub data Names : Operand → Node → Type 0 where
  names_param : {i : ℕ} → Names (operand.Param i) (Param i)
  names_temp : {n : ℕ} → Names (operand.Temp n) (Value n)

-- one of a list
pub data Among {A : Type 0} (x : A) : List A → Type 0 where
  here : {rest : List A} → Among x (x ∷ rest)
  later : {other : A} {rest : List A} → Among x rest → Among x (other ∷ rest)

-- Where control is at the end of a list that begins under a node: after the last analysed statement, or at that node where the
-- list is empty. A list is analysed up to and including its first statement without Next.
abbrev pub end_of : Node → Code → Node
end_of a (plain n act rest) = end_of (After n) rest
end_of a (jump n act rest) = After n
end_of a (call n g args rest) = end_of (After n) rest
end_of a (branch n cond one two rest) = if (branch_behaviour one two).next then end_of (After n) rest else After n
end_of a (switch n selector parts rest) = if (switch_behaviour parts).next then end_of (After n) rest else After n
end_of a (loop n body continuing leave rest) = if (loop_behaviour body continuing leave).next then end_of (After n) rest else After n
end_of a done = a
end_of a no_part = a
end_of a (part n which keys fallback body others) = a

-- a statement with these acts gives a value
pub data GivesValue : Plain → Type 0 where
  set_gives : {op : Op} {args : List Operand} → GivesValue (Set op args)

-- the nodes of the analysed statements of a list
pub data Stands : Code → Node → Type 0 where
  plain_stands_before : {n : ℕ} {act : Plain} {rest : Code} → Stands (plain n act rest) (Before n)
  plain_stands_after : {n : ℕ} {act : Plain} {rest : Code} → Stands (plain n act rest) (After n)
  plain_stands_value : {n : ℕ} {act : Plain} {rest : Code} → GivesValue act → Stands (plain n act rest) (Value n)
  plain_stands_rest : {n : ℕ} {act : Plain} {rest : Code} {u : Node} → Stands rest u → Stands (plain n act rest) u
  jump_stands_before : {n : ℕ} {act : Jump} {rest : Code} → Stands (jump n act rest) (Before n)
  jump_stands_after : {n : ℕ} {act : Jump} {rest : Code} → Stands (jump n act rest) (After n)
  branch_stands_before : {n : ℕ} {cond : Operand} {one two rest : Code} → Stands (branch n cond one two rest) (Before n)
  branch_stands_after : {n : ℕ} {cond : Operand} {one two rest : Code} → Stands (branch n cond one two rest) (After n)
  branch_stands_one : {n : ℕ} {cond : Operand} {one two rest : Code} → Stands (branch n cond one two rest) (Part n 0)
  branch_stands_two : {n : ℕ} {cond : Operand} {one two rest : Code} → Stands (branch n cond one two rest) (Part n 1)
  branch_stands_in_one : {n : ℕ} {cond : Operand} {one two rest : Code} {u : Node} → Stands one u → Stands (branch n cond one two rest) u
  branch_stands_in_two : {n : ℕ} {cond : Operand} {one two rest : Code} {u : Node} → Stands two u → Stands (branch n cond one two rest) u
  branch_stands_rest : {n : ℕ} {cond : Operand} {one two rest : Code} {u : Node} → (branch_behaviour one two).next ≡ true → Stands rest u → Stands (branch n cond one two rest) u

-- The nodes of a function.
pub data IsNode (function : CoreFunction) : Node → Type 0 where
  required_error : IsNode function (Required Error)
  required_warning : IsNode function (Required Warning)
  required_info : IsNode function (Required Info)
  non_uniform : IsNode function NonUniform
  start : IsNode function Start
  parameter : {i : ℕ} → i < length function.params → IsNode function (Param i)
  returned : IsSome function.result → IsNode function Returned
  of_statement : {u : Node} → Stands (code_of function.body) u → IsNode function u

-- the rows of a statement without parts
pub data ActRow (n : ℕ) : Plain → Node → Node → Type 0 where
  barrier_required : {space : Space} {severity : Severity} → ActRow n (Barrier space severity) (Required severity) (Before n)
  set_before : {op : Op} {args : List Operand} → ActRow n (Set op args) (Value n) (Before n)
  set_argument : {op : Op} {args : List Operand} {operand : Operand} {v : Node} → Among operand args → Names operand v → ActRow n (Set op args) (Value n) v

-- The rows of the analysed statements of a list that begins under the node a: the statement with the first number gives an edge
-- from the first node to the second.
pub data Row : Node → Code → ℕ → Node → Node → Type 0 where
  plain_before : {a : Node} {n : ℕ} {act : Plain} {rest : Code} → Row a (plain n act rest) n (Before n) a
  plain_after : {a : Node} {n : ℕ} {act : Plain} {rest : Code} → Row a (plain n act rest) n (After n) (Before n)
  plain_row : {a : Node} {n : ℕ} {act : Plain} {rest : Code} {u v : Node} → ActRow n act u v → Row a (plain n act rest) n u v
  plain_rest : {a : Node} {n s : ℕ} {act : Plain} {rest : Code} {u v : Node} → Row (After n) rest s u v → Row a (plain n act rest) s u v
  jump_before : {a : Node} {n : ℕ} {act : Jump} {rest : Code} → Row a (jump n act rest) n (Before n) a
  jump_after : {a : Node} {n : ℕ} {act : Jump} {rest : Code} → Row a (jump n act rest) n (After n) (Before n)
  jump_returned : {a : Node} {n : ℕ} {value : Option Operand} {rest : Code} → Row a (jump n (Return value) rest) n Returned (Before n)
  jump_value : {a v : Node} {n : ℕ} {value : Operand} {rest : Code} → Names value v → Row a (jump n (Return (Some value)) rest) n Returned v
  branch_before : {a : Node} {n : ℕ} {cond : Operand} {one two rest : Code} → Row a (branch n cond one two rest) n (Before n) a
  branch_one : {a : Node} {n : ℕ} {cond : Operand} {one two rest : Code} → Row a (branch n cond one two rest) n (Part n 0) (Before n)
  branch_two : {a : Node} {n : ℕ} {cond : Operand} {one two rest : Code} → Row a (branch n cond one two rest) n (Part n 1) (Before n)
  branch_one_cond : {a v : Node} {n : ℕ} {cond : Operand} {one two rest : Code} → Names cond v → Row a (branch n cond one two rest) n (Part n 0) v
  branch_two_cond : {a v : Node} {n : ℕ} {cond : Operand} {one two rest : Code} → Names cond v → Row a (branch n cond one two rest) n (Part n 1) v
  branch_next : {a : Node} {n : ℕ} {cond : Operand} {one two rest : Code} → goes_on (branch_behaviour one two) ≡ true → Row a (branch n cond one two rest) n (After n) (Before n)
  branch_end_one : {a : Node} {n : ℕ} {cond : Operand} {one two rest : Code} → goes_on (branch_behaviour one two) ≡ false → Row a (branch n cond one two rest) n (After n) (end_of (Part n 0) one)
  branch_end_two : {a : Node} {n : ℕ} {cond : Operand} {one two rest : Code} → goes_on (branch_behaviour one two) ≡ false → Row a (branch n cond one two rest) n (After n) (end_of (Part n 1) two)
  branch_in_one : {a : Node} {n s : ℕ} {cond : Operand} {one two rest : Code} {u v : Node} → Row (Part n 0) one s u v → Row a (branch n cond one two rest) s u v
  branch_in_two : {a : Node} {n s : ℕ} {cond : Operand} {one two rest : Code} {u v : Node} → Row (Part n 1) two s u v → Row a (branch n cond one two rest) s u v
  branch_rest : {a : Node} {n s : ℕ} {cond : Operand} {one two rest : Code} {u v : Node} → (branch_behaviour one two).next ≡ true → Row (After n) rest s u v → Row a (branch n cond one two rest) s u v

-- an input that differs from lane to lane
pub data Differs : CoreParam → Type 0 where
  local_id : Differs (Input LocalId)
  local_index : Differs (Input LocalIndex)
  global_id : Differs (Input GlobalId)

-- The statement with a number gives an edge between two nodes of a function.
pub record Gives (function : CoreFunction) (s : ℕ) (u v : Node) : Type 0 where
  pub from : IsNode function u
  pub to : IsNode function v
  pub row : Row Start (code_of function.body) s u v

-- The edges of a function: of the inputs of an entry that differ, and those that its statements give. A node that does not stand
-- is the end of none.
pub data Edge (function : CoreFunction) : Node → Node → Type 0 where
  differs : {i : ℕ} {param : CoreParam} → IsSome function.entry → slice_get function.params i ≡ Some param → Differs param → Edge function (Param i) NonUniform
  given : {s : ℕ} {u v : Node} → Gives function s u v → Edge function u v
