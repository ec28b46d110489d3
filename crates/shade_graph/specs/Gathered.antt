-- The nodes and edges of statements as lists, in the order in which one walk over a function meets them.
use Rattle.std.specs.Prelude.{ℕ, Bool, true, false, if◌then◌else◌, Option, Some, None, List, [], ◌∷◌, ◌++◌}
use Rattle.shade_core.specs.declared.statement.Operand.{Operand}
use Rattle.shade_core.specs.declared.statement.Operand.TheVariants as operand
use Rattle.shade_core.specs.declared.statement.Act.{Act, Act-F}
use Rattle.shade_core.specs.declared.statement.Act.TheOpen as act
use Rattle.shade_core.specs.declared.statement.CoreStatement.{CoreStatement}
use Rattle.shade_core.specs.declared.statement.SwitchPart.{SwitchPart}
use Rattle.shade_core.specs.Code.{Plain, Set, Load, Declare, Store, Atomic, Barrier, UniformLoad, Length, Jump, Break, Continue, Return, Code, plain, jump, branch, code_of}
use Rattle.shade_core.specs.Behaviour.{branch_behaviour, goes_on}
use Rattle.shade_graph.specs.declared.node.Node.{Node}
use Rattle.shade_graph.specs.declared.node.Node.TheVariants.{Required, Param, Returned, Before, After, Part, Value}
use Rattle.shade_graph.specs.declared.gather.GivenEdge.{GivenEdge}
use Rattle.shade_graph.specs.Graph.{end_of}

-- an edge that a statement gives
abbrev pub given : ℕ → Node → Node → GivenEdge
given n u v = record { statement = n; from = u; to = v }

abbrev pub operand_edges : ℕ → Node → Operand → List GivenEdge
operand_edges n u (operand.Constant ty value) = []
operand_edges n u (operand.Param i) = given n u (Param i) ∷ []
operand_edges n u (operand.Temp m) = given n u (Value m) ∷ []

abbrev pub operands_edges : ℕ → Node → List Operand → List GivenEdge
operands_edges n u [] = []
operands_edges n u (x ∷ xs) = operand_edges n u x ++ operands_edges n u xs

abbrev pub value_edges : ℕ → Node → Option Operand → List GivenEdge
value_edges n u None = []
value_edges n u (Some x) = operand_edges n u x

-- of a statement without parts
abbrev pub control_nodes : ℕ → List Node
control_nodes n = Before n ∷ After n ∷ []

abbrev pub control_edges : Node → ℕ → List GivenEdge
control_edges a n = given n (Before n) a ∷ given n (After n) (Before n) ∷ []

abbrev pub plain_nodes : ℕ → Plain → List Node
plain_nodes n (Set op args) = control_nodes n ++ Value n ∷ []
plain_nodes n _ = control_nodes n

abbrev pub plain_edges : Node → ℕ → Plain → List GivenEdge
plain_edges a n (Set op args) = (control_edges a n ++ given n (Value n) (Before n) ∷ []) ++ operands_edges n (Value n) args
plain_edges a n (Barrier space severity) = control_edges a n ++ given n (Required severity) (Before n) ∷ []
plain_edges a n _ = control_edges a n

abbrev pub jump_edges : Node → ℕ → Jump → List GivenEdge
jump_edges a n (Return value) = (control_edges a n ++ given n Returned (Before n) ∷ []) ++ value_edges n Returned value
jump_edges a n _ = control_edges a n

-- of a branch, without what stands in its parts
abbrev pub branch_nodes : ℕ → List Node
branch_nodes n = control_nodes n ++ Part n 0 ∷ Part n 1 ∷ []

abbrev pub part_edges : ℕ → ℕ → Operand → List GivenEdge
part_edges n p cond = given n (Part n p) (Before n) ∷ operand_edges n (Part n p) cond

abbrev pub after_edges : Bool → ℕ → Node → Node → List GivenEdge
after_edges true n one two = given n (After n) (Before n) ∷ []
after_edges false n one two = given n (After n) one ∷ given n (After n) two ∷ []

abbrev pub branch_edges : Node → ℕ → Operand → Bool → Node → Node → List GivenEdge
branch_edges a n cond next one two = ((given n (Before n) a ∷ [] ++ part_edges n 0 cond) ++ part_edges n 1 cond) ++ after_edges next n one two

-- The nodes of the analysed statements of a list. Nothing stands from a call, a switch or a loop on.
abbrev pub nodes_of : Code → List Node
nodes_of (plain n act rest) = plain_nodes n act ++ nodes_of rest
nodes_of (jump n act rest) = control_nodes n
nodes_of (branch n cond one two rest) = ((branch_nodes n ++ nodes_of one) ++ nodes_of two) ++ (if (branch_behaviour one two).next then nodes_of rest else [])
nodes_of _ = []

-- the edges that they give, in a list that begins under a node
abbrev pub edges_of : Node → Code → List GivenEdge
edges_of a (plain n act rest) = plain_edges a n act ++ edges_of (After n) rest
edges_of a (jump n act rest) = jump_edges a n act
edges_of a (branch n cond one two rest) =
    ((edges_of (Part n 0) one ++ edges_of (Part n 1) two) ++ branch_edges a n cond (goes_on (branch_behaviour one two)) (end_of (Part n 0) one) (end_of (Part n 1) two))
    ++ (if (branch_behaviour one two).next then edges_of (After n) rest else [])
edges_of a _ = []

-- An act with the statements and parts that it holds.
abbrev pub Layer : Type 0
Layer = Act-F Act CoreStatement SwitchPart

-- the same of one statement, by its act
abbrev pub layer_nodes : ℕ → Layer → List Node
layer_nodes n (act.Set op args) = plain_nodes n (Set op args)
layer_nodes n (act.Load view) = plain_nodes n (Load view)
layer_nodes n (act.Declare local value) = plain_nodes n (Declare local value)
layer_nodes n (act.Store view value) = plain_nodes n (Store view value)
layer_nodes n (act.Atomic op view args) = plain_nodes n (Atomic op view args)
layer_nodes n (act.Barrier space severity) = plain_nodes n (Barrier space severity)
layer_nodes n (act.UniformLoad view severity) = plain_nodes n (UniformLoad view severity)
layer_nodes n (act.Length view) = plain_nodes n (Length view)
layer_nodes n (act.If cond one two) = (branch_nodes n ++ nodes_of (code_of one)) ++ nodes_of (code_of two)
layer_nodes n act.Break = control_nodes n
layer_nodes n act.Continue = control_nodes n
layer_nodes n (act.Return value) = control_nodes n
layer_nodes n _ = []

abbrev pub layer_edges : Node → ℕ → Layer → List GivenEdge
layer_edges a n (act.Set op args) = plain_edges a n (Set op args)
layer_edges a n (act.Load view) = plain_edges a n (Load view)
layer_edges a n (act.Declare local value) = plain_edges a n (Declare local value)
layer_edges a n (act.Store view value) = plain_edges a n (Store view value)
layer_edges a n (act.Atomic op view args) = plain_edges a n (Atomic op view args)
layer_edges a n (act.Barrier space severity) = plain_edges a n (Barrier space severity)
layer_edges a n (act.UniformLoad view severity) = plain_edges a n (UniformLoad view severity)
layer_edges a n (act.Length view) = plain_edges a n (Length view)
layer_edges a n (act.If cond one two) =
    (edges_of (Part n 0) (code_of one) ++ edges_of (Part n 1) (code_of two)) ++ branch_edges a n cond (goes_on (branch_behaviour (code_of one) (code_of two))) (end_of (Part n 0) (code_of one)) (end_of (Part n 1) (code_of two))
layer_edges a n act.Break = jump_edges a n Break
layer_edges a n act.Continue = jump_edges a n Continue
layer_edges a n (act.Return value) = jump_edges a n (Return value)
layer_edges a n _ = []

-- whether a statement with this act is read
abbrev pub is_read : Layer → Bool
is_read (act.Call function args) = false
is_read (act.Switch selector parts) = false
is_read (act.Loop body continuing leave) = false
is_read _ = true
