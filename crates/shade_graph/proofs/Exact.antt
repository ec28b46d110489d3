-- The nodes and edges that a walk lists are those that stand.
use Rattle.std.proofs.Common.{◌≡◌, ℕ, List, [], ◌∷◌, ◌++◌, inl, inr, Bool, true, false, refl, sym, subst, Option, Some, None}
use Rattle.std.specs.Prelude.{if◌then◌else◌}
use Rattle.shade_core.specs.declared.statement.Operand.{Operand}
use Rattle.shade_core.specs.declared.statement.Operand.TheVariants as operand
use Rattle.shade_core.specs.Code.{Plain, Set, Load, Declare, Store, Atomic, Barrier, UniformLoad, Length, Jump, Break, Continue, Return, Code, done, plain, jump, call, branch, switch, loop, no_part, part}
use Rattle.shade_core.specs.Behaviour.{branch_behaviour, goes_on}
use Rattle.shade_graph.specs.declared.node.Node.{Node}
use Rattle.shade_graph.specs.declared.node.Node.TheVariants.{Returned, Before, After, Part, Value}
use Rattle.shade_graph.specs.declared.gather.GivenEdge.{GivenEdge}
use Rattle.shade_graph.specs.Graph
use Rattle.shade_graph.specs.Graph.{Names, names_param, names_temp, Among, here, later, end_of, GivesValue, set_gives, Stands, ActRow, barrier_required, set_before, set_argument, Row}
use Rattle.shade_graph.specs.Gathered.{given, operand_edges, operands_edges, value_edges, control_edges, plain_nodes, plain_edges, jump_edges, branch_nodes, part_edges, after_edges, branch_edges, nodes_of, edges_of}
use Rattle.shade_graph.proofs.Members.{among_left, among_right, among_split, among_if}

-- the nodes that are listed stand

plain_stands : (n : ℕ) (act : Plain) (rest : Code) (u : Node) → Among u (plain_nodes n act) → Stands (plain n act rest) u
plain_stands n (Set op args) rest u here = Graph.plain_stands_before
plain_stands n (Set op args) rest u (later here) = Graph.plain_stands_after
plain_stands n (Set op args) rest u (later (later here)) = Graph.plain_stands_value set_gives
plain_stands n (Set op args) rest u (later (later (later h))) = elim h [ ]
plain_stands n (Load view) rest u here = Graph.plain_stands_before
plain_stands n (Load view) rest u (later here) = Graph.plain_stands_after
plain_stands n (Load view) rest u (later (later h)) = elim h [ ]
plain_stands n (Declare local value) rest u here = Graph.plain_stands_before
plain_stands n (Declare local value) rest u (later here) = Graph.plain_stands_after
plain_stands n (Declare local value) rest u (later (later h)) = elim h [ ]
plain_stands n (Store view value) rest u here = Graph.plain_stands_before
plain_stands n (Store view value) rest u (later here) = Graph.plain_stands_after
plain_stands n (Store view value) rest u (later (later h)) = elim h [ ]
plain_stands n (Atomic op view args) rest u here = Graph.plain_stands_before
plain_stands n (Atomic op view args) rest u (later here) = Graph.plain_stands_after
plain_stands n (Atomic op view args) rest u (later (later h)) = elim h [ ]
plain_stands n (Barrier space severity) rest u here = Graph.plain_stands_before
plain_stands n (Barrier space severity) rest u (later here) = Graph.plain_stands_after
plain_stands n (Barrier space severity) rest u (later (later h)) = elim h [ ]
plain_stands n (UniformLoad view severity) rest u here = Graph.plain_stands_before
plain_stands n (UniformLoad view severity) rest u (later here) = Graph.plain_stands_after
plain_stands n (UniformLoad view severity) rest u (later (later h)) = elim h [ ]
plain_stands n (Length view) rest u here = Graph.plain_stands_before
plain_stands n (Length view) rest u (later here) = Graph.plain_stands_after
plain_stands n (Length view) rest u (later (later h)) = elim h [ ]

pub listed_stands : (c : Code) (u : Node) → Among u (nodes_of c) → Stands c u
listed_stands done u h = elim h [ ]
listed_stands (call n g args rest) u h = elim h [ ]
listed_stands (switch n selector parts rest) u h = elim h [ ]
listed_stands (loop n body continuing leave rest) u h = elim h [ ]
listed_stands no_part u h = elim h [ ]
listed_stands (part n which keys fallback body others) u h = elim h [ ]
listed_stands (plain n act rest) u h = elim (among_split (plain_nodes n act) (nodes_of rest) h) [ inl own ↦ plain_stands n act rest u own | inr after ↦ Graph.plain_stands_rest (listed_stands rest u after) ]
listed_stands (jump n act rest) u here = Graph.jump_stands_before
listed_stands (jump n act rest) u (later here) = Graph.jump_stands_after
listed_stands (jump n act rest) u (later (later h)) = elim h [ ]
listed_stands (branch n cond one two rest) u h =
    elim (among_split ((branch_nodes n ++ nodes_of one) ++ nodes_of two) (if (branch_behaviour one two).next then nodes_of rest else []) h) [
      | inl parts ↦ elim (among_split (branch_nodes n ++ nodes_of one) (nodes_of two) parts) [
        | inl first ↦ elim (among_split (branch_nodes n) (nodes_of one) first) [ inl own ↦ own_stands u own | inr in_one ↦ Graph.branch_stands_in_one (listed_stands one u in_one) ]
        | inr in_two ↦ Graph.branch_stands_in_two (listed_stands two u in_two)
      ]
      | inr after ↦ (let split = among_if (branch_behaviour one two).next (nodes_of rest) after in Graph.branch_stands_rest split.0 (listed_stands rest u split.1))
    ]
  where
    own_stands : (u : Node) → Among u (branch_nodes n) → Stands (branch n cond one two rest) u
    own_stands u here = Graph.branch_stands_before
    own_stands u (later here) = Graph.branch_stands_after
    own_stands u (later (later here)) = Graph.branch_stands_one
    own_stands u (later (later (later here))) = Graph.branch_stands_two
    own_stands u (later (later (later (later h)))) = elim h [ ]

-- the nodes that stand are listed

value_listed : (n : ℕ) (act : Plain) → GivesValue act → Among (Value n) (plain_nodes n act)
value_listed n _ set_gives = later (later here)

before_listed : (n : ℕ) (act : Plain) → Among (Before n) (plain_nodes n act)
before_listed n (Set op args) = here
before_listed n (Load view) = here
before_listed n (Declare local value) = here
before_listed n (Store view value) = here
before_listed n (Atomic op view args) = here
before_listed n (Barrier space severity) = here
before_listed n (UniformLoad view severity) = here
before_listed n (Length view) = here

after_listed : (n : ℕ) (act : Plain) → Among (After n) (plain_nodes n act)
after_listed n (Set op args) = later here
after_listed n (Load view) = later here
after_listed n (Declare local value) = later here
after_listed n (Store view value) = later here
after_listed n (Atomic op view args) = later here
after_listed n (Barrier space severity) = later here
after_listed n (UniformLoad view severity) = later here
after_listed n (Length view) = later here

pub stands_listed : (c : Code) (u : Node) → Stands c u → Among u (nodes_of c)
stands_listed done u h = elim h [ ]
stands_listed (call n g args rest) u h = elim h [ ]
stands_listed (switch n selector parts rest) u h = elim h [ ]
stands_listed (loop n body continuing leave rest) u h = elim h [ ]
stands_listed no_part u h = elim h [ ]
stands_listed (part n which keys fallback body others) u h = elim h [ ]
stands_listed (plain n act rest) u Graph.plain_stands_before = among_left (plain_nodes n act) (nodes_of rest) (before_listed n act)
stands_listed (plain n act rest) u Graph.plain_stands_after = among_left (plain_nodes n act) (nodes_of rest) (after_listed n act)
stands_listed (plain n act rest) u (Graph.plain_stands_value g) = among_left (plain_nodes n act) (nodes_of rest) (value_listed n act g)
stands_listed (plain n act rest) u (Graph.plain_stands_rest h) = among_right (plain_nodes n act) (nodes_of rest) (stands_listed rest u h)
stands_listed (jump n act rest) u Graph.jump_stands_before = here
stands_listed (jump n act rest) u Graph.jump_stands_after = later here
stands_listed (branch n cond one two rest) u Graph.branch_stands_before = here
stands_listed (branch n cond one two rest) u Graph.branch_stands_after = later here
stands_listed (branch n cond one two rest) u Graph.branch_stands_one = later (later here)
stands_listed (branch n cond one two rest) u Graph.branch_stands_two = later (later (later here))
stands_listed (branch n cond one two rest) u (Graph.branch_stands_in_one h) =
    among_left ((branch_nodes n ++ nodes_of one) ++ nodes_of two) (if (branch_behaviour one two).next then nodes_of rest else [])
    (among_left (branch_nodes n ++ nodes_of one) (nodes_of two) (among_right (branch_nodes n) (nodes_of one) (stands_listed one u h)))
stands_listed (branch n cond one two rest) u (Graph.branch_stands_in_two h) =
    among_left ((branch_nodes n ++ nodes_of one) ++ nodes_of two) (if (branch_behaviour one two).next then nodes_of rest else []) (among_right (branch_nodes n ++ nodes_of one) (nodes_of two) (stands_listed two u h))
stands_listed (branch n cond one two rest) u (Graph.branch_stands_rest next h) =
    among_right ((branch_nodes n ++ nodes_of one) ++ nodes_of two) (if (branch_behaviour one two).next then nodes_of rest else [])
    (subst (λ (b : Bool). Among u (if b then nodes_of rest else [])) (sym next) (stands_listed rest u h))

-- the edges that are listed are rows

operand_names : (n : ℕ) (u : Node) (x : Operand) (r : GivenEdge) → Among r (operand_edges n u x) → (r.statement ≡ n) × (r.from ≡ u) × Names x r.to
operand_names n u (operand.Constant ty value) r h = elim h [ ]
operand_names n u (operand.Param i) r here = (refl, refl, names_param)
operand_names n u (operand.Param i) r (later h) = elim h [ ]
operand_names n u (operand.Temp m) r here = (refl, refl, names_temp)
operand_names n u (operand.Temp m) r (later h) = elim h [ ]

operands_name : (n : ℕ) (u : Node) (xs : List Operand) (r : GivenEdge) → Among r (operands_edges n u xs) → (x : Operand) × Among x xs × (r.statement ≡ n) × (r.from ≡ u) × Names x r.to
operands_name n u [] r h = elim h [ ]
operands_name n u (x ∷ xs) r h = elim (among_split (operand_edges n u x) (operands_edges n u xs) h) [
  | inl own ↦ (let named = operand_names n u x r own in (x, here, named.0, named.1, named.2))
  | inr after ↦ (let named = operands_name n u xs r after in (named.0, later named.1, named.2, named.3, named.4))
]

abbrev AsRow : Node → Code → GivenEdge → Type 0
AsRow a c r = Row a c r.statement r.from r.to

-- a row at a statement and a node that are the listed edge's
as_row : (a : Node) (c : Code) (r : GivenEdge) (n : ℕ) (u : Node) → r.statement ≡ n → r.from ≡ u → Row a c n u r.to → AsRow a c r
as_row a c r n u e f h = subst (λ (s : ℕ). Row a c s r.from r.to) (sym e) (subst (λ (w : Node). Row a c n w r.to) (sym f) h)

control_row : (a : Node) (n : ℕ) (act : Plain) (rest : Code) (r : GivenEdge) → Among r (control_edges a n) → AsRow a (plain n act rest) r
control_row a n act rest r here = Graph.plain_before
control_row a n act rest r (later here) = Graph.plain_after
control_row a n act rest r (later (later h)) = elim h [ ]

plain_row_of : (a : Node) (n : ℕ) (act : Plain) (rest : Code) (r : GivenEdge) → Among r (plain_edges a n act) → AsRow a (plain n act rest) r
plain_row_of a n (Set op args) rest r h = elim (among_split (control_edges a n ++ given n (Value n) (Before n) ∷ []) (operands_edges n (Value n) args) h) [
  | inl own ↦ set_row r own
  | inr argument ↦ (let named = operands_name n (Value n) args r argument in as_row a _ r n (Value n) named.2 named.3 (Graph.plain_row (set_argument named.1 named.4)))
]
  where
    set_row : (r : GivenEdge) → Among r (control_edges a n ++ given n (Value n) (Before n) ∷ []) → AsRow a (plain n (Set op args) rest) r
    set_row r here = Graph.plain_before
    set_row r (later here) = Graph.plain_after
    set_row r (later (later here)) = Graph.plain_row set_before
    set_row r (later (later (later h))) = elim h [ ]
plain_row_of a n (Barrier space severity) rest r here = Graph.plain_before
plain_row_of a n (Barrier space severity) rest r (later here) = Graph.plain_after
plain_row_of a n (Barrier space severity) rest r (later (later here)) = Graph.plain_row barrier_required
plain_row_of a n (Barrier space severity) rest r (later (later (later h))) = elim h [ ]
plain_row_of a n (Load view) rest r h = control_row a n (Load view) rest r h
plain_row_of a n (Declare local value) rest r h = control_row a n (Declare local value) rest r h
plain_row_of a n (Store view value) rest r h = control_row a n (Store view value) rest r h
plain_row_of a n (Atomic op view args) rest r h = control_row a n (Atomic op view args) rest r h
plain_row_of a n (UniformLoad view severity) rest r h = control_row a n (UniformLoad view severity) rest r h
plain_row_of a n (Length view) rest r h = control_row a n (Length view) rest r h

jump_control : (a : Node) (n : ℕ) (act : Jump) (rest : Code) (r : GivenEdge) → Among r (control_edges a n) → AsRow a (jump n act rest) r
jump_control a n act rest r here = Graph.jump_before
jump_control a n act rest r (later here) = Graph.jump_after
jump_control a n act rest r (later (later h)) = elim h [ ]

value_row : (a : Node) (n : ℕ) (value : Option Operand) (rest : Code) (r : GivenEdge) → Among r (value_edges n Returned value) → AsRow a (jump n (Return value) rest) r
value_row a n None rest r h = elim h [ ]
value_row a n (Some x) rest r h = let named = operand_names n Returned x r h in as_row a _ r n Returned named.0 named.1 (Graph.jump_value named.2)

jump_row_of : (a : Node) (n : ℕ) (act : Jump) (rest : Code) (r : GivenEdge) → Among r (jump_edges a n act) → AsRow a (jump n act rest) r
jump_row_of a n Break rest r h = jump_control a n Break rest r h
jump_row_of a n Continue rest r h = jump_control a n Continue rest r h
jump_row_of a n (Return value) rest r h = elim (among_split (control_edges a n ++ given n Returned (Before n) ∷ []) (value_edges n Returned value) h) [ inl own ↦ return_row r own | inr argument ↦ value_row a n value rest r argument ]
  where
    return_row : (r : GivenEdge) → Among r (control_edges a n ++ given n Returned (Before n) ∷ []) → AsRow a (jump n (Return value) rest) r
    return_row r here = Graph.jump_before
    return_row r (later here) = Graph.jump_after
    return_row r (later (later here)) = Graph.jump_returned
    return_row r (later (later (later h))) = elim h [ ]

after_row : (a : Node) (n : ℕ) (cond : Operand) (one two rest : Code) (b : Bool) (r : GivenEdge) → goes_on (branch_behaviour one two) ≡ b
    → Among r (after_edges b n (end_of (Part n 0) one) (end_of (Part n 1) two)) → AsRow a (branch n cond one two rest) r
after_row a n cond one two rest true r e here = Graph.branch_next e
after_row a n cond one two rest true r e (later h) = elim h [ ]
after_row a n cond one two rest false r e here = Graph.branch_end_one e
after_row a n cond one two rest false r e (later here) = Graph.branch_end_two e
after_row a n cond one two rest false r e (later (later h)) = elim h [ ]

branch_row_of : (a : Node) (n : ℕ) (cond : Operand) (one two rest : Code) (r : GivenEdge)
    → Among r (branch_edges a n cond (goes_on (branch_behaviour one two)) (end_of (Part n 0) one) (end_of (Part n 1) two)) → AsRow a (branch n cond one two rest) r
branch_row_of a n cond one two rest r h =
    elim (among_split ((given n (Before n) a ∷ [] ++ part_edges n 0 cond) ++ part_edges n 1 cond) (after_edges (goes_on (branch_behaviour one two)) n (end_of (Part n 0) one) (end_of (Part n 1) two)) h) [
      | inl parts ↦ elim (among_split (given n (Before n) a ∷ [] ++ part_edges n 0 cond) (part_edges n 1 cond) parts) [ inl first ↦ first_row r first | inr second ↦ second_row r second ]
      | inr after ↦ after_row a n cond one two rest (goes_on (branch_behaviour one two)) r refl after
    ]
  where
    first_row : (r : GivenEdge) → Among r (given n (Before n) a ∷ [] ++ part_edges n 0 cond) → AsRow a (branch n cond one two rest) r
    first_row r here = Graph.branch_before
    first_row r (later here) = Graph.branch_one
    first_row r (later (later h)) = let named = operand_names n (Part n 0) cond r h in as_row a _ r n (Part n 0) named.0 named.1 (Graph.branch_one_cond named.2)

    second_row : (r : GivenEdge) → Among r (part_edges n 1 cond) → AsRow a (branch n cond one two rest) r
    second_row r here = Graph.branch_two
    second_row r (later h) = let named = operand_names n (Part n 1) cond r h in as_row a _ r n (Part n 1) named.0 named.1 (Graph.branch_two_cond named.2)

pub listed_row : (a : Node) (c : Code) (r : GivenEdge) → Among r (edges_of a c) → Row a c r.statement r.from r.to
listed_row a done r h = elim h [ ]
listed_row a (call n g args rest) r h = elim h [ ]
listed_row a (switch n selector parts rest) r h = elim h [ ]
listed_row a (loop n body continuing leave rest) r h = elim h [ ]
listed_row a no_part r h = elim h [ ]
listed_row a (part n which keys fallback body others) r h = elim h [ ]
listed_row a (plain n act rest) r h = elim (among_split (plain_edges a n act) (edges_of (After n) rest) h) [ inl own ↦ plain_row_of a n act rest r own | inr after ↦ Graph.plain_rest (listed_row (After n) rest r after) ]
listed_row a (jump n act rest) r h = jump_row_of a n act rest r h
listed_row a (branch n cond one two rest) r h =
    elim (among_split ((edges_of (Part n 0) one ++ edges_of (Part n 1) two) ++ own) (if (branch_behaviour one two).next then edges_of (After n) rest else []) h) [
      | inl parts ↦ elim (among_split (edges_of (Part n 0) one ++ edges_of (Part n 1) two) own parts) [
        | inl inside ↦ elim (among_split (edges_of (Part n 0) one) (edges_of (Part n 1) two) inside) [ inl in_one ↦ Graph.branch_in_one (listed_row (Part n 0) one r in_one) | inr in_two ↦ Graph.branch_in_two (listed_row (Part n 1) two r in_two) ]
        | inr mine ↦ branch_row_of a n cond one two rest r mine
      ]
      | inr after ↦ (let split = among_if (branch_behaviour one two).next (edges_of (After n) rest) after in Graph.branch_rest split.0 (listed_row (After n) rest r split.1))
    ]
  where
    own : List GivenEdge
    own = branch_edges a n cond (goes_on (branch_behaviour one two)) (end_of (Part n 0) one) (end_of (Part n 1) two)

-- the rows are listed

names_operand : (n : ℕ) (u : Node) (x : Operand) (v : Node) → Names x v → Among (given n u v) (operand_edges n u x)
names_operand n u (operand.Param i) v names_param = here
names_operand n u (operand.Temp m) v names_temp = here
names_operand n u (operand.Constant ty value) v h = elim h [ ]

name_operands : (n : ℕ) (u : Node) (xs : List Operand) (x : Operand) (v : Node) → Among x xs → Names x v → Among (given n u v) (operands_edges n u xs)
name_operands n u [] x v among h = elim among [ ]
name_operands n u (y ∷ xs) x v here h = among_left (operand_edges n u y) (operands_edges n u xs) (names_operand n u y v h)
name_operands n u (y ∷ xs) x v (later among) h = among_right (operand_edges n u y) (operands_edges n u xs) (name_operands n u xs x v among h)

plain_before_listed : (a : Node) (n : ℕ) (act : Plain) → Among (given n (Before n) a) (plain_edges a n act)
plain_before_listed a n (Set op args) = here
plain_before_listed a n (Barrier space severity) = here
plain_before_listed a n (Load view) = here
plain_before_listed a n (Declare local value) = here
plain_before_listed a n (Store view value) = here
plain_before_listed a n (Atomic op view args) = here
plain_before_listed a n (UniformLoad view severity) = here
plain_before_listed a n (Length view) = here

plain_after_listed : (a : Node) (n : ℕ) (act : Plain) → Among (given n (After n) (Before n)) (plain_edges a n act)
plain_after_listed a n (Set op args) = later here
plain_after_listed a n (Barrier space severity) = later here
plain_after_listed a n (Load view) = later here
plain_after_listed a n (Declare local value) = later here
plain_after_listed a n (Store view value) = later here
plain_after_listed a n (Atomic op view args) = later here
plain_after_listed a n (UniformLoad view severity) = later here
plain_after_listed a n (Length view) = later here

act_row_listed : (a : Node) (n : ℕ) (act : Plain) (u v : Node) → ActRow n act u v → Among (given n u v) (plain_edges a n act)
act_row_listed a n (Set op args) u v set_before = later (later here)
act_row_listed a n (Set op args) u v (set_argument among named) = later (later (later (name_operands n (Value n) args _ v among named)))
act_row_listed a n (Barrier space severity) u v barrier_required = later (later here)
act_row_listed a n (Load view) u v h = elim h [ ]
act_row_listed a n (Declare local value) u v h = elim h [ ]
act_row_listed a n (Store view value) u v h = elim h [ ]
act_row_listed a n (Atomic op view args) u v h = elim h [ ]
act_row_listed a n (UniformLoad view severity) u v h = elim h [ ]
act_row_listed a n (Length view) u v h = elim h [ ]

jump_before_listed : (a : Node) (n : ℕ) (act : Jump) → Among (given n (Before n) a) (jump_edges a n act)
jump_before_listed a n Break = here
jump_before_listed a n Continue = here
jump_before_listed a n (Return value) = here

jump_after_listed : (a : Node) (n : ℕ) (act : Jump) → Among (given n (After n) (Before n)) (jump_edges a n act)
jump_after_listed a n Break = later here
jump_after_listed a n Continue = later here
jump_after_listed a n (Return value) = later here

abbrev own_edges : Node → ℕ → Operand → Code → Code → List GivenEdge
own_edges a n cond one two = branch_edges a n cond (goes_on (branch_behaviour one two)) (end_of (Part n 0) one) (end_of (Part n 1) two)

-- where the edges of a branch are listed
in_branch : {r : GivenEdge} (a : Node) (n : ℕ) (cond : Operand) (one two rest : Code) → Among r ((edges_of (Part n 0) one ++ edges_of (Part n 1) two) ++ own_edges a n cond one two) → Among r (edges_of a (branch n cond one two rest))
in_branch a n cond one two rest h = among_left ((edges_of (Part n 0) one ++ edges_of (Part n 1) two) ++ own_edges a n cond one two) (if (branch_behaviour one two).next then edges_of (After n) rest else []) h

in_own : {r : GivenEdge} (a : Node) (n : ℕ) (cond : Operand) (one two rest : Code) → Among r (own_edges a n cond one two) → Among r (edges_of a (branch n cond one two rest))
in_own a n cond one two rest h = in_branch a n cond one two rest (among_right (edges_of (Part n 0) one ++ edges_of (Part n 1) two) (own_edges a n cond one two) h)

in_parts : {r : GivenEdge} (a : Node) (n : ℕ) (cond : Operand) (one two rest : Code) → Among r ((given n (Before n) a ∷ [] ++ part_edges n 0 cond) ++ part_edges n 1 cond) → Among r (edges_of a (branch n cond one two rest))
in_parts a n cond one two rest h =
    in_own a n cond one two rest (among_left ((given n (Before n) a ∷ [] ++ part_edges n 0 cond) ++ part_edges n 1 cond) (after_edges (goes_on (branch_behaviour one two)) n (end_of (Part n 0) one) (end_of (Part n 1) two)) h)

in_after : {r : GivenEdge} (a : Node) (n : ℕ) (cond : Operand) (one two rest : Code) (b : Bool) → goes_on (branch_behaviour one two) ≡ b → Among r (after_edges b n (end_of (Part n 0) one) (end_of (Part n 1) two)) → Among r (edges_of a (branch n cond one two rest))
in_after {r} a n cond one two rest b e h =
    in_own a n cond one two rest (among_right ((given n (Before n) a ∷ [] ++ part_edges n 0 cond) ++ part_edges n 1 cond) (after_edges (goes_on (branch_behaviour one two)) n (end_of (Part n 0) one) (end_of (Part n 1) two))
    (subst (λ (c : Bool). Among r (after_edges c n (end_of (Part n 0) one) (end_of (Part n 1) two))) (sym e) h))

first_part : {r : GivenEdge} (a : Node) (n : ℕ) (cond : Operand) → Among r (part_edges n 0 cond) → Among r ((given n (Before n) a ∷ [] ++ part_edges n 0 cond) ++ part_edges n 1 cond)
first_part a n cond h = among_left (given n (Before n) a ∷ [] ++ part_edges n 0 cond) (part_edges n 1 cond) (later h)

second_part : {r : GivenEdge} (a : Node) (n : ℕ) (cond : Operand) → Among r (part_edges n 1 cond) → Among r ((given n (Before n) a ∷ [] ++ part_edges n 0 cond) ++ part_edges n 1 cond)
second_part a n cond h = among_right (given n (Before n) a ∷ [] ++ part_edges n 0 cond) (part_edges n 1 cond) h

pub row_listed : (a : Node) (c : Code) (s : ℕ) (u v : Node) → Row a c s u v → Among (given s u v) (edges_of a c)
row_listed a done s u v h = elim h [ ]
row_listed a (call n g args rest) s u v h = elim h [ ]
row_listed a (switch n selector parts rest) s u v h = elim h [ ]
row_listed a (loop n body continuing leave rest) s u v h = elim h [ ]
row_listed a no_part s u v h = elim h [ ]
row_listed a (part n which keys fallback body others) s u v h = elim h [ ]
row_listed a (plain n act rest) s u v Graph.plain_before = among_left (plain_edges a n act) (edges_of (After n) rest) (plain_before_listed a n act)
row_listed a (plain n act rest) s u v Graph.plain_after = among_left (plain_edges a n act) (edges_of (After n) rest) (plain_after_listed a n act)
row_listed a (plain n act rest) s u v (Graph.plain_row h) = among_left (plain_edges a n act) (edges_of (After n) rest) (act_row_listed a n act u v h)
row_listed a (plain n act rest) s u v (Graph.plain_rest h) = among_right (plain_edges a n act) (edges_of (After n) rest) (row_listed (After n) rest s u v h)
row_listed a (jump n act rest) s u v Graph.jump_before = jump_before_listed a n act
row_listed a (jump n act rest) s u v Graph.jump_after = jump_after_listed a n act
row_listed a (jump n (Return value) rest) s u v Graph.jump_returned = later (later here)
row_listed a (jump n (Return (Some value)) rest) s u v (Graph.jump_value h) = later (later (later (names_operand n Returned value v h)))
row_listed a (branch n cond one two rest) s u v Graph.branch_before = in_parts a n cond one two rest here
row_listed a (branch n cond one two rest) s u v Graph.branch_one = in_parts a n cond one two rest (first_part a n cond here)
row_listed a (branch n cond one two rest) s u v Graph.branch_two = in_parts a n cond one two rest (second_part a n cond here)
row_listed a (branch n cond one two rest) s u v (Graph.branch_one_cond h) = in_parts a n cond one two rest (first_part a n cond (later (names_operand n (Part n 0) cond v h)))
row_listed a (branch n cond one two rest) s u v (Graph.branch_two_cond h) = in_parts a n cond one two rest (second_part a n cond (later (names_operand n (Part n 1) cond v h)))
row_listed a (branch n cond one two rest) s u v (Graph.branch_next e) = in_after a n cond one two rest true e here
row_listed a (branch n cond one two rest) s u v (Graph.branch_end_one e) = in_after a n cond one two rest false e here
row_listed a (branch n cond one two rest) s u v (Graph.branch_end_two e) = in_after a n cond one two rest false e (later here)
row_listed a (branch n cond one two rest) s u v (Graph.branch_in_one h) =
    in_branch a n cond one two rest
    (among_left (edges_of (Part n 0) one ++ edges_of (Part n 1) two) (own_edges a n cond one two) (among_left (edges_of (Part n 0) one) (edges_of (Part n 1) two) (row_listed (Part n 0) one s u v h)))
row_listed a (branch n cond one two rest) s u v (Graph.branch_in_two h) =
    in_branch a n cond one two rest
    (among_left (edges_of (Part n 0) one ++ edges_of (Part n 1) two) (own_edges a n cond one two) (among_right (edges_of (Part n 0) one) (edges_of (Part n 1) two) (row_listed (Part n 1) two s u v h)))
row_listed a (branch n cond one two rest) s u v (Graph.branch_rest next h) =
    among_right ((edges_of (Part n 0) one ++ edges_of (Part n 1) two) ++ own_edges a n cond one two) (if (branch_behaviour one two).next then edges_of (After n) rest else [])
    (subst (λ (b : Bool). Among (given s u v) (if b then edges_of (After n) rest else [])) (sym next) (row_listed (After n) rest s u v h))
