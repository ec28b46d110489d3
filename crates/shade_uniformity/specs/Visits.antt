-- The analysed statements of a list in the order in which one walk has them: those of the parts of a statement before the statement.
use Rattle.std.specs.Prelude.{◌≡◌, ◌↔◌, ℕ, Bool, true, false, ◌&&◌, if◌then◌else◌, List, [], ◌∷◌, ◌++◌, map}
use Rattle.shade_core.specs.declared.behaviour.Behaviour.{Behaviour}
use Rattle.shade_core.specs.declared.statement.Act.{Act, Act-F, out-Act}
use Rattle.shade_core.specs.declared.statement.Act.TheOpen as act
use Rattle.shade_core.specs.declared.statement.CoreStatement.{CoreStatement}
use Rattle.shade_core.specs.declared.statement.SwitchPart.{SwitchPart}
use Rattle.shade_core.specs.Code.{Break, Code, done, plain, jump, call, branch, switch, loop, no_part, part, act_code, code_of, part_code, parts_from}
use Rattle.shade_core.specs.Behaviour.{next_only, no_way, behaviour, jump_behaviour, branch_behaviour, switch_behaviour, loop_behaviour}
use Rattle.shade_core.specs.Standing.{Standing, standing, does, jumps, calls, branches, switches, loops, cases_of, by_itself}
use Rattle.shade_flow.specs.Counted.{are_few}
use Rattle.shade_graph.specs.declared.node.Node.{Node}
use Rattle.shade_graph.specs.declared.node.Node.TheVariants.{Start, After, Part}
use Rattle.shade_graph.specs.Graph.{Among, end_of}
use Rattle.shade_uniformity.specs.declared.walk.PartSpan.{PartSpan}
use Rattle.shade_uniformity.specs.declared.walk.Spot.{Spot}
use Rattle.shade_uniformity.specs.Structure.{Starts, Analysed}

-- a part of a statement, by both numbers, and the node of control at its end
abbrev pub span : ℕ → ℕ → Node → PartSpan
span n p last = record { statement = n; which = p; end = last }

-- An analysed statement by itself: the node from which control comes to it, how control may go on behind it, and its parts.
pub record Visit : Type 0 where
  pub statement : Standing
  pub under : Node
  pub ways : Behaviour
  pub parts : List PartSpan

abbrev pub visit : Standing → Node → Behaviour → List PartSpan → Visit
visit statement under ways parts = record { statement = statement; under = under; ways = ways; parts = parts }

-- the parts of a switch
abbrev pub spans_of : Code → List PartSpan
spans_of (part n which keys fallback body others) = span n which (end_of (Part n which) body) ∷ spans_of others
spans_of _ = []

-- the statement that a list begins with, to which control comes from a node
abbrev pub visit_at : Node → Code → Visit
visit_at a (plain n act rest) = visit (standing n (does act)) a next_only []
visit_at a (jump n act rest) = visit (standing n (jumps act)) a (jump_behaviour act) []
visit_at a (call n g args rest) = visit (standing n (calls g args)) a next_only []
visit_at a (branch n cond one two rest) = visit (standing n (branches cond)) a (branch_behaviour one two) (span n 0 (end_of (Part n 0) one) ∷ (span n 1 (end_of (Part n 1) two) ∷ []))
visit_at a (switch n selector parts rest) = visit (standing n (switches selector (cases_of parts))) a (switch_behaviour parts) (spans_of parts)
visit_at a (loop n body continuing leave rest) = visit (standing n (loops leave)) a (loop_behaviour body continuing leave) (span n 0 (end_of (Part n 0) body) ∷ (span n 1 (end_of (Part n 1) continuing) ∷ []))
visit_at a _ = visit (standing 0 (jumps Break)) a no_way []

-- of the statements of a list that begins under a node; or of the parts of a switch
abbrev pub walk : Bool → Node → Code → List Visit
walk true a (part n which keys fallback body others) = walk false (Part n which) body ++ walk true a others
walk true a _ = []
walk false a (plain n act rest) = visit_at a (plain n act rest) ∷ walk false (After n) rest
walk false a (jump n act rest) = visit_at a (jump n act rest) ∷ []
walk false a (call n g args rest) = visit_at a (call n g args rest) ∷ walk false (After n) rest
walk false a (branch n cond one two rest) =
    ((walk false (Part n 0) one ++ walk false (Part n 1) two) ++ visit_at a (branch n cond one two rest) ∷ []) ++ (if (branch_behaviour one two).next then walk false (After n) rest else [])
walk false a (switch n selector parts rest) =
    (walk true Start parts ++ visit_at a (switch n selector parts rest) ∷ []) ++ (if (switch_behaviour parts).next then walk false (After n) rest else [])
walk false a (loop n body continuing leave rest) =
    ((walk false (Part n 0) body ++ walk false (Part n 1) continuing) ++ visit_at a (loop n body continuing leave rest) ∷ []) ++ (if (loop_behaviour body continuing leave).next then walk false (After n) rest else [])
walk false a done = []
walk false a no_part = []
walk false a (part n which keys fallback body others) = []

-- of a list
abbrev pub visits : Node → Code → List Visit
visits a c = walk false a c

-- of the parts of a switch
abbrev pub part_visits : Code → List Visit
part_visits c = walk true Start c

-- an analysed statement of a list that begins under a node
pub record IsVisit (a : Node) (c : Code) (v : Visit) : Type 0 where
  pub under : Node
  pub here : Code
  pub number : ℕ
  pub rest : Code
  pub stands : Analysed a c under here
  pub starts : Starts here number rest
  pub is : v ≡ visit_at under here

-- a spot of the program's list
abbrev pub visit_of : Spot → Visit
visit_of s = visit (by_itself s.statement.now) s.under s.ways s.parts.items

-- The spots are those of the analysed statements of a body, and of no others.
abbrev pub AreAnalysed : List CoreStatement → List Spot → Type 0
AreAnalysed body spots = (v : Visit) → Among v (map visit_of spots) ↔ IsVisit Start (code_of body) v

-- ---- a statement of the core form by itself

abbrev pub Layer : Type 0
Layer = Act-F Act CoreStatement SwitchPart

-- of the statements of its parts
abbrev pub layer_inner : ℕ → Layer → List Visit
layer_inner n (act.If cond one two) = visits (Part n 0) (code_of one) ++ visits (Part n 1) (code_of two)
layer_inner n (act.Switch selector parts) = part_visits (parts_from n 0 (map part_code parts))
layer_inner n (act.Loop body continuing leave) = visits (Part n 0) (code_of body) ++ visits (Part n 1) (code_of continuing)
layer_inner n _ = []

-- its parts
abbrev pub layer_spans : ℕ → Layer → List PartSpan
layer_spans n (act.If cond one two) = span n 0 (end_of (Part n 0) (code_of one)) ∷ (span n 1 (end_of (Part n 1) (code_of two)) ∷ [])
layer_spans n (act.Switch selector parts) = spans_of (parts_from n 0 (map part_code parts))
layer_spans n (act.Loop body continuing leave) = span n 0 (end_of (Part n 0) (code_of body)) ∷ (span n 1 (end_of (Part n 1) (code_of continuing)) ∷ [])
layer_spans n _ = []

-- itself, behind those of its parts
abbrev pub statement_visits : Node → CoreStatement → List Visit
statement_visits a s = layer_inner s.number (out-Act s.act) ++ visit (by_itself s) a (behaviour (act_code s.act 0 done)) (layer_spans s.number (out-Act s.act)) ∷ []

-- ---- functions whose parts have numbers of 32 bits

-- Each switch of a list, with those in its parts, has fewer than 2 ^ 32 parts. The shape of a module gives this.
abbrev pub few_parts : Code → Bool
few_parts done = true
few_parts (plain n act rest) = few_parts rest
few_parts (jump n act rest) = few_parts rest
few_parts (call n g args rest) = few_parts rest
few_parts (branch n cond one two rest) = few_parts one && (few_parts two && few_parts rest)
few_parts (switch n selector parts rest) = (are_few (cases_of parts) && few_parts parts) && few_parts rest
few_parts (loop n body continuing leave rest) = few_parts body && (few_parts continuing && few_parts rest)
few_parts no_part = true
few_parts (part n which keys fallback body others) = few_parts body && few_parts others

-- the same of one statement by its act
abbrev pub layer_few : Layer → Bool
layer_few (act.If cond one two) = few_parts (code_of one) && few_parts (code_of two)
layer_few (act.Switch selector parts) = are_few parts && few_parts (parts_from 0 0 (map part_code parts))
layer_few (act.Loop body continuing leave) = few_parts (code_of body) && few_parts (code_of continuing)
layer_few _ = true
