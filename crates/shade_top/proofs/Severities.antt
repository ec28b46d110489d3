-- In a shader of the first form each barrier asks with the severity error, so that a violation that is no error is none at all.
use Rattle.std.proofs.Common.{◌≡◌, refl, sym, ◌∙◌, ap, subst, ℕ, List, [], ◌∷◌, Some, slice_get}
use Rattle.shade_base.specs.declared.severity.Severity.{Severity}
use Rattle.shade_base.specs.declared.severity.Severity.TheVariants.{Error}
use Rattle.shade_core.specs.declared.module.CoreFunction.{CoreFunction}
use Rattle.shade_core.specs.declared.module.CoreModule.{CoreModule}
use Rattle.shade_core.specs.Code.{Plain, Barrier, Code, plain, jump, branch, code_of}
use Rattle.shade_graph.specs.declared.node.Node.{Node}
use Rattle.shade_graph.specs.declared.node.Node.TheVariants.{Required, NonUniform}
use Rattle.shade_graph.specs.Graph
use Rattle.shade_graph.specs.Graph.{ActRow, Row, Edge, Among}
use Rattle.shade_graph.specs.Order.{NodeLess}
use Rattle.shade_reach.specs.Paths.{IsPath, IsLeastPath}
use Rattle.shade_verdict.specs.declared.violation.Violation.{Violation}
use Rattle.shade_verdict.specs.Violations.{IsViolation, Shows, second_node}
use Rattle.shade_first.specs.Lowering.{function_of}
use Rattle.shade_first.specs.FirstForm.{StandsFor}
use Rattle.shade_top.specs.Ready.{CleanWithoutErrors}
use Rattle.shade_top.proofs.Firsts.{Items, none, meet, split, body_items, only_one, rules_of, none_faulty, none_off}

-- each barrier of a list has the severity error
abbrev AsksError : Plain → Type 0
AsksError (Barrier space severity) = severity ≡ Error
AsksError _ = Unit {0}

abbrev AllAskError : Code → Type 0
AllAskError (plain n act rest) = AsksError act × AllAskError rest
AllAskError (jump n act rest) = AllAskError rest
AllAskError (branch n cond one two rest) = AllAskError one × AllAskError two × AllAskError rest
AllAskError _ = Unit {0}

items_ask : {n m : ℕ} {tail c : Code} → Items n tail c m → AllAskError tail → AllAskError c
items_ask none h = h
items_ask (meet i) h = (refl, items_ask i h)
items_ask (split i j) h = (tt, (items_ask i tt, tt, items_ask j h))

-- what asks at a node, asks with the severity error
abbrev FromError : Node → Type 0
FromError (Required severity) = severity ≡ Error
FromError _ = Unit {0}

act_from : {n : ℕ} {act : Plain} {u v : Node} → ActRow n act u v → AsksError act → FromError u
act_from Graph.barrier_required h = h
act_from Graph.set_before h = tt
act_from (Graph.set_argument among names) h = tt

row_from : {a : Node} {c : Code} {s : ℕ} {u v : Node} → Row a c s u v → AllAskError c → FromError u
row_from Graph.plain_before h = tt
row_from Graph.plain_after h = tt
row_from (Graph.plain_row r) h = act_from r h.0
row_from (Graph.plain_rest r) h = row_from r h.1
row_from Graph.jump_before h = tt
row_from Graph.jump_after h = tt
row_from Graph.jump_returned h = tt
row_from (Graph.jump_value names) h = tt
row_from Graph.branch_before h = tt
row_from Graph.branch_one h = tt
row_from Graph.branch_two h = tt
row_from (Graph.branch_one_cond names) h = tt
row_from (Graph.branch_two_cond names) h = tt
row_from (Graph.branch_next goes) h = tt
row_from (Graph.branch_end_one goes) h = tt
row_from (Graph.branch_end_two goes) h = tt
row_from (Graph.branch_in_one r) h = row_from r h.0
row_from (Graph.branch_in_two r) h = row_from r h.1
row_from (Graph.branch_rest next r) h = row_from r h.2

edge_from : {f : CoreFunction} {u v : Node} → Edge f u v → AllAskError (code_of f.body) → FromError u
edge_from (Graph.differs entry param differs) h = tt
edge_from (Graph.given gives) h = row_from gives.row h

-- so does each barrier of a shader's functions
first_asks : (text : List ℕ) (shader : CoreModule) → StandsFor text shader → (k : ℕ) (f : CoreFunction) → slice_get shader.functions k ≡ Some f → AllAskError (code_of f.body)
first_asks text shader stands k f at =
    let one : CoreFunction = function_of stands.shader stands.stands.statements stands.stands.next in
    let same : f ≡ one = only_one one f k (sym (ap (λ fs. slice_get fs k) stands.stands.functions) ∙ at) in
    subst (λ (g : CoreFunction). AllAskError (code_of g.body)) (sym same) (items_ask (body_items stands.shader stands.stands.statements stands.stands.next stands.stands.lowered) tt)

asks_error : (text : List ℕ) (shader : CoreModule) → StandsFor text shader → (number : ℕ) (severity : Severity) (node : Node) → IsViolation shader.functions number severity node → severity ≡ Error
asks_error text shader stands number severity node v = edge_from v.asked (first_asks text shader stands number v.function v.numbered)

least_is_path : (f : CoreFunction) (u : Node) (path : List Node) → IsLeastPath (Edge f) NodeLess u NonUniform path → IsPath (Edge f) u NonUniform path
least_is_path f u [] h = h
least_is_path f u (first ∷ rest) h = (h.0, h.1.walk)

told : (functions : List CoreFunction) (v : Violation) (node : Node) → Shows functions v node → IsViolation functions v.function v.severity node
told functions v node shows = record { function = shows.function; numbered = shows.numbered; asked = shows.asked; path = shows.path; joined = least_is_path shows.function node shows.path shows.least }

pub clean_exactly : CleanWithoutErrors
clean_exactly text shader violations stands are = (
  λ without. record {
    rules = rules_of text shader stands;
    behaved = none_faulty text shader stands;
    none = λ number severity node v.
        (let found : (w : Violation) × Among w violations × (w.function ≡ number) × (w.severity ≡ severity) × (second_node w.path ≡ node) = are.complete number severity node v in
        without (found.0, found.1, found.3 ∙ asks_error text shader stands number severity node v));
    asked = none_off text shader stands;
  },
  λ clean error. clean.none error.0.function error.0.severity (second_node error.0.path) (told shader.functions error.0 (second_node error.0.path) (are.sound error.0 error.1)),
)
