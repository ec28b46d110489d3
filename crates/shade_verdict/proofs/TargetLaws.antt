-- The nodes that a severity asks for, one after another.
use Rattle.std.proofs.Common.{◌≡◌, refl, sym, ap, subst, ◌∙◌, ℕ, zero, suc, ◌+◌, ◌<◌, ◌≤◌, List, [], ◌∷◌, map, take, length, get_or, Option, None, Some, inl, inr, arith}
use Rattle.std.specs.Prelude.{slice_get, All, AllPairs, Contains}
use Rattle.std.proofs.lemmas.List.{take_more, take_all}
use Rattle.std.proofs.lemmas.List.Kept.{AllPairs-from_increasing}
use Rattle.std.proofs.lemmas.Option.{slice_get-get_or, slice_get_within, get_or_from_slice_get}
use Rattle.shade_base.specs.declared.severity.Severity.{Severity}
use Rattle.shade_core.specs.declared.module.CoreFunction.{CoreFunction}
use Rattle.shade_reach.specs.Digraph.{Digraph, Towards, HasEdge, JoinsNodes, IsTargets, IsLeastEdgePath}
use Rattle.shade_reach.specs.Paths.{NoPath}
use Rattle.shade_graph.specs.declared.node.Node.{Node}
use Rattle.shade_graph.specs.declared.node.Node.TheVariants.{Required, NonUniform, Before}
use Rattle.shade_graph.specs.Graph.{Among, here, IsNode, Edge}
use Rattle.shade_graph.specs.Order.{NodeLess, severity_rank}
use Rattle.shade_graph.specs.Numbered.{FunctionGraph, IsGraphOf}
use Rattle.shade_graph.proofs.Members.{among_left, among_right, among_split, among_one, among_get, contains_among, some_same}
use Rattle.shade_verdict.specs.declared.violation.PathStep.{PathStep}
use Rattle.shade_verdict.specs.declared.violation.Violation.{Violation}
use Rattle.shade_verdict.specs.Violations.{IsViolation, plain_step}
use Rattle.shade_verdict.specs.Found.{node_at, digraph_of, LeadsToNonUniform, Tells, Adds, AreFound, NoNode, IsEarly}
use Rattle.shade_verdict.proofs.NumberPaths.{edge_nodes, path_below, least_path_up, no_path_up}
use Rattle.shade_verdict.proofs.Sites.{asked_before, site_is}
use Rattle.shade_verdict.proofs.FoundLaws.{Also, add_one, same_nodes, next_severity}

same_default : {A : Type 0} (xs : List A) (i : ℕ) (d e : A) → i < length xs → get_or xs i d ≡ get_or xs i e
same_default xs i d e lt = get_or_from_slice_get xs i (get_or xs i e) d (slice_get-get_or xs i e lt)

-- the node with a number, whatever stands for numbers of no node
pub node_is : (g : FunctionGraph) (nodes : List Node) (t : ℕ) (d v : Node) → nodes ≡ g.nodes → t < length g.nodes → get_or nodes t d ≡ v → node_at g.nodes t ≡ v
node_is g nodes t d v e lt is = same_default g.nodes t NonUniform d lt ∙ (ap (λ (ns : List Node). get_or ns t d) (sym e) ∙ is)

-- only control before a statement is asked for
pub not_asked : (f : CoreFunction) (severity : Severity) (g : FunctionGraph) (nodes : List Node) (t : ℕ) (d : Node) → nodes ≡ g.nodes → t < length g.nodes → ((s : ℕ) → get_or nodes t d ≡ Before s → ⊥) → Edge f (Required severity) (node_at g.nodes t) → ⊥
not_asked f severity g nodes t d e lt none asked =
    let r = asked_before f severity (node_at g.nodes t) asked in
    none r.0 (ap (λ (ns : List Node). get_or ns t d) e ∙ (same_default g.nodes t d NonUniform lt ∙ r.1))

pub number_fits : (g : FunctionGraph) (d : Digraph) (n : ℕ) (v : Node) → d ≡ digraph_of g → slice_get g.nodes n ≡ Some v → n < d.nodes
number_fits g d n v e at = subst (λ (z : Digraph). n < z.nodes) (sym e) (slice_get_within g.nodes n v at)

-- a node has a number from which paths may be asked
pub from_fits : (g : FunctionGraph) (p : Towards) (t : ℕ) → LeadsToNonUniform g p → t < length g.nodes → t < p.graph.nodes
from_fits g p t leads lt = subst (λ (z : Digraph). t < z.nodes) (sym leads.same) lt

-- the paths that are asked to the number of the non-uniform node
pub leads_there : (g : FunctionGraph) (d : Digraph) (p : Towards) (n : ℕ) → d ≡ digraph_of g → JoinsNodes (length g.nodes) g.edges → slice_get g.nodes n ≡ Some NonUniform → p.graph ≡ d → p.target ≡ n → LeadsToNonUniform g p
leads_there g d p n is joins at same to = record {
  same = same ∙ is;
  within = joins;
  target = ap (λ (k : ℕ). slice_get g.nodes k) to ∙ at;
}

pub steps_fit : (g : FunctionGraph) (nodes : List Node) (d : Digraph) (t n : ℕ) (path xs : List ℕ) → nodes ≡ g.nodes → d ≡ digraph_of g → JoinsNodes (length g.nodes) g.edges → t < length g.nodes → IsLeastEdgePath d.edges t n path → xs ≡ path
    → All (λ (k : ℕ). k < length nodes) xs
steps_fit g nodes d t n path xs e is joins lt p same =
    subst (λ (ys : List ℕ). All (λ (k : ℕ). k < length nodes) ys) (sym same)
    (subst (λ (ns : List Node). All (λ (k : ℕ). k < length ns) path) (sym e) (path_below (length g.nodes) g.edges t n path joins lt (subst (λ (z : Digraph). IsLeastEdgePath z.edges t n path) is p)))

pub told : (f : CoreFunction) (g : FunctionGraph) (nodes : List Node) (d : Digraph) (severity : Severity) (number t n site : ℕ) (path xs : List ℕ) (steps : List PathStep) → IsGraphOf f g → nodes ≡ g.nodes → d ≡ digraph_of g → t < length g.nodes
    → slice_get g.nodes n ≡ Some NonUniform → IsLeastEdgePath d.edges t n path → xs ≡ path → node_at g.nodes t ≡ Before site → Edge f (Required severity) (node_at g.nodes t) → steps ≡ map plain_step (Required severity ∷ map (node_at nodes) xs)
    → Tells f number severity (node_at g.nodes t) (record { function = number; severity = severity; site = site; path = steps })
told f g nodes d severity number t n site path xs steps is e same lt at p ys before asked made = record {
  of_function = refl;
  of_severity = refl;
  asked = asked;
  site = site_is f severity (node_at g.nodes t) site asked before;
  path = map (node_at g.nodes) path;
  least = least_path_up f g is t n NonUniform path lt at (subst (λ (z : Digraph). IsLeastEdgePath z.edges t n path) same p);
  steps = made ∙ (ap (λ (ns : List Node). map plain_step (Required severity ∷ map (node_at ns) xs)) e ∙ ap (λ (zs : List ℕ). map plain_step (Required severity ∷ map (node_at g.nodes) zs)) ys);
}

pub not_led : (f : CoreFunction) (g : FunctionGraph) (d : Digraph) (t n : ℕ) → IsGraphOf f g → d ≡ digraph_of g → t < length g.nodes → slice_get g.nodes n ≡ Some NonUniform → NoPath (HasEdge d.edges) t n → NoPath (Edge f) (node_at g.nodes t) NonUniform
not_led f g d t n is same lt at none = no_path_up f g is t n NonUniform lt at (subst (λ (z : Digraph). NoPath (HasEdge z.edges) t n) same none)

-- a node that stands has a number
pub has_number : (f : CoreFunction) (g : FunctionGraph) (v : Node) → IsGraphOf f g → IsNode f v → ((k : ℕ) → slice_get g.nodes k ≡ Some v → ⊥) → ⊥
has_number f g v is stands none = let k = among_get g.nodes (contains_among g.nodes v ((is.node v).1 stands)) in none k.0 k.1

-- where the severity has no number, nothing is asked for with it
pub not_asked_for : (functions : List CoreFunction) (f : CoreFunction) (g : FunctionGraph) (k : ℕ) (severity : Severity) (found : List Violation) → slice_get functions k ≡ Some f → IsGraphOf f g → ((n : ℕ) → slice_get g.nodes n ≡ Some (Required severity) → ⊥)
    → AreFound functions k (severity_rank severity) NoNode found → AreFound functions k (severity_rank severity + 1) NoNode found
not_asked_for functions f g k severity found at is none a = next_severity functions k severity NoNode found a (λ n h.
    (let it : h.function ≡ f = some_same f h.function (sym at ∙ h.numbered) in
    has_number f g (Required severity) is (edge_nodes f (Required severity) n (subst (λ (z : CoreFunction). Edge z (Required severity) n) it h.asked)).0 none))

-- nothing is early before the first node
pub early_none : (functions : List CoreFunction) (k r : ℕ) (nodes : List Node) (targets : List ℕ) (found : List Violation) → AreFound functions k r NoNode found → AreFound functions k r (IsEarly nodes targets 0) found
early_none functions k r nodes targets found a = same_nodes functions k r NoNode (IsEarly nodes targets 0) found a (λ n h. absurd h) (λ n h. nothing h.1)
  where
    nothing : {j : ℕ} → Among j [] → ⊥
    nothing h = elim h [ ]

none_some : {A : Type 0} (x : A) → ◌≡◌ {A = Option A} None (Some x) → ⊥
none_some x e = let f : None ≡ Some x = e in cc

early_below : (targets : List ℕ) (i m j : ℕ) → slice_get (take i targets) m ≡ Some j → (m < i) × (slice_get targets m ≡ Some j)
early_below [] zero m j e = absurd (none_some j e)
early_below [] (suc i) m j e = absurd (none_some j e)
early_below (x ∷ xs) zero m j e = absurd (none_some j e)
early_below (x ∷ xs) (suc i) zero j e = (omega arith, e)
early_below (x ∷ xs) (suc i) (suc m) j e = let r = early_below xs i m j e in (omega (arith, r.0), r.1)

early_less : (f : CoreFunction) (g : FunctionGraph) (targets : List ℕ) (i : ℕ) (n : Node) → IsGraphOf f g → AllPairs (λ (a b : ℕ). a < b) targets → i < length targets → get_or targets i 0 < length g.nodes → IsEarly g.nodes targets i n
    → NodeLess n (node_at g.nodes (get_or targets i 0))
early_less f g targets i n is pairs lt within h =
    let m = among_get (take i targets) h.1 in
    let place = early_below targets i m.0 h.0 m.1 in
    let below : h.0 < get_or targets i 0 = subst (λ (k : ℕ). k < get_or targets i 0) (get_or_from_slice_get targets m.0 h.0 0 place.1) (pairs m.0 i 0 place.0 lt) in
    is.ascending h.0 (get_or targets i 0) n (node_at g.nodes (get_or targets i 0)) below h.2 (slice_get-get_or g.nodes (get_or targets i 0) NonUniform within)

early_more : (nodes : List Node) (targets : List ℕ) (i : ℕ) (n : Node) → i < length targets → get_or targets i 0 < length nodes → Also (IsEarly nodes targets i) (node_at nodes (get_or targets i 0)) n → IsEarly nodes targets (i + 1) n
early_more nodes targets i n lt within (inl h) = (h.0, subst (λ (xs : List ℕ). Among h.0 xs) (sym (take_more targets i 0 lt)) (among_left (take i targets) _ h.1), h.2)
early_more nodes targets i n lt within (inr e) =
    (get_or targets i 0, subst (λ (xs : List ℕ). Among (get_or targets i 0) xs) (sym (take_more targets i 0 lt)) (among_right (take i targets) _ here), slice_get-get_or nodes (get_or targets i 0) NonUniform within ∙ ap Some (sym e))

early_split : (nodes : List Node) (targets : List ℕ) (i : ℕ) (n : Node) → i < length targets → IsEarly nodes targets (i + 1) n → Also (IsEarly nodes targets i) (node_at nodes (get_or targets i 0)) n
early_split nodes targets i n lt h = elim (among_split (take i targets) (get_or targets i 0 ∷ []) (subst (λ (xs : List ℕ). Among h.0 xs) (take_more targets i 0 lt) h.1)) [
  | inl old ↦ inl (h.0, old, h.2)
  | inr own ↦ (let e : h.0 ≡ get_or targets i 0 = among_one (get_or targets i 0) own in inr (sym (get_or_from_slice_get nodes (get_or targets i 0) n NonUniform (subst (λ (k : ℕ). slice_get nodes k ≡ Some n) e h.2))))
]

-- an edge by number from a severity's node is one between the nodes
asked_at : (f : CoreFunction) (g : FunctionGraph) (severity : Severity) (required t : ℕ) → IsGraphOf f g → slice_get g.nodes required ≡ Some (Required severity) → HasEdge g.edges required t → Edge f (Required severity) (node_at g.nodes t)
asked_at f g severity required t is at e = (is.edge required t (Required severity) (node_at g.nodes t) at (slice_get-get_or g.nodes t NonUniform (is.within required t e).1)).0 e

-- one node more that is asked for
pub target_more : (functions : List CoreFunction) (f : CoreFunction) (g : FunctionGraph) (d : Digraph) (k : ℕ) (severity : Severity) (required i : ℕ) (targets : List ℕ) (old new : List Violation) → slice_get functions k ≡ Some f → IsGraphOf f g
    → slice_get g.nodes required ≡ Some (Required severity) → d ≡ digraph_of g → IsTargets d.edges required targets → i < length targets
    → ((h : CoreFunction) → IsGraphOf h g → Edge h (Required severity) (node_at g.nodes (get_or targets i 0)) → Adds h k severity (node_at g.nodes (get_or targets i 0)) old new)
    → AreFound functions k (severity_rank severity) (IsEarly g.nodes targets i) old → AreFound functions k (severity_rank severity) (IsEarly g.nodes targets (i + 1)) new
target_more functions f g d k severity required i targets old new at is numbered same all lt adds a =
    let edge : HasEdge g.edges required (get_or targets i 0) = subst (λ (z : Digraph). HasEdge z.edges required (get_or targets i 0)) same ((all.ends (get_or targets i 0)).0 (i, lt, same_default targets i (get_or targets i 0) 0 lt)) in
    let within : get_or targets i 0 < length g.nodes = (is.within required (get_or targets i 0) edge).1 in
    let node : Node = node_at g.nodes (get_or targets i 0) in
    same_nodes functions k (severity_rank severity) (Also (IsEarly g.nodes targets i) node) (IsEarly g.nodes targets (i + 1)) new
    (add_one functions k (severity_rank severity) (IsEarly g.nodes targets i) f severity node old new a refl (λ n h. early_less f g targets i n is (AllPairs-from_increasing targets all.ascending) lt within h) at (adds f is (asked_at f g severity required (get_or targets i 0) is numbered edge)))
    (λ n h. early_more g.nodes targets i n lt within h) (λ n h. early_split g.nodes targets i n lt h)

-- past the last node that is asked for stands the next severity
pub targets_end : (functions : List CoreFunction) (f : CoreFunction) (g : FunctionGraph) (d : Digraph) (k : ℕ) (severity : Severity) (required i : ℕ) (targets : List ℕ) (found : List Violation) → slice_get functions k ≡ Some f → IsGraphOf f g
    → slice_get g.nodes required ≡ Some (Required severity) → d ≡ digraph_of g → IsTargets d.edges required targets → length targets ≤ i → AreFound functions k (severity_rank severity) (IsEarly g.nodes targets i) found
    → AreFound functions k (severity_rank severity + 1) NoNode found
targets_end functions f g d k severity required i targets found at is numbered same all le a = next_severity functions k severity (IsEarly g.nodes targets i) found a early
  where
    early : (n : Node) → IsViolation functions k severity n → IsEarly g.nodes targets i n
    early n h =
        let it : h.function ≡ f = some_same f h.function (sym at ∙ h.numbered) in
        let asked : Edge f (Required severity) n = subst (λ (z : CoreFunction). Edge z (Required severity) n) it h.asked in
        let j = among_get g.nodes (contains_among g.nodes n ((is.node n).1 (edge_nodes f (Required severity) n asked).1)) in
        let edge : HasEdge g.edges required j.0 = (is.edge required j.0 (Required severity) n numbered j.1).1 asked in
        let there : Contains targets j.0 = (all.ends j.0).1 (subst (λ (z : Digraph). HasEdge z.edges required j.0) (sym same) edge) in
        (j.0, subst (λ (xs : List ℕ). Among j.0 xs) (sym (take_all i targets le)) (contains_among targets j.0 there), j.1)
