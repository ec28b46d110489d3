-- The nodes and pairs of a function, and their numbers, are its graph.
use Rattle.std.proofs.Common.{◌≡◌, refl, sym, ap, subst, ◌∙◌, ℕ, zero, suc, ◌+◌, ◌<◌, List, [], ◌∷◌, ◌++◌, length, Bool, Option, Some, None, inl, inr, arith}
use Rattle.std.specs.Prelude.{◌↔◌, slice_get, Contains, IsSome, is_some, if◌then◌else◌, map}
use Rattle.std.proofs.lemmas.Bool.{cases_lt}
use Rattle.std.proofs.lemmas.Option.{slice_get_within}
use Rattle.shade_values.specs.declared.types.TypeId.{TypeId}
use Rattle.shade_core.specs.declared.module.CoreFunction.{CoreFunction}
use Rattle.shade_core.specs.declared.module.CoreParam.{CoreParam}
use Rattle.shade_core.specs.declared.module.CoreParam.TheVariants.{Plain, Pointer, Input}
use Rattle.shade_core.specs.declared.module.BuiltinInput.TheVariants.{LocalId, LocalIndex, GlobalId, GroupId, GroupCount}
use Rattle.shade_core.specs.Code.{code_of}
use Rattle.shade_reach.specs.Digraph.{HasEdge, JoinsNodes, SameEdges}
use Rattle.shade_graph.specs.declared.node.Node.{Node}
use Rattle.shade_graph.specs.declared.node.Node.TheVariants.{NonUniform, Start, Param, Returned}
use Rattle.shade_graph.specs.declared.gather.GivenEdge.{GivenEdge}
use Rattle.shade_graph.specs.Graph
use Rattle.shade_graph.specs.Graph.{Among, here, later, IsNode, Differs, Gives, Edge, Row}
use Rattle.shade_graph.specs.Order.{IsAscending}
use Rattle.shade_graph.specs.Gathered.{given, nodes_of, edges_of}
use Rattle.shade_graph.specs.Numbered.{IsGraphOf, fixed_nodes, param_nodes, returned_nodes, all_nodes, Pair, input_pairs, param_pairs, entry_pairs, ends, all_pairs, IsNumbered}
use Rattle.shade_graph.proofs.Members.{among_left, among_right, among_split, among_if, get_among, contains_among, among_contains, among_map, map_among, some_same}
use Rattle.shade_graph.proofs.Exact.{listed_stands, stands_listed, listed_row, row_listed}
use Rattle.shade_graph.proofs.OrderLaws.{apart}

-- nodes

pub param_listed : (i k : ℕ) (params : List CoreParam) → k < length params → Among (Param (i + k)) (param_nodes i params)
param_listed i k [] lt = absurd (omega (arith, lt))
param_listed i zero (p ∷ params) lt = subst (λ (n : ℕ). Among (Param n) (param_nodes i (p ∷ params))) (omega arith) here
param_listed i (suc k) (p ∷ params) lt = later (subst (λ (n : ℕ). Among (Param n) (param_nodes (i + 1) params)) (omega arith) (param_listed (i + 1) k params (omega (arith, lt))))

pub listed_param : (i : ℕ) (params : List CoreParam) (u : Node) → Among u (param_nodes i params) → (k : ℕ) × (k < length params) × (u ≡ Param (i + k))
listed_param i [] u h = elim h [ ]
listed_param i (p ∷ params) u here = (0, omega arith, ap Param (omega arith))
listed_param i (p ∷ params) u (later h) = let r = listed_param (i + 1) params u h in (r.0 + 1, omega (arith, r.1), r.2 ∙ ap Param (omega arith))

fixed_stands : (f : CoreFunction) (u : Node) → Among u fixed_nodes → IsNode f u
fixed_stands f u here = Graph.required_error
fixed_stands f u (later here) = Graph.required_warning
fixed_stands f u (later (later here)) = Graph.required_info
fixed_stands f u (later (later (later here))) = Graph.non_uniform
fixed_stands f u (later (later (later (later here)))) = Graph.start
fixed_stands f u (later (later (later (later (later h))))) = elim h [ ]

pub listed_result : (result : Option TypeId) (u : Node) → Among u (returned_nodes result) → IsSome result × (u ≡ Returned)
listed_result None u h = elim h [ ]
listed_result (Some ty) u here = (refl, refl)
listed_result (Some ty) u (later h) = elim h [ ]

returned_stands : (f : CoreFunction) (result : Option TypeId) (u : Node) → f.result ≡ result → Among u (returned_nodes result) → IsNode f u
returned_stands f None u e h = elim h [ ]
returned_stands f (Some ty) u e here = Graph.returned (subst (λ (o : Option TypeId). IsSome o) (sym e) refl)
returned_stands f (Some ty) u e (later h) = elim h [ ]

pub listed_node : (f : CoreFunction) (u : Node) → Among u (all_nodes f) → IsNode f u
listed_node f u h = elim (among_split ((fixed_nodes ++ param_nodes 0 f.params) ++ returned_nodes f.result) (nodes_of (code_of f.body)) h) [
  | inl own ↦ elim (among_split (fixed_nodes ++ param_nodes 0 f.params) (returned_nodes f.result) own) [
    | inl first ↦ elim (among_split fixed_nodes (param_nodes 0 f.params) first) [
      | inl fixed ↦ fixed_stands f u fixed
      | inr param ↦ (let r = listed_param 0 f.params u param in subst (λ (w : Node). IsNode f w) (sym (r.2 ∙ ap Param (omega arith))) (Graph.parameter {i = r.0} r.1))
    ]
    | inr result ↦ returned_stands f f.result u refl result
  ]
  | inr statement ↦ Graph.of_statement (listed_stands (code_of f.body) u statement)
]

pub result_listed : (result : Option TypeId) → IsSome result → Among Returned (returned_nodes result)
result_listed None h = cc
result_listed (Some ty) h = here

in_fixed : (f : CoreFunction) (u : Node) → Among u fixed_nodes → Among u (all_nodes f)
in_fixed f u h = among_left ((fixed_nodes ++ param_nodes 0 f.params) ++ returned_nodes f.result) (nodes_of (code_of f.body)) (among_left (fixed_nodes ++ param_nodes 0 f.params) (returned_nodes f.result) (among_left fixed_nodes (param_nodes 0 f.params) h))

pub node_listed : (f : CoreFunction) (u : Node) → IsNode f u → Among u (all_nodes f)
node_listed f u Graph.required_error = in_fixed f _ here
node_listed f u Graph.required_warning = in_fixed f _ (later here)
node_listed f u Graph.required_info = in_fixed f _ (later (later here))
node_listed f u Graph.non_uniform = in_fixed f _ (later (later (later here)))
node_listed f u Graph.start = in_fixed f _ (later (later (later (later here))))
node_listed f u (Graph.parameter {i = i} lt) =
    among_left ((fixed_nodes ++ param_nodes 0 f.params) ++ returned_nodes f.result) (nodes_of (code_of f.body))
    (among_left (fixed_nodes ++ param_nodes 0 f.params) (returned_nodes f.result) (among_right fixed_nodes (param_nodes 0 f.params) (subst (λ (n : ℕ). Among (Param n) (param_nodes 0 f.params)) (omega arith) (param_listed 0 i f.params lt))))
node_listed f u (Graph.returned h) =
    among_left ((fixed_nodes ++ param_nodes 0 f.params) ++ returned_nodes f.result) (nodes_of (code_of f.body)) (among_right (fixed_nodes ++ param_nodes 0 f.params) (returned_nodes f.result) (result_listed f.result h))
node_listed f u (Graph.of_statement h) = among_right ((fixed_nodes ++ param_nodes 0 f.params) ++ returned_nodes f.result) (nodes_of (code_of f.body)) (stands_listed (code_of f.body) u h)

-- edges

-- an input that differs, with its number
pub record IsInput (params : List CoreParam) (i : ℕ) (pair : Pair) : Type 0 where
  pub number : ℕ
  pub param : CoreParam
  pub at : slice_get params number ≡ Some param
  pub differs : Differs param
  pub pair_is : pair ≡ (Param (i + number), NonUniform)

input_here : (params : List CoreParam) (i : ℕ) (p : CoreParam) (pair : Pair) → Among pair (input_pairs i p) → IsInput (p ∷ params) i pair
input_here params i (Input LocalId) pair here = record { number = 0; param = Input LocalId; at = refl; differs = Graph.local_id; pair_is = ap (λ (n : ℕ). (Param n, NonUniform)) (omega arith) }
input_here params i (Input LocalId) pair (later h) = elim h [ ]
input_here params i (Input LocalIndex) pair here = record { number = 0; param = Input LocalIndex; at = refl; differs = Graph.local_index; pair_is = ap (λ (n : ℕ). (Param n, NonUniform)) (omega arith) }
input_here params i (Input LocalIndex) pair (later h) = elim h [ ]
input_here params i (Input GlobalId) pair here = record { number = 0; param = Input GlobalId; at = refl; differs = Graph.global_id; pair_is = ap (λ (n : ℕ). (Param n, NonUniform)) (omega arith) }
input_here params i (Input GlobalId) pair (later h) = elim h [ ]
input_here params i (Input GroupId) pair h = elim h [ ]
input_here params i (Input GroupCount) pair h = elim h [ ]
input_here params i (Plain ty) pair h = elim h [ ]
input_here params i (Pointer space ty) pair h = elim h [ ]

listed_input : (i : ℕ) (params : List CoreParam) (pair : Pair) → Among pair (param_pairs i params) → IsInput params i pair
listed_input i [] pair h = elim h [ ]
listed_input i (p ∷ params) pair h = elim (among_split (input_pairs i p) (param_pairs (i + 1) params) h) [
  | inl own ↦ input_here params i p pair own
  | inr after ↦ (let r = listed_input (i + 1) params pair after in
      record { number = suc r.number; param = r.param; at = r.at; differs = r.differs; pair_is = r.pair_is ∙ ap (λ (n : ℕ). (Param n, NonUniform)) (omega arith) })
]

differs_listed : (i : ℕ) (p : CoreParam) → Differs p → Among (Param i, NonUniform) (input_pairs i p)
differs_listed i p Graph.local_id = here
differs_listed i p Graph.local_index = here
differs_listed i p Graph.global_id = here

input_listed : (i k : ℕ) (params : List CoreParam) (p : CoreParam) → slice_get params k ≡ Some p → Differs p → Among (Param (i + k), NonUniform) (param_pairs i params)
input_listed i k [] p e d = cc
input_listed i zero (q ∷ params) p e d =
    among_left (input_pairs i q) (param_pairs (i + 1) params) (subst (λ (n : ℕ). Among (Param n, NonUniform) (input_pairs i q)) (omega arith) (differs_listed i q (subst (λ (z : CoreParam). Differs z) (some_same q p e) d)))
input_listed i (suc k) (q ∷ params) p e d =
    among_right (input_pairs i q) (param_pairs (i + 1) params) (subst (λ (n : ℕ). Among (Param n, NonUniform) (param_pairs (i + 1) params)) (omega arith) (input_listed (i + 1) k params p e d))

pub listed_pair : (f : CoreFunction) (u v : Node) → Among (u, v) (all_pairs f) → IsNode f u → IsNode f v → Edge f u v
listed_pair f u v h from to = elim (among_split (entry_pairs f) (map ends (edges_of Start (code_of f.body))) h) [
  | inl input ↦ (let in_entry = among_if (is_some f.entry) (param_pairs 0 f.params) input in
      let r = listed_input 0 f.params (u, v) in_entry.1 in
      subst (λ (p : Pair). Edge f p.0 p.1) (sym (r.pair_is ∙ ap (λ (n : ℕ). (Param n, NonUniform)) (omega arith))) (Graph.differs {i = r.number} in_entry.0 r.at r.differs))
  | inr edge ↦ (let r = map_among ends (edges_of Start (code_of f.body)) (u, v) edge in
      Graph.given {s = r.0.statement} (record {
        from = from;
        to = to;
        row = subst (λ (p : Pair). Row Start (code_of f.body) r.0.statement p.0 p.1) (sym r.2) (listed_row Start (code_of f.body) r.0 r.1);
      }))
]

pub pair_listed : (f : CoreFunction) (u v : Node) → Edge f u v → Among (u, v) (all_pairs f)
pair_listed f u v (Graph.differs {i = i} {param = param} some at d) =
    among_left (entry_pairs f) (map ends (edges_of Start (code_of f.body)))
    (subst (λ (b : Bool). Among (Param i, NonUniform) (if b then param_pairs 0 f.params else [])) (sym some) (subst (λ (n : ℕ). Among (Param n, NonUniform) (param_pairs 0 f.params)) (omega arith) (input_listed 0 i f.params param at d)))
pair_listed f u v (Graph.given {s = s} g) =
    among_right (entry_pairs f) (map ends (edges_of Start (code_of f.body))) (among_map ends (edges_of Start (code_of f.body)) (given s u v) (row_listed Start (code_of f.body) s u v g.row))

-- numbers

pub one_number : (nodes : List Node) (i j : ℕ) (u : Node) → IsAscending nodes → slice_get nodes i ≡ Some u → slice_get nodes j ≡ Some u → i ≡ j
one_number nodes i j u up at_i at_j = elim (cases_lt i j) [
  | inl below ↦ (let less = up i j u u below at_i at_j in absurd (apart u u less less))
  | inr above ↦ elim (cases_lt j i) [
    | inl over ↦ (let less = up j i u u over at_j at_i in absurd (apart u u less less))
    | inr under ↦ omega (arith, above, under)
  ]
]

pub edges_within : (nodes : List Node) (pairs : List Pair) (edges : List (ℕ × ℕ)) → IsNumbered nodes pairs edges → JoinsNodes (length nodes) edges
edges_within nodes pairs edges h i j e =
    let r = h.sound i j (contains_among edges (i, j) e) in (slice_get_within nodes i r.0 r.3, slice_get_within nodes j r.1 r.4)

-- an edge by number is an edge of the function

pub graph_is : (f : CoreFunction) (gathered nodes : List Node) (given : List GivenEdge) (edges made : List (ℕ × ℕ)) → IsAscending nodes → ((u : Node) → Contains nodes u ↔ Contains gathered u) → gathered ≡ all_nodes f
    → given ≡ edges_of Start (code_of f.body) → IsNumbered nodes (entry_pairs f ++ map ends given) edges → SameEdges edges made → IsGraphOf f (record { nodes = nodes; edges = made })
graph_is f gathered nodes given edges made up same all same_given h kept = record {
  ascending = up;
  node = λ u. (of_node u, number u);
  within = λ i j e. edges_within nodes (all_pairs f) edges numbered i j ((kept i j).1 e);
  edge = λ i j u v at_i at_j. (edge_of i j u v at_i at_j, edge_at i j u v at_i at_j);
}
  where
    of_node : (u : Node) → Contains nodes u → IsNode f u
    of_node u e = listed_node f u (subst (λ (ns : List Node). Among u ns) all (contains_among gathered u ((same u).0 e)))

    number : (u : Node) → IsNode f u → Contains nodes u
    number u e = (same u).1 (among_contains gathered u (subst (λ (ns : List Node). Among u ns) (sym all) (node_listed f u e)))

    numbered : IsNumbered nodes (all_pairs f) edges
    numbered = subst (λ (es : List GivenEdge). IsNumbered nodes (entry_pairs f ++ map ends es) edges) same_given h

    stands : (i : ℕ) (u : Node) → slice_get nodes i ≡ Some u → IsNode f u
    stands i u at_i = of_node u (among_contains nodes u (get_among nodes i u at_i))

    edge_of : (i j : ℕ) (u v : Node) → slice_get nodes i ≡ Some u → slice_get nodes j ≡ Some v → HasEdge made i j → Edge f u v
    edge_of i j u v at_i at_j e =
        let r = numbered.sound i j (contains_among edges (i, j) ((kept i j).1 e)) in
        let first : u ≡ r.0 = some_same r.0 u (sym r.3 ∙ at_i) in
        let second : v ≡ r.1 = some_same r.1 v (sym r.4 ∙ at_j) in
        listed_pair f u v (subst (λ (w : Node). Among (w, v) (all_pairs f)) (sym first) (subst (λ (w : Node). Among (r.0, w) (all_pairs f)) (sym second) r.2)) (stands i u at_i) (stands j v at_j)

    edge_at : (i j : ℕ) (u v : Node) → slice_get nodes i ≡ Some u → slice_get nodes j ≡ Some v → Edge f u v → HasEdge made i j
    edge_at i j u v at_i at_j e =
        let r = numbered.complete u v (pair_listed f u v e) (i, at_i) (j, at_j) in
        let first : r.0 ≡ i = one_number nodes r.0 i u up r.3 at_i in
        let second : r.1 ≡ j = one_number nodes r.1 j v up r.4 at_j in
        (kept i j).0 (among_contains edges (i, j) (subst (λ (k : ℕ). Among (k, j) edges) first (subst (λ (k : ℕ). Among (r.0, k) edges) second r.2)))
