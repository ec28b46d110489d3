-- Paths by the numbers of nodes are paths of the nodes.
use Rattle.std.proofs.Common.{◌≡◌, refl, sym, ap, ap₂, subst, ◌∙◌, ℕ, zero, suc, ◌<◌, List, [], ◌∷◌, map, length, Some, inl, inr, arith}
use Rattle.std.specs.Prelude.{slice_get, All}
use Rattle.std.proofs.lemmas.List.{length-map}
use Rattle.std.proofs.lemmas.Option.{slice_get-get_or, slice_get_within, get_or_from_slice_get}
use Rattle.shade_core.specs.declared.module.CoreFunction.{CoreFunction}
use Rattle.shade_reach.specs.Digraph.{HasEdge, JoinsNodes, IsLeastEdgePath}
use Rattle.shade_reach.specs.Paths.{Walk, NoPath, InOrder, NotAfter, IsLeast, IsLeastPath}
use Rattle.shade_graph.specs.declared.node.Node.{Node}
use Rattle.shade_graph.specs.declared.node.Node.TheVariants.{NonUniform}
use Rattle.shade_graph.specs.Graph
use Rattle.shade_graph.specs.Graph.{IsNode, Edge}
use Rattle.shade_graph.specs.Order.{NodeLess}
use Rattle.shade_graph.specs.Numbered.{FunctionGraph, IsGraphOf}
use Rattle.shade_graph.proofs.Members.{some_same, contains_among, among_get}
use Rattle.shade_graph.proofs.GraphLaws.{one_number}
use Rattle.shade_verdict.specs.Found.{node_at}

-- each number is below a bound
abbrev AllBelow : ℕ → List ℕ → Type 0
AllBelow n [] = Unit {0}
AllBelow n (x ∷ xs) = (x < n) × AllBelow n xs

all_of : (n : ℕ) (xs : List ℕ) → AllBelow n xs → All (λ (x : ℕ). x < n) xs
all_of n [] h k d lt = absurd (omega (arith, lt))
all_of n (x ∷ xs) h zero d lt = h.0
all_of n (x ∷ xs) h (suc k) d lt = all_of n xs h.1 k d (omega (arith, lt))

walk_below : (n : ℕ) (edges : List (ℕ × ℕ)) (i j : ℕ) (rest : List ℕ) → JoinsNodes n edges → Walk (HasEdge edges) i j rest → AllBelow n rest
walk_below n edges i j [] joins w = tt
walk_below n edges i j (k ∷ rest) joins w = ((joins i k w.0).1, walk_below n edges k j rest joins w.1)

-- the numbers on a least path are those of nodes
pub path_below : (n : ℕ) (edges : List (ℕ × ℕ)) (from to : ℕ) (path : List ℕ) → JoinsNodes n edges → from < n → IsLeastEdgePath edges from to path → All (λ (number : ℕ). number < n) path
path_below n edges from to [] joins lt p = absurd p
path_below n edges from to (first ∷ rest) joins lt p = all_of n (first ∷ rest) (subst (λ (k : ℕ). k < n) (sym p.0) lt, walk_below n edges from to rest joins p.1.walk)

pub edge_nodes : (f : CoreFunction) (u v : Node) → Edge f u v → IsNode f u × IsNode f v
edge_nodes f u v (Graph.differs {i = i} {param = param} some at d) = (Graph.parameter {i = i} (slice_get_within f.params i param at), Graph.non_uniform)
edge_nodes f u v (Graph.given g) = (g.from, g.to)

module _ (f : CoreFunction) (g : FunctionGraph) (is : IsGraphOf f g) where
  at : List ℕ → List Node
  at numbers = map (node_at g.nodes) numbers

  named : (k : ℕ) → k < length g.nodes → slice_get g.nodes k ≡ Some (node_at g.nodes k)
  named k lt = slice_get-get_or g.nodes k NonUniform lt

  walk_up : (i j : ℕ) (u v : Node) (rest : List ℕ) → slice_get g.nodes i ≡ Some u → slice_get g.nodes j ≡ Some v → Walk (HasEdge g.edges) i j rest → Walk (Edge f) u v (at rest)
  unfolding at
  walk_up i j u v [] p q w = some_same v u (sym q ∙ (ap (λ (k : ℕ). slice_get g.nodes k) (sym w) ∙ p))
  walk_up i j u v (k ∷ rest) p q w =
      let here : slice_get g.nodes k ≡ Some (node_at g.nodes k) = named k (is.within i k w.0).1 in
      ((is.edge i k u (node_at g.nodes k) p here).0 w.0, walk_up k j (node_at g.nodes k) v rest here q w.1)

  -- a walk of nodes, by number
  walk_down : (i j : ℕ) (u v : Node) (path : List Node) → slice_get g.nodes i ≡ Some u → slice_get g.nodes j ≡ Some v → Walk (Edge f) u v path → (rest : List ℕ) × Walk (HasEdge g.edges) i j rest × (at rest ≡ path)
  unfolding at
  walk_down i j u v [] p q w = ([], one_number g.nodes i j v is.ascending (p ∙ ap Some w) q, refl)
  walk_down i j u v (x ∷ path) p q w =
      let k = among_get g.nodes (contains_among g.nodes x ((is.node x).1 (edge_nodes f u x w.0).1)) in
      let t = walk_down k.0 j x v path k.1 q w.1 in
      (k.0 ∷ t.0, ((is.edge i k.0 u x p k.1).1 w.0, t.1), ap₂ (λ (y : Node) (ys : List Node). y ∷ ys) (get_or_from_slice_get g.nodes k.0 x NonUniform k.1) t.2)

  in_order_up : (xs ys : List ℕ) → AllBelow (length g.nodes) xs → AllBelow (length g.nodes) ys → InOrder (λ (a b : ℕ). a < b) xs ys → InOrder NodeLess (at xs) (at ys)
  unfolding at
  in_order_up [] ys a b o = tt
  in_order_up (x ∷ xs) [] a b o = absurd o
  in_order_up (x ∷ xs) (y ∷ ys) a b (inl lt) = inl (is.ascending x y (node_at g.nodes x) (node_at g.nodes y) lt (named x a.0) (named y b.0))
  in_order_up (x ∷ xs) (y ∷ ys) a b (inr o) = inr (ap (λ (k : ℕ). node_at g.nodes k) o.0, in_order_up xs ys a.1 b.1 o.1)

  not_after_up : (xs ys : List ℕ) → AllBelow (length g.nodes) xs → AllBelow (length g.nodes) ys → NotAfter (λ (a b : ℕ). a < b) xs ys → NotAfter NodeLess (at xs) (at ys)
  unfolding at
  not_after_up xs ys a b (inl lt) = inl (omega (arith, lt, length-map xs (node_at g.nodes), length-map ys (node_at g.nodes)))
  not_after_up xs ys a b (inr o) = inr (length-map xs (node_at g.nodes) ∙ (o.0 ∙ sym (length-map ys (node_at g.nodes))), in_order_up xs ys a b o.1)

  least_up : (i j : ℕ) (u v : Node) (rest : List ℕ) → slice_get g.nodes i ≡ Some u → slice_get g.nodes j ≡ Some v → IsLeast (HasEdge g.edges) (λ (a b : ℕ). a < b) i j rest → IsLeast (Edge f) NodeLess u v (at rest)
  least_up i j u v rest p q l = record {
    walk = walk_up i j u v rest p q l.walk;
    least = λ other w. (let d = walk_down i j u v other p q w in
        subst (λ (ys : List Node). NotAfter NodeLess (at rest) ys) d.2
        (not_after_up rest d.0 (walk_below (length g.nodes) g.edges i j rest is.within l.walk) (walk_below (length g.nodes) g.edges i j d.0 is.within d.1) (l.least d.0 d.1)));
  }

  -- the least path by number is the least path of nodes
  pub least_path_up : (t n : ℕ) (v : Node) (path : List ℕ) → t < length g.nodes → slice_get g.nodes n ≡ Some v → IsLeastEdgePath g.edges t n path → IsLeastPath (Edge f) NodeLess (node_at g.nodes t) v (map (node_at g.nodes) path)
  unfolding at
  least_path_up t n v [] lt q p = absurd p
  least_path_up t n v (first ∷ rest) lt q p = (ap (λ (k : ℕ). node_at g.nodes k) p.0, least_up t n (node_at g.nodes t) v rest (named t lt) q p.1)

  -- where no path leads by number, none leads from node to node
  pub no_path_up : (t n : ℕ) (v : Node) → t < length g.nodes → slice_get g.nodes n ≡ Some v → NoPath (HasEdge g.edges) t n → NoPath (Edge f) (node_at g.nodes t) v
  no_path_up t n v lt q none [] p = absurd p
  no_path_up t n v lt q none (first ∷ rest) p = let d = walk_down t n (node_at g.nodes t) v rest (named t lt) q p.1 in none (t ∷ d.0) (refl, d.1)
