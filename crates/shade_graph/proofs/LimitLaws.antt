-- How many nodes a function has.
use Rattle.std.proofs.Common.{◌≡◌, ℕ, zero, suc, ◌+◌, ◌*◌, ◌<◌, ◌≤◌, arith, List, [], ◌∷◌, ◌++◌, length, get_or, Option, Some, None, refl, sym, subst, ◌∙◌, ap, Bool, true, false, inl, inr}
use Rattle.std.specs.Prelude.{if◌then◌else◌, Contains, ◌↔◌, slice_get}
use Rattle.std.specs.List.{IsDistinct}
use Rattle.std.proofs.lemmas.List.{length-append}
use Rattle.std.proofs.lemmas.Map.Keys.{IsDistinct-from_apart}
use Rattle.std.proofs.lemmas.Map.Made.{length-le_from_is_member}
use Rattle.std.proofs.lemmas.Map.Views.{list_any-from_Contains, Contains-from_any}
use Rattle.std.proofs.lemmas.Option.{slice_get-get_or}
use Rattle.shade_values.specs.declared.types.TypeId.{TypeId}
use Rattle.shade_core.specs.declared.module.CoreFunction.{CoreFunction}
use Rattle.shade_core.specs.declared.module.CoreParam.{CoreParam}
use Rattle.shade_core.specs.Code.{Plain, Set, Code, done, plain, jump, call, branch, switch, loop, no_part, part, code_of}
use Rattle.shade_core.specs.Behaviour.{branch_behaviour}
use Rattle.shade_core.specs.Standing.{statements}
use Rattle.shade_graph.specs.declared.node.Node.{Node}
use Rattle.shade_graph.specs.declared.node.Node.TheVariants.{Param}
use Rattle.shade_graph.specs.Order.{NodeLess, IsAscending}
use Rattle.shade_graph.specs.Graph.{Among}
use Rattle.shade_graph.specs.Gathered.{plain_nodes, branch_nodes, nodes_of}
use Rattle.shade_graph.specs.Numbered.{fixed_nodes, param_nodes, returned_nodes, all_nodes}
use Rattle.shade_graph.specs.Limits.{most_nodes, HasTooManyNodes}
use Rattle.shade_graph.proofs.Members.{among_left, among_right, contains_among, among_contains, some_same}
use Rattle.shade_graph.proofs.NodeLaws.{node_eq, node_same, node_equiv}
use Rattle.shade_graph.proofs.OrderLaws.{apart}
use Rattle.shade_graph.proofs.GraphLaws.{listed_node, node_listed}

-- ---- nodes in order, all of them of a list, are not more than the list

not_so : (b : Bool) → (b ≡ true → ⊥) → b ≡ false
not_so true h = absurd (h refl)
not_so false h = refl

distinct : (nodes : List Node) → IsAscending nodes → IsDistinct node_eq nodes
distinct nodes up =
    IsDistinct-from_apart node_eq nodes (λ i j d lt within. not_so (node_eq (get_or nodes i d) (get_or nodes j d)) (λ e.
    let less : NodeLess (get_or nodes i d) (get_or nodes j d) = up i j _ _ lt (slice_get-get_or nodes i d (omega (arith, lt, within))) (slice_get-get_or nodes j d within) in
    let same : get_or nodes i d ≡ get_or nodes j d = node_same _ _ e in
    let itself : NodeLess (get_or nodes j d) (get_or nodes j d) = subst (λ (u : Node). NodeLess u (get_or nodes j d)) same less in
    apart _ _ itself itself))

fewer : (nodes all : List Node) → IsAscending nodes → ((u : Node) → Contains nodes u → Contains all u) → length nodes ≤ length all
fewer nodes all up h =
    length-le_from_is_member node_equiv nodes all (distinct nodes up) (λ u found. list_any-from_Contains node_equiv u all (h u (Contains-from_any node_same u nodes found)))

pub few_enough : (f : CoreFunction) (nodes : List Node) → ((u : Node) → Contains nodes u ↔ Contains (all_nodes f) u) → length nodes ≤ most_nodes → HasTooManyNodes f → ⊥
few_enough f nodes same le more =
    omega (arith, le, more.many, fewer more.nodes nodes more.ascending (λ u h. (same u).1 (among_contains (all_nodes f) u (node_listed f u (more.node u h)))))

pub too_many : (f : CoreFunction) (nodes : List Node) → IsAscending nodes → ((u : Node) → Contains nodes u ↔ Contains (all_nodes f) u) → most_nodes < length nodes → HasTooManyNodes f
too_many f nodes up same lt = record { nodes = nodes; ascending = up; node = λ u h. listed_node f u (contains_among (all_nodes f) u ((same u).0 h)); many = lt }

-- ---- parameters alone may be too many

param_at : (i j : ℕ) (params : List CoreParam) (u : Node) → slice_get (param_nodes i params) j ≡ Some u → u ≡ Param (i + j)
param_at i j [] u e = cc
param_at i zero (p ∷ params) u e = some_same (Param i) u e ∙ ap Param (omega arith)
param_at i (suc j) (p ∷ params) u e = param_at (i + 1) j params u e ∙ ap Param (omega arith)

params_ascend : (params : List CoreParam) → IsAscending (param_nodes 0 params)
params_ascend params j k u v lt at_j at_k =
    subst (λ (w : Node). NodeLess w v) (sym (param_at 0 j params u at_j)) (subst (λ (w : Node). NodeLess (Param (0 + j)) w) (sym (param_at 0 k params v at_k)) (inr (refl, inl (omega (arith, lt)))))

plain_few : (n : ℕ) (act : Plain) → length (plain_nodes n act) ≤ 4
plain_few n (Set op args) = omega arith
plain_few n _ = omega arith

kept_few : (b : Bool) (nodes : List Node) (m : ℕ) → length nodes ≤ m → length (if b then nodes else []) ≤ m
kept_few true nodes m h = h
kept_few false nodes m h = omega arith

-- ---- nodes by statements

few : (c : Code) → length (nodes_of c) ≤ 4 * length (statements c)
few (plain n act rest) = omega (arith, length-append (plain_nodes n act) (nodes_of rest), plain_few n act, few rest)
few (jump n act rest) = omega arith
few (branch n cond one two rest) =
    let behind : List Node = if (branch_behaviour one two).next then nodes_of rest else [] in
    omega (
      arith,
      length-append ((branch_nodes n ++ nodes_of one) ++ nodes_of two) behind,
      length-append (branch_nodes n ++ nodes_of one) (nodes_of two),
      length-append (branch_nodes n) (nodes_of one),
      length-append (statements one ++ statements two) (statements rest),
      length-append (statements one) (statements two),
      few one,
      few two,
      kept_few (branch_behaviour one two).next (nodes_of rest) (4 * length (statements rest)) (few rest),
    )
few done = omega arith
few (call n g args rest) = omega arith
few (switch n selector parts rest) = omega arith
few (loop n body continuing leave rest) = omega arith
few no_part = omega arith
few (part n which keys fallback body others) = omega arith

params_long : (i : ℕ) (params : List CoreParam) → length (param_nodes i params) ≡ length params
params_long i [] = refl
params_long i (p ∷ params) = omega (arith, params_long (i + 1) params)

of_params : (f : CoreFunction) (u : Node) → Among u (param_nodes 0 f.params) → Among u (all_nodes f)
of_params f u h =
    among_left ((fixed_nodes ++ param_nodes 0 f.params) ++ returned_nodes f.result) (nodes_of (code_of f.body))
    (among_left (fixed_nodes ++ param_nodes 0 f.params) (returned_nodes f.result) (among_right fixed_nodes (param_nodes 0 f.params) h))

pub many_params : (f : CoreFunction) → most_nodes < length f.params → HasTooManyNodes f
many_params f lt = record {
  nodes = param_nodes 0 f.params;
  ascending = params_ascend f.params;
  node = λ u h. listed_node f u (of_params f u (contains_among (param_nodes 0 f.params) u h));
  many = omega (arith, lt, params_long 0 f.params);
}

returned_few : (result : Option TypeId) → length (returned_nodes result) ≤ 1
returned_few None = omega arith
returned_few (Some ty) = omega arith

-- Five nodes are in each graph; besides there is one for each parameter, one for a result, and for each statement at most four:
-- control before it and behind it, and its value or its two parts.
abbrev pub nodes_at_most : CoreFunction → ℕ
nodes_at_most f = 6 + length f.params + 4 * length (statements (code_of f.body))

all_few : (f : CoreFunction) → length (all_nodes f) ≤ nodes_at_most f
all_few f =
    omega (
      arith,
      length-append ((fixed_nodes ++ param_nodes 0 f.params) ++ returned_nodes f.result) (nodes_of (code_of f.body)),
      length-append (fixed_nodes ++ param_nodes 0 f.params) (returned_nodes f.result),
      length-append fixed_nodes (param_nodes 0 f.params),
      params_long 0 f.params,
      returned_few f.result,
      few (code_of f.body),
    )

-- a function with few parameters and statements has not too many nodes
pub has_room : (f : CoreFunction) → nodes_at_most f ≤ most_nodes → HasTooManyNodes f → ⊥
has_room f le more =
    omega (arith, le, all_few f, more.many, fewer more.nodes (all_nodes f) more.ascending (λ u h. among_contains (all_nodes f) u (node_listed f u (more.node u h))))
