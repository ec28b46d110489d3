-- One turn of the loops that add nodes.
use Rattle.std.proofs.Common.{◌≡◌, sym, ap, ◌∙◌, ℕ, ◌+◌, ◌<◌, List, [], ◌∷◌, ◌++◌, length, map, drop, get_or}
use Rattle.std.proofs.lemmas.List.{drop_more}
use Rattle.shade_core.specs.declared.module.CoreFunction.{CoreFunction}
use Rattle.shade_core.specs.declared.module.CoreParam.{CoreParam}
use Rattle.shade_core.specs.declared.statement.Argument.{Argument}
use Rattle.shade_graph.specs.declared.node.Node.{Node}
use Rattle.shade_graph.proofs.Turns.{turn}
use Rattle.shade_uniformity.specs.declared.walk.PartSpan.{PartSpan}
use Rattle.shade_uniformity.specs.NodeLists.{argument_nodes, arguments_nodes, begin, content_nodes, contents_nodes, part_nodes}

pub arguments_turn : (f : CoreFunction) (n j : ℕ) (xs : List Argument) (i : ℕ) (x : Argument) (made more all : List Node) → i < length xs → x ≡ get_or xs i x
    → more ≡ made ++ argument_nodes f n j x → made ++ arguments_nodes f n j (drop i xs) ≡ all → more ++ arguments_nodes f n (j + 1) (drop (i + 1) xs) ≡ all
arguments_turn f n j xs i x made more all lt is pushed h =
    turn made more (argument_nodes f n j x) (arguments_nodes f n (j + 1) (drop (i + 1) xs)) (arguments_nodes f n j (drop i xs)) all pushed
    (ap (arguments_nodes f n j) (drop_more xs i x lt) ∙ ap (λ y. argument_nodes f n j y ++ arguments_nodes f n (j + 1) (drop (i + 1) xs)) (sym is)) h

pub contents_turn : (n : ℕ) (xs : List CoreParam) (i : ℕ) (d : CoreParam) (made more all : List Node) → i < length xs → more ≡ made ++ content_nodes n (get_or xs i d)
    → made ++ contents_nodes n (drop i xs) ≡ all → more ++ contents_nodes (n + 1) (drop (i + 1) xs) ≡ all
contents_turn n xs i d made more all lt pushed h =
    turn made more (content_nodes n (get_or xs i d)) (contents_nodes (n + 1) (drop (i + 1) xs)) (contents_nodes n (drop i xs)) all pushed
    (ap (contents_nodes n) (drop_more xs i d lt)) h

pub parts_turn : (xs : List PartSpan) (i : ℕ) (d : PartSpan) (made more all : List Node) → i < length xs → more ≡ made ++ begin (get_or xs i d) ∷ []
    → made ++ part_nodes (drop i xs) ≡ all → more ++ part_nodes (drop (i + 1) xs) ≡ all
parts_turn xs i d made more all lt pushed h =
    turn made more (begin (get_or xs i d) ∷ []) (part_nodes (drop (i + 1) xs)) (part_nodes (drop i xs)) all pushed (ap part_nodes (drop_more xs i d lt)) h
