-- One turn of a loop that adds something for each item: what was added and what is still to come are all.
use Rattle.std.proofs.Common.{◌≡◌, sym, ap, ◌∙◌, ℕ, ◌+◌, ◌<◌, List, [], ◌∷◌, ◌++◌, length, drop, get_or, append_assoc}
use Rattle.std.specs.Prelude.{map}
use Rattle.std.proofs.lemmas.List.{drop_more}
use Rattle.shade_core.specs.declared.statement.Operand.{Operand}
use Rattle.shade_core.specs.declared.module.CoreParam.{CoreParam}
use Rattle.shade_graph.specs.declared.node.Node.{Node}
use Rattle.shade_graph.specs.declared.gather.GivenEdge.{GivenEdge}
use Rattle.shade_graph.specs.Gathered.{operand_edges, operands_edges}
use Rattle.shade_graph.specs.Numbered.{Pair, ends, input_pairs, param_pairs}

-- of what one item gives, and what those behind it give
pub turn : {A : Type 0} (made more one rest left all : List A) → more ≡ made ++ one → left ≡ one ++ rest → made ++ left ≡ all → more ++ rest ≡ all
turn made more one rest left all pushed here h = ap (λ x. x ++ rest) pushed ∙ append_assoc made one rest ∙ ap (λ x. made ++ x) (sym here) ∙ h

pub operands_turn : (n : ℕ) (u : Node) (xs : List Operand) (i : ℕ) (x : Operand) (made more all : List GivenEdge) → i < length xs → x ≡ get_or xs i x
    → more ≡ made ++ operand_edges n u x → made ++ operands_edges n u (drop i xs) ≡ all → more ++ operands_edges n u (drop (i + 1) xs) ≡ all
operands_turn n u xs i x made more all lt is pushed h =
    turn made more (operand_edges n u x) (operands_edges n u (drop (i + 1) xs)) (operands_edges n u (drop i xs)) all pushed
    (ap (operands_edges n u) (drop_more xs i x lt) ∙ ap (λ y. operand_edges n u y ++ operands_edges n u (drop (i + 1) xs)) (sym is)) h

pub ends_turn : (xs : List GivenEdge) (i : ℕ) (d : GivenEdge) (made more all : List Pair) → i < length xs → more ≡ made ++ ends (get_or xs i d) ∷ []
    → made ++ map ends (drop i xs) ≡ all → more ++ map ends (drop (i + 1) xs) ≡ all
ends_turn xs i d made more all lt pushed h =
    turn made more (ends (get_or xs i d) ∷ []) (map ends (drop (i + 1) xs)) (map ends (drop i xs)) all pushed (ap (map ends) (drop_more xs i d lt)) h

pub inputs_turn : (number : ℕ) (xs : List CoreParam) (i : ℕ) (d : CoreParam) (made more all : List Pair) → i < length xs → more ≡ made ++ input_pairs number (get_or xs i d)
    → made ++ param_pairs number (drop i xs) ≡ all → more ++ param_pairs (number + 1) (drop (i + 1) xs) ≡ all
inputs_turn number xs i d made more all lt pushed h =
    turn made more (input_pairs number (get_or xs i d)) (param_pairs (number + 1) (drop (i + 1) xs)) (param_pairs number (drop i xs)) all pushed
    (ap (param_pairs number) (drop_more xs i d lt)) h
