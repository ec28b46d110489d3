-- The events of a tree have each of its nodes, in the order of their numbers.
use Rattle.std.proofs.Common.{ℕ, Option, None, ◌≡◌, refl, sym, ap, ◌∙◌, true≢false, List, [], ◌∷◌, ◌++◌, map, append_assoc}
use Rattle.std.specs.Prelude.{IsTrue}
use Rattle.std.proofs.lemmas.List.{append-nil}
use Rattle.std.proofs.lemmas.Grind.{flat_map-append}
use Rattle.shade_ast.specs.declared.tree.Tree.{Tree}
use Rattle.shade_ast.specs.Nodes.{tree_nodes}
use Rattle.shade_events.specs.declared.event.Event.{Event}
use Rattle.shade_events.specs.declared.event.Event.TheVariants as event
use Rattle.shade_events.specs.declared.filters.Filter.{Filter}
use Rattle.shade_events.specs.Events.{Es, tree_events}
use Rattle.shade_scope.specs.Ranges.{Piece, tree_piece}
use Rattle.std.proofs.lemmas.List.{map-append}
use Rattle.shade_scope.specs.declared.scoped.Meaning.{Meaning}
use Rattle.shade_scope.specs.Grades.{blank}
use Rattle.shade_scope.specs.Scopes.{resolved, start}
use Rattle.shade_scope.specs.Resolved.{event_nodes, node_in, tree_uses}
use Rattle.shade_scope.proofs.Walks.{Told, Walk, at, drop, is_other, next, none, within}
use Rattle.shade_scope.proofs.TreeWalks.{tree_told}

other_node : (e : Event) → IsTrue (is_other e) → node_in e ≡ []
other_node (event.Node n) ok = absurd (true≢false (sym ok))
other_node _ ok = refl

filter_nodes : (fs : List Filter) (es : Es) → event_nodes (map event.Filters fs ++ es) ≡ event_nodes es
filter_nodes [] es = refl
filter_nodes (f ∷ fs) es = filter_nodes fs es

pub walk_nodes : {K : ℕ → Type 0} {a b : Es} {p : Piece} → Walk K a b p → event_nodes a ≡ p.nodes ++ event_nodes b
walk_nodes none = refl
walk_nodes (at n) = refl
walk_nodes (next {c = c} {p = p} {q = q} x y) = walk_nodes x ∙ ap (λ z. p.nodes ++ z) (walk_nodes y) ∙ sym (append_assoc p.nodes q.nodes (event_nodes c))
walk_nodes (drop {b = b} {p = p} e ok k x) = walk_nodes x ∙ ap (λ z. p.nodes ++ (z ++ event_nodes b)) (other_node e ok)
walk_nodes (within {c = c} {d = d} {p = p} ns fs few x is y) =
    walk_nodes x ∙ ap (λ z. ns ++ z) (ap event_nodes is ∙ filter_nodes fs c ∙ walk_nodes y) ∙ sym (append_assoc ns p.nodes (event_nodes d))

-- of numbers of which nothing need be known
abbrev pub Any : ℕ → Type 0
Any n = Unit {0}

pub tree_event_nodes : (t : Tree) → event_nodes (tree_events t) ≡ tree_nodes t
tree_event_nodes t =
    let told : Told Any (tree_events t ++ event.Uncovers ∷ []) [] (tree_piece t) (tree_nodes t) = tree_told Any t (λ n c. tt) in
    let here : event_nodes ((tree_events t ++ event.Uncovers ∷ []) ++ []) ≡ event_nodes (tree_events t) =
    ap event_nodes (append-nil (tree_events t ++ event.Uncovers ∷ [])) ∙ flat_map-append node_in (tree_events t) (event.Uncovers ∷ []) ∙ append-nil (event_nodes (tree_events t)) in
    sym here ∙ walk_nodes (told.walk (λ n c. tt) []) ∙ append-nil (tree_piece t).nodes ∙ told.nodes

-- a table with a place for each node
pub blank_nodes : {A : Type 0} (a : A) (es : Es) → blank a es ≡ map (λ n. a) (event_nodes es)
blank_nodes a [] = refl
blank_nodes a (e ∷ es) = step e ∙ ap (λ l. map (λ n. a) (node_in e) ++ l) (blank_nodes a es) ∙ sym (map-append (λ n. a) (node_in e) (event_nodes es))
  where
    step : (f : Event) → blank a (f ∷ es) ≡ map (λ n. a) (node_in f) ++ blank a es
    step (event.Node n) = refl
    step _ = refl

pub uses_told : (t : Tree) (es : Es) (uses : List (Option Meaning)) → es ≡ tree_events t → uses ≡ resolved t.names start es (blank None es) → uses ≡ tree_uses t
uses_told t es uses is_events is_uses =
    is_uses ∙ ap (λ (z : Es). resolved t.names start z (blank None z)) is_events
    ∙ ap (resolved t.names start (tree_events t)) (blank_nodes None (tree_events t) ∙ ap (map (λ n. None)) (tree_event_nodes t))
