-- Items that a loop has read so far, and one more.
use Rattle.std.proofs.Common.{◌≡◌, refl, sym, ap, ◌∙◌, subst, ℕ, ◌+◌, ◌<◌, ◌≤◌, List, [], ◌∷◌, ◌++◌, length, map, arith, append_assoc}
use Rattle.std.proofs.lemmas.List.{append-nil}
use Rattle.shade_ast.specs.Lexemes.{Lexeme}
use Rattle.shade_ast.specs.Names.{Grows}
use Rattle.shade_ast.specs.Needs.{most_of}
use Rattle.shade_ast.specs.Nodes.{joined_of, CountFrom}
use Rattle.shade_ast.proofs.Stages.{Stage}
use Rattle.shade_ast.proofs.ShapeLaws.{list_grows, length_grows, grows_trans}
use Rattle.shade_parse_expr.proofs.Trees.{count_join}
use Rattle.shade_parse_simple.specs.declared.read.Read.{Read}
use Rattle.shade_parse_simple.specs.Readings.{Seen, ReadsOf}
use Rattle.shade_parse_simple.proofs.Widens.{Keeps}

-- `H` is read up to `at`, where these items stand so far; `C` says what is left behind them
pub record Turn {T R S : Type 0} (seen : Seen T R) (H : S → List Lexeme → List Lexeme → Type 0) (n : ℕ) (C : List R → S → List Lexeme → List Lexeme → Type 0) (tokens : List Lexeme) (size : ℕ) (first names : List (List ℕ)) (from start : ℕ) (items : List T) (at node : ℕ) : Type 0 where
  pub stage : Stage H n tokens from at (C (map (seen.shape names) items))
  pub known : most_of seen.needs items ≤ length names
  pub nodes : CountFrom start (joined_of seen.nodes items) node
  pub grows : Grows first names
  pub past : from ≤ at
  pub within : at ≤ size
  pub numbered : node + from ≤ start + at
  pub few : length names + from ≤ length first + at

pub map_one : {A B : Type 0} (f : A → B) (xs : List A) (x : A) → map f (xs ++ x ∷ []) ≡ map f xs ++ f x ∷ []
map_one f [] x = refl
map_one f (y ∷ xs) x = ap (λ l. f y ∷ l) (map_one f xs x)

pub most_one : {A : Type 0} (needs : A → ℕ) (xs : List A) (x : A) (n : ℕ) → most_of needs xs ≤ n → needs x ≤ n → most_of needs (xs ++ x ∷ []) ≤ n
most_one needs [] x n a b = omega arith
most_one needs (y ∷ xs) x n a b = let rest : most_of needs (xs ++ x ∷ []) ≤ n = most_one needs xs x n (omega arith) b in omega arith

pub joined_one : {A : Type 0} (nodes : A → List ℕ) (xs : List A) (x : A) → joined_of nodes (xs ++ x ∷ []) ≡ joined_of nodes xs ++ nodes x
joined_one nodes [] x = append-nil (nodes x)
joined_one nodes (y ∷ xs) x = ap (λ l. nodes y ++ l) (joined_one nodes xs x) ∙ sym (append_assoc (nodes y) (joined_of nodes xs) (nodes x))

module _ {T R S : Type 0} {seen : Seen T R} {H : S → List Lexeme → List Lexeme → Type 0} {n : ℕ} {C : List R → S → List Lexeme → List Lexeme → Type 0} {tokens : List Lexeme} {size : ℕ} {first : List (List ℕ)} {from start : ℕ} where
  -- no item yet
  pub turn_first : {names : List (List ℕ)} {items : List T} {at : ℕ} → items ≡ [] → Grows first names → from ≤ at → at ≤ size → length names + from ≤ length first + at → Stage H n tokens from at (C []) → Turn seen H n C tokens size first names from start items at start
  turn_first {names = names} {items = items} {at = at} is g past high few s = record {
    stage = subst (λ l. Stage H n tokens from at (C (map (seen.shape names) l))) (sym is) s;
    known = subst (λ l. most_of seen.needs l ≤ length names) (sym is) (omega arith);
    nodes = subst (λ l. CountFrom start (joined_of seen.nodes l) start) (sym is) refl;
    grows = g;
    past = past;
    within = high;
    numbered = omega arith;
    few = few;
  }

  module _ (keeps : Keeps seen) {mid new : List (List ℕ)} {items more : List T} {at node : ℕ} (t : Turn seen H n C tokens size first mid from start items at node) (g : Grows mid new) {G : R → List Lexeme → List Lexeme → Type 0} {m : ℕ} {r : Read T} (x : ReadsOf seen G m tokens new at node r) (is : more ≡ items ++ r.tree ∷ []) where
    -- the shapes, names and nodes of one item more
    pub turn_shapes : map (seen.shape new) more ≡ map (seen.shape mid) items ++ seen.shape new r.tree ∷ []
    turn_shapes = ap (map (seen.shape new)) is ∙ map_one (seen.shape new) items r.tree ∙ ap (λ l. l ++ seen.shape new r.tree ∷ []) (list_grows seen.needs seen.shape keeps mid new items t.known g)

    pub turn_known : most_of seen.needs more ≤ length new
    turn_known = subst (λ l. most_of seen.needs l ≤ length new) (sym is) (most_one seen.needs items r.tree (length new) (let k : most_of seen.needs items ≤ length mid = t.known in let le : length mid ≤ length new = length_grows mid new g in omega arith) x.known)

    pub turn_nodes : CountFrom start (joined_of seen.nodes more) r.node
    turn_nodes = subst (λ l. CountFrom start l r.node) (sym (ap (joined_of seen.nodes) is ∙ joined_one seen.nodes items r.tree)) (count_join (joined_of seen.nodes items) (seen.nodes r.tree) start node r.node t.nodes x.nodes)

    pub turn_more : (end : ℕ) → r.end ≤ end → end ≤ size → at < r.end → r.node + at ≤ node + r.end → length new + at ≤ length mid + r.end → Stage H n tokens from end (C (map (seen.shape new) more)) → Turn seen H n C tokens size first new from start more end r.node
    turn_more end behind high further numbered few s =
        let t_past : from ≤ at = t.past in
        let t_numbered : node + from ≤ start + at = t.numbered in
        let t_few : length mid + from ≤ length first + at = t.few in
        record {
          stage = s;
          known = turn_known;
          nodes = turn_nodes;
          grows = grows_trans first mid new t.grows g;
          past = omega arith;
          within = high;
          numbered = omega arith;
          few = omega arith;
        }
