-- What one statement before others adds to what a list has.
use Rattle.std.proofs.Common.{◌≡◌, ℕ, ◌+◌, ◌<◌, ◌≤◌, List, [], ◌∷◌, ◌++◌, length, get_or, drop, refl, ap, sym, ◌∙◌, subst, Bool, true, false, ◌&&◌, not}
use Rattle.std.specs.Prelude.{if◌then◌else◌, map}
use Rattle.std.proofs.lemmas.List.{append-nil, drop_all}
use Rattle.shade_core.specs.declared.behaviour.Behaviour.{Behaviour}
use Rattle.shade_core.specs.declared.statement.Act.{out-Act}
use Rattle.shade_core.specs.declared.statement.Act.TheOpen as act
use Rattle.shade_core.specs.declared.statement.CoreStatement.{CoreStatement}
use Rattle.shade_core.specs.Code.{Code, done, parts_from, act_before, act_code, statement_code, part_code, code_of}
use Rattle.shade_core.specs.Behaviour.{set_of, in_turn, after_switch, behaviour, branch_behaviour, loop_behaviour}
use Rattle.shade_core.proofs.CodeLaws.{layer, act_is, statement_is, turn_next, turn_step, parts_same, drop_here}
use Rattle.shade_graph.specs.declared.node.Node.{Node}
use Rattle.shade_graph.specs.declared.node.Node.TheVariants.{After}
use Rattle.shade_graph.specs.Graph.{end_of}
use Rattle.shade_graph.specs.declared.gather.GivenEdge.{GivenEdge}
use Rattle.shade_graph.specs.Gathered.{Layer, given, control_edges, value_edges, nodes_of, edges_of, layer_nodes, layer_edges, is_read}
use Rattle.shade_graph.proofs.Turns.{turn}

abbrev going : Behaviour → Node → Code → ℕ → Node
going b a rest n = if b.next then end_of (After n) rest else After n

layer_end : (y : Layer) (a : Node) (n : ℕ) (rest : Code) → end_of a (act_before (layer y) n rest) ≡ going (behaviour (act_before (layer y) 0 done)) a rest n
layer_end (act.Set op args) a n rest = refl
layer_end (act.Load view) a n rest = refl
layer_end (act.Declare local value) a n rest = refl
layer_end (act.Store view value) a n rest = refl
layer_end (act.Atomic op view args) a n rest = refl
layer_end (act.Call function args) a n rest = refl
layer_end (act.Barrier space severity) a n rest = refl
layer_end (act.UniformLoad view severity) a n rest = refl
layer_end (act.Length view) a n rest = refl
layer_end (act.If cond one two) a n rest = ap (λ b. going b a rest n) (sym (turn_next (branch_behaviour (code_of one) (code_of two))))
layer_end (act.Switch selector parts) a n rest =
    ap (λ b. going (after_switch b) a rest n) (parts_same parts n 0 0 0) ∙ ap (λ b. going b a rest n) (sym (turn_next (after_switch (behaviour (parts_from 0 0 (map part_code parts))))))
layer_end (act.Loop body continuing leave) a n rest = ap (λ b. going b a rest n) (sym (turn_next (loop_behaviour (code_of body) (code_of continuing) leave)))
layer_end act.Break a n rest = refl
layer_end act.Continue a n rest = refl
layer_end (act.Return value) a n rest = refl

-- where a list ends that begins with a statement
pub statement_end : (s : CoreStatement) (a : Node) (rest : Code) → end_of a (statement_code s rest) ≡ going (behaviour (act_code s.act 0 done)) a rest s.number
statement_end s a rest =
    ap (λ f. end_of a (f rest)) (statement_is s) ∙ (ap (λ f. end_of a (f s.number rest)) (act_is s.act) ∙ (layer_end (out-Act s.act) a s.number rest ∙ ap (λ f. going (behaviour (f 0 done)) a rest s.number) (sym (act_is s.act))))

off : (b : Bool) → not b ≡ true → b ≡ false
off true e = cc
off false e = refl

on : (b : Bool) → not b ≡ false → b ≡ true
on true e = refl
on false e = cc

pub end_stop : (xs : List CoreStatement) (i : ℕ) (x : CoreStatement) (at all : Node) (b : Behaviour) → i < length xs → x ≡ get_or xs i x → b ≡ behaviour (act_code x.act 0 done) → not b.next ≡ true
    → end_of at (code_of (drop i xs)) ≡ all → After x.number ≡ all
end_stop xs i x at all b lt is e stops h =
    ap (λ (c : Bool). if c then end_of (After x.number) (code_of (drop (i + 1) xs)) else After x.number) (sym (off b.next stops) ∙ ap (λ (c : Behaviour). c.next) e)
    ∙ (sym (statement_end x at (code_of (drop (i + 1) xs))) ∙ (ap (λ ys. end_of at (code_of ys)) (sym (drop_here xs i x lt is)) ∙ h))

pub end_more : (xs : List CoreStatement) (i : ℕ) (x : CoreStatement) (at all : Node) (b : Behaviour) → i < length xs → x ≡ get_or xs i x → b ≡ behaviour (act_code x.act 0 done) → not b.next ≡ false
    → end_of at (code_of (drop i xs)) ≡ all → end_of (After x.number) (code_of (drop (i + 1) xs)) ≡ all
end_more xs i x at all b lt is e goes h =
    ap (λ (c : Bool). if c then end_of (After x.number) (code_of (drop (i + 1) xs)) else After x.number) (sym (on b.next goes) ∙ ap (λ (c : Behaviour). c.next) e)
    ∙ (sym (statement_end x at (code_of (drop (i + 1) xs))) ∙ (ap (λ ys. end_of at (code_of ys)) (sym (drop_here xs i x lt is)) ∙ h))

-- what a list has behind a statement: what its rest has, where the statement is read and goes on
abbrev pub behind : {A : Type 0} → Bool → Bool → List A → List A
behind read goes rest = if read then (if goes then rest else []) else []

layer_node_list : (y : Layer) (n : ℕ) (rest : Code) → nodes_of (act_before (layer y) n rest) ≡ layer_nodes n y ++ behind (is_read y) ((behaviour (act_before (layer y) 0 done)).next) (nodes_of rest)
layer_node_list (act.Set op args) n rest = refl
layer_node_list (act.Load view) n rest = refl
layer_node_list (act.Declare local value) n rest = refl
layer_node_list (act.Store view value) n rest = refl
layer_node_list (act.Atomic op view args) n rest = refl
layer_node_list (act.Call function args) n rest = refl
layer_node_list (act.Barrier space severity) n rest = refl
layer_node_list (act.UniformLoad view severity) n rest = refl
layer_node_list (act.Length view) n rest = refl
layer_node_list (act.If cond one two) n rest =
    ap (λ (b : Behaviour). layer_nodes n (act.If cond one two) ++ behind true b.next (nodes_of rest)) (sym (turn_next (branch_behaviour (code_of one) (code_of two))))
layer_node_list (act.Switch selector parts) n rest = refl
layer_node_list (act.Loop body continuing leave) n rest = refl
layer_node_list act.Break n rest = refl
layer_node_list act.Continue n rest = refl
layer_node_list (act.Return value) n rest = refl

layer_edge_list : (y : Layer) (a : Node) (n : ℕ) (rest : Code) → edges_of a (act_before (layer y) n rest) ≡ layer_edges a n y ++ behind (is_read y) ((behaviour (act_before (layer y) 0 done)).next) (edges_of (After n) rest)
layer_edge_list (act.Set op args) a n rest = refl
layer_edge_list (act.Load view) a n rest = refl
layer_edge_list (act.Declare local value) a n rest = refl
layer_edge_list (act.Store view value) a n rest = refl
layer_edge_list (act.Atomic op view args) a n rest = refl
layer_edge_list (act.Call function args) a n rest = refl
layer_edge_list (act.Barrier space severity) a n rest = refl
layer_edge_list (act.UniformLoad view severity) a n rest = refl
layer_edge_list (act.Length view) a n rest = refl
layer_edge_list (act.If cond one two) a n rest =
    ap (λ (b : Behaviour). layer_edges a n (act.If cond one two) ++ behind true b.next (edges_of (After n) rest)) (sym (turn_next (branch_behaviour (code_of one) (code_of two))))
layer_edge_list (act.Switch selector parts) a n rest = refl
layer_edge_list (act.Loop body continuing leave) a n rest = refl
layer_edge_list act.Break a n rest = refl
layer_edge_list act.Continue a n rest = refl
layer_edge_list (act.Return value) a n rest = sym (append-nil (layer_edges a n (act.Return value)))

-- what a list has that begins with a statement
statement_nodes : (s : CoreStatement) (rest : Code) → nodes_of (statement_code s rest) ≡ layer_nodes s.number (out-Act s.act) ++ behind (is_read (out-Act s.act)) (behaviour (act_code s.act 0 done)).next (nodes_of rest)
statement_nodes s rest =
    ap (λ f. nodes_of (f rest)) (statement_is s)
    ∙ (ap (λ f. nodes_of (f s.number rest)) (act_is s.act)
    ∙ (layer_node_list (out-Act s.act) s.number rest ∙ ap (λ f. layer_nodes s.number (out-Act s.act) ++ behind (is_read (out-Act s.act)) (behaviour (f 0 done)).next (nodes_of rest)) (sym (act_is s.act))))

statement_edges : (s : CoreStatement) (a : Node) (rest : Code) → edges_of a (statement_code s rest) ≡ layer_edges a s.number (out-Act s.act) ++ behind (is_read (out-Act s.act)) (behaviour (act_code s.act 0 done)).next (edges_of (After s.number) rest)
statement_edges s a rest =
    ap (λ f. edges_of a (f rest)) (statement_is s)
    ∙ (ap (λ f. edges_of a (f s.number rest)) (act_is s.act)
    ∙ (layer_edge_list (out-Act s.act) a s.number rest ∙ ap (λ f. layer_edges a s.number (out-Act s.act) ++ behind (is_read (out-Act s.act)) (behaviour (f 0 done)).next (edges_of (After s.number) rest)) (sym (act_is s.act))))

-- of a list that is read, or not
abbrev pub read_of : {A : Type 0} → Bool → List A → List A
read_of reads xs = if reads then xs else []

-- one statement more, behind which its list is read on
read_on : {A : Type 0} (made more own whole rest all : List A) (reads read next : Bool) → more ≡ made ++ read_of reads own → whole ≡ own ++ behind read next rest → next ≡ true → made ++ read_of reads whole ≡ all → more ++ read_of (reads && read) rest ≡ all
read_on made more own whole rest all true true true pushed here e h = turn made more own rest whole all pushed here h
read_on made more own whole rest all true false true pushed here e h = turn made more own [] whole all pushed here h
read_on made more own whole rest all false read true pushed here e h = turn made more [] [] [] all pushed refl h
read_on made more own whole rest all reads read false pushed here e h = cc

-- one statement more, behind which nothing is analysed
read_all : {A : Type 0} (made more own whole rest all : List A) (reads read next : Bool) → more ≡ made ++ read_of reads own → whole ≡ own ++ behind read next rest → next ≡ false → made ++ read_of reads whole ≡ all → more ≡ all
read_all made more own whole rest all true true false pushed here e h = sym (append-nil more) ∙ turn made more own [] whole all pushed here h
read_all made more own whole rest all true false false pushed here e h = sym (append-nil more) ∙ turn made more own [] whole all pushed here h
read_all made more own whole rest all false read false pushed here e h = sym (append-nil more) ∙ turn made more [] [] [] all pushed refl h
read_all made more own whole rest all reads read true pushed here e h = cc

module _ (xs : List CoreStatement) (i : ℕ) (x : CoreStatement) (reads : Bool) (b : Behaviour) (lt : i < length xs) (is : x ≡ get_or xs i x) (e : b ≡ behaviour (act_code x.act 0 done)) where
  nodes_here : nodes_of (code_of (drop i xs)) ≡ layer_nodes x.number (out-Act x.act) ++ behind (is_read (out-Act x.act)) b.next (nodes_of (code_of (drop (i + 1) xs)))
  nodes_here =
      ap (λ ys. nodes_of (code_of ys)) (drop_here xs i x lt is)
      ∙ (statement_nodes x (code_of (drop (i + 1) xs)) ∙ ap (λ (c : Behaviour). layer_nodes x.number (out-Act x.act) ++ behind (is_read (out-Act x.act)) c.next (nodes_of (code_of (drop (i + 1) xs)))) (sym e))

  edges_here : (at : Node) → edges_of at (code_of (drop i xs)) ≡ layer_edges at x.number (out-Act x.act) ++ behind (is_read (out-Act x.act)) b.next (edges_of (After x.number) (code_of (drop (i + 1) xs)))
  edges_here at =
      ap (λ ys. edges_of at (code_of ys)) (drop_here xs i x lt is)
      ∙ (statement_edges x at (code_of (drop (i + 1) xs)) ∙ ap (λ (c : Behaviour). layer_edges at x.number (out-Act x.act) ++ behind (is_read (out-Act x.act)) c.next (edges_of (After x.number) (code_of (drop (i + 1) xs)))) (sym e))

  pub nodes_on : (made more all : List Node) → not b.next ≡ false → more ≡ made ++ read_of reads (layer_nodes x.number (out-Act x.act)) → made ++ read_of reads (nodes_of (code_of (drop i xs))) ≡ all
      → more ++ read_of (reads && is_read (out-Act x.act)) (nodes_of (code_of (drop (i + 1) xs))) ≡ all
  nodes_on made more all next pushed h = read_on made more (layer_nodes x.number (out-Act x.act)) _ _ all reads (is_read (out-Act x.act)) b.next pushed nodes_here (on b.next next) h

  pub edges_on : (at : Node) (made more all : List GivenEdge) → not b.next ≡ false → more ≡ made ++ read_of reads (layer_edges at x.number (out-Act x.act)) → made ++ read_of reads (edges_of at (code_of (drop i xs))) ≡ all
      → more ++ read_of (reads && is_read (out-Act x.act)) (edges_of (After x.number) (code_of (drop (i + 1) xs))) ≡ all
  edges_on at made more all next pushed h = read_on made more (layer_edges at x.number (out-Act x.act)) _ _ all reads (is_read (out-Act x.act)) b.next pushed (edges_here at) (on b.next next) h

  pub nodes_all : (made more all : List Node) → not b.next ≡ true → more ≡ made ++ read_of reads (layer_nodes x.number (out-Act x.act)) → made ++ read_of reads (nodes_of (code_of (drop i xs))) ≡ all → more ≡ all
  nodes_all made more all stops pushed h = read_all made more (layer_nodes x.number (out-Act x.act)) _ _ all reads (is_read (out-Act x.act)) b.next pushed nodes_here (off b.next stops) h

  pub edges_all : (at : Node) (made more all : List GivenEdge) → not b.next ≡ true → more ≡ made ++ read_of reads (layer_edges at x.number (out-Act x.act)) → made ++ read_of reads (edges_of at (code_of (drop i xs))) ≡ all → more ≡ all
  edges_all at made more all stops pushed h = read_all made more (layer_edges at x.number (out-Act x.act)) _ _ all reads (is_read (out-Act x.act)) b.next pushed (edges_here at) (off b.next stops) h

-- no more statements
pub read_end : {A : Type 0} (made all : List A) (of : Code → List A) (reads : Bool) (xs : List CoreStatement) (i : ℕ) → of done ≡ [] → length xs ≤ i → made ++ read_of reads (of (code_of (drop i xs))) ≡ all → made ≡ all
read_end made all of true xs i none le h = sym (append-nil made) ∙ (ap (λ l. made ++ l) (sym (ap (λ ys. of (code_of ys)) (drop_all i xs le) ∙ none)) ∙ h)
read_end made all of false xs i none le h = sym (append-nil made) ∙ h

-- the ways of a list end with a statement that does not go on
stops_by : (n m ab ac ar bb bc br : Bool) (c : Behaviour) → m ≡ false → in_turn (in_turn (set_of n ab ac ar) (set_of m bb bc br)) c ≡ in_turn (set_of n ab ac ar) (set_of m bb bc br)
stops_by false m ab ac ar bb bc br c e = refl
stops_by true false ab ac ar bb bc br c e = refl
stops_by true true ab ac ar bb bc br c e = cc

turn_stops : (a b c : Behaviour) → b.next ≡ false → in_turn (in_turn a b) c ≡ in_turn a b
turn_stops a b c e = stops_by a.next b.next a.breaks a.continues a.returns b.breaks b.continues b.returns c e

pub ways_all : (xs : List CoreStatement) (i : ℕ) (x : CoreStatement) (so_far new b all : Behaviour) → i < length xs → x ≡ get_or xs i x → new ≡ in_turn so_far b → b ≡ behaviour (act_code x.act 0 done) → not b.next ≡ true
    → in_turn so_far (behaviour (code_of (drop i xs))) ≡ all → new ≡ all
ways_all xs i x so_far new b all lt is n e stops h =
    n ∙ (sym (turn_stops so_far b (behaviour (code_of (drop (i + 1) xs))) (off b.next stops))
    ∙ (ap (λ z. in_turn z (behaviour (code_of (drop (i + 1) xs)))) (sym n) ∙ turn_step xs i x so_far new b all lt is n e h))

pub ways_end : (xs : List CoreStatement) (i : ℕ) (so_far all : Behaviour) → length xs ≤ i → in_turn so_far (behaviour (code_of (drop i xs))) ≡ all → so_far ≡ all
ways_end xs i so_far all le h = sym (turn_next so_far) ∙ (ap (λ ys. in_turn so_far (behaviour (code_of ys))) (sym (drop_all i xs le)) ∙ h)

pub node_end : (xs : List CoreStatement) (i : ℕ) (at all : Node) → length xs ≤ i → end_of at (code_of (drop i xs)) ≡ all → at ≡ all
node_end xs i at all le h = ap (λ ys. end_of at (code_of ys)) (sym (drop_all i xs le)) ∙ h
