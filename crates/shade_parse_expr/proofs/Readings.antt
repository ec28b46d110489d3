-- Functions of the parser: what they read, with trees and numbers.
use Rattle.std.proofs.Common.{◌≡◌, sym, ap, subst, ℕ, ◌+◌, ◌<◌, ◌≤◌, ◌⊎◌, inl, inr, Bool, true, false, List, [], length, map, arith, Result, Ok, Err, MatchResult}
use Rattle.shade_base.specs.declared.place.Place.{Place}
use Rattle.shade_ast.specs.declared.expr.Infix.{Infix as InfixOperator}
use Rattle.shade_ast.specs.declared.expr.Prefix.{Prefix as PrefixOperator}
use Rattle.shade_ast.specs.declared.expr.ExprKind.TheVariants as kind
use Rattle.shade_ast.specs.Lexemes.{Lexeme}
use Rattle.shade_ast.specs.Names.{Grows}
use Rattle.shade_ast.specs.Shapes.{ExprShape, infixed, prefixed, place_of}
use Rattle.shade_ast.specs.Shaped.{expr_shape}
use Rattle.shade_ast.specs.Needs.{expr_needs}
use Rattle.shade_ast.specs.Nodes.{expr_nodes}
use Rattle.shade_ast.specs.Expressions.{Relational, Unary}
use Rattle.shade_ast.specs.Reads.{Reads, Fails}
use Rattle.shade_ast.proofs.Stages.{Stage, begin}
use Rattle.shade_ast.specs.Chains.{Tail}
use Rattle.shade_ast.proofs.Tails.{Leftward, left_first}
use Rattle.shade_ast.proofs.ShapeLaws.{grows_here, grows_trans}
use Rattle.shade_cursor.specs.declared.part.Part.{Part}
use Rattle.shade_cursor.specs.declared.part.Listing.{Listing}
use Rattle.shade_cursor.specs.declared.part.Fault.{Fault}
use Rattle.shade_cursor.specs.declared.part.Fault.TheVariants as fault
use Rattle.shade_parse_expr.specs.Parts.{Counted, ReadsTree, ReadsList, Faults}
use Rattle.shade_cursor.specs.declared.operators.Joint.{Joint}
use Rattle.shade_cursor.specs.declared.operators.Joint.TheVariants as joint
use Rattle.shade_parse_expr.specs.Rests.{is_bare, JoinPart, joint_rank}
use Rattle.shade_parse_expr.proofs.Trees.{Tree, tree_of, reads_tree, tree_grows, tree_chain, counted_here, built_infix, built_prefix}
use Rattle.shade_parse_expr.proofs.Turns.{Turn, stage_grows, fault_on, no_memory}

-- the part that a function is handed
pub here_tree : (names : List (List ℕ)) (p : Part) → expr_needs p.expr ≤ length names → p.bare ≡ is_bare (expr_shape names p.expr) → Tree names (expr_nodes p.expr) p.node p
here_tree names p known bare = record { known = known; nodes = counted_here (expr_nodes p.expr) p.node; bare = bare }

module _ (G : ExprShape → List Lexeme → List Lexeme → Type 0) (n : ℕ) (tokens : List Lexeme) (names : List (List ℕ)) (prior : List ℕ) (from node : ℕ) where
  -- two parts and an operator
  pub infix_tree : (p l r : Part) (i : InfixOperator) (at : Place) →
      p ≡ record { expr = record { node = r.node; place = l.expr.place; kind = kind.Infix l.expr i at r.expr }; end = r.end; node = r.node + 1; bare = false } → Tree names prior node l →
      Tree names [] l.node r → Reads G n tokens from (infixed (place_of (expr_shape names l.expr)) (expr_shape names l.expr) i at (expr_shape names r.expr)) r.end →
      ReadsTree G n tokens names prior from node p
  infix_tree p l r i at same a b x =
      let k = built_infix names prior node p l r i at same a b in
      let end : p.end ≡ r.end = ap (λ x. x.end) same in
      reads_tree G n tokens names prior from node p k.1 (subst (λ e. Reads G n tokens from (expr_shape names p.expr) e) (sym end) (subst (λ s. Reads G n tokens from s r.end) (sym k.0) x))

  pub prefix_tree : (p r : Part) (o : PrefixOperator) (at : Place) →
      p ≡ record { expr = record { node = r.node; place = at; kind = kind.Prefix o r.expr }; end = r.end; node = r.node + 1; bare = true } → Tree names prior node r →
      Reads G n tokens from (prefixed at o (expr_shape names r.expr)) r.end → ReadsTree G n tokens names prior from node p
  prefix_tree p r o at same b x =
      let k = built_prefix names prior node p r o at same b in
      let end : p.end ≡ r.end = ap (λ x. x.end) same in
      reads_tree G n tokens names prior from node p k.1 (subst (λ e. Reads G n tokens from (expr_shape names p.expr) e) (sym end) (subst (λ s. Reads G n tokens from s r.end) (sym k.0) x))

-- the part that a loop begins with
pub turn_here : (n : ℕ) (C : ExprShape → ExprShape → List Lexeme → List Lexeme → Type 0) (tokens : List Lexeme) (size : ℕ) (names : List (List ℕ)) (p : Part) → p.end ≤ length tokens → p.end ≤ size →
    expr_needs p.expr ≤ length names → p.bare ≡ is_bare (expr_shape names p.expr) → Turn (C (expr_shape names p.expr)) n C tokens size names names (expr_nodes p.expr) p.end p.node p.end p
turn_here n C tokens size names p h within known bare = record {
  stage = begin (C (expr_shape names p.expr)) n tokens p.end h;
  tree = here_tree names p known bare;
  grows = grows_here names;
  past = omega arith;
  within = within;
  numbered = omega arith;
  few = omega arith;
}

-- loops
module _ (G B : ExprShape → List Lexeme → List Lexeme → Type 0) (At : Lexeme → ExprShape → ExprShape → List Lexeme → List Lexeme → Type 0) (n m : ℕ) (k : Leftward G B At n m) (tokens : List Lexeme) (size from : ℕ) (h : from ≤ length tokens) where
  pub turn_first : (first names : List (List ℕ)) (node : ℕ) (left : Part) → ReadsTree B m tokens names [] from node left → Grows first names → from < left.end → left.end ≤ size →
      left.node + from ≤ node + left.end → length names + from ≤ length first + left.end → Turn G n (Tail At) tokens size first names [] from node (from + 1) left
  turn_first first names node left r g past within numbered few = record {
    stage = left_first G B At n m k tokens from left.end (expr_shape names left.expr) h r.reads;
    tree = tree_of B m tokens names [] from node left r;
    grows = g;
    past = omega arith;
    within = within;
    numbered = numbered;
    few = few;
  }

module _ (G : ExprShape → List Lexeme → List Lexeme → Type 0) (n : ℕ) (C : ExprShape → ExprShape → List Lexeme → List Lexeme → Type 0) (tokens : List Lexeme) (size : ℕ) (first mid new : List (List ℕ)) (prior : List ℕ) (from node low : ℕ) (l : Part) (t : Turn G n C tokens size first mid prior from node low l) where
  -- the part so far, once names were added
  pub turn_stage : Grows mid new → Stage G n tokens from l.end (C (expr_shape new l.expr))
  turn_stage g = stage_grows G n C tokens from mid new prior node l t.tree g t.stage

  pub turn_infix : (B : ExprShape → List Lexeme → List Lexeme → Type 0) (m : ℕ) (r p : Part) (i : InfixOperator) (at : Place) → Grows mid new → ReadsTree B m tokens new [] (l.end + 1) l.node r →
      l.end + 1 < r.end → r.end ≤ size → r.node + (l.end + 1) ≤ l.node + r.end → length new + (l.end + 1) ≤ length mid + r.end →
      p ≡ record { expr = record { node = r.node; place = l.expr.place; kind = kind.Infix l.expr i at r.expr }; end = r.end; node = r.node + 1; bare = false } →
      (Stage G n tokens from l.end (C (expr_shape new l.expr)) → Reads B m tokens (l.end + 1) (expr_shape new r.expr) r.end → Stage G n tokens from r.end (C (infixed (place_of (expr_shape new l.expr)) (expr_shape new l.expr) i at (expr_shape new r.expr)))) →
      Turn G n C tokens size first new prior from node low p
  turn_infix B m r p i at g x past within numbered few same step =
      let k = built_infix new prior node p l r i at same (tree_grows mid new prior node l g t.tree) (tree_of B m tokens new [] (l.end + 1) l.node r x) in
      let end : p.end ≡ r.end = ap (λ x. x.end) same in
      let next : p.node ≡ r.node + 1 = ap (λ x. x.node) same in
      let t_past : low ≤ l.end = t.past in
      let t_numbered : l.node + from ≤ node + l.end = t.numbered in
      let t_few : length mid + from ≤ length first + l.end = t.few in
      record {
        stage = subst (λ e. Stage G n tokens from e (C (expr_shape new p.expr))) (sym end) (subst (λ s. Stage G n tokens from r.end (C s)) (sym k.0) (step (turn_stage g) x.reads));
        tree = k.1;
        grows = grows_trans first mid new t.grows g;
        past = omega arith;
        within = omega arith;
        numbered = omega arith;
        few = omega arith;
      }

  -- an access, which was built by another function
  pub turn_step : (B : ExprShape → List Lexeme → List Lexeme → Type 0) (m : ℕ) (p : Part) → Grows mid new → ReadsTree B m tokens new (expr_nodes l.expr) (l.end + 1) l.node p → l.end + 1 < p.end →
      p.end ≤ size → p.node + l.end ≤ l.node + p.end → length new + l.end ≤ length mid + p.end →
      (Stage G n tokens from l.end (C (expr_shape new l.expr)) → Reads B m tokens (l.end + 1) (expr_shape new p.expr) p.end → Stage G n tokens from p.end (C (expr_shape new p.expr))) →
      Turn G n C tokens size first new prior from node low p
  turn_step B m p g x past within numbered few step =
      let t_past : low ≤ l.end = t.past in
      let t_numbered : l.node + from ≤ node + l.end = t.numbered in
      let t_few : length mid + from ≤ length first + l.end = t.few in
      record {
        stage = step (turn_stage g) x.reads;
        tree = tree_chain new prior node l p t.tree.nodes (tree_of B m tokens new (expr_nodes l.expr) (l.end + 1) l.node p x);
        grows = grows_trans first mid new t.grows g;
        past = omega arith;
        within = within;
        numbered = omega arith;
        few = omega arith;
      }

-- a part read as another production
pub read_as : (G B : ExprShape → List Lexeme → List Lexeme → Type 0) (n m : ℕ) (tokens : List Lexeme) (names : List (List ℕ)) (prior : List ℕ) (from node : ℕ) (p : Part) →
    ReadsTree B m tokens names prior from node p → (Reads B m tokens from (expr_shape names p.expr) p.end → Reads G n tokens from (expr_shape names p.expr) p.end) →
    ReadsTree G n tokens names prior from node p
read_as G B n m tokens names prior from node p x f = reads_tree G n tokens names prior from node p (tree_of B m tokens names prior from node p x) (f x.reads)

-- a tree of one token
pub leaf_tree : (G : ExprShape → List Lexeme → List Lexeme → Type 0) (n : ℕ) (tokens : List Lexeme) (names : List (List ℕ)) (from node : ℕ) (p : Part) (s : ExprShape) →
    (expr_shape names p.expr ≡ s) × Tree names [] node p → p.end ≡ from + 1 → Reads G n tokens from s (from + 1) → ReadsTree G n tokens names [] from node p
leaf_tree G n tokens names from node p s k end x = reads_tree G n tokens names [] from node p k.1 (subst (λ e. Reads G n tokens from (expr_shape names p.expr) e) (sym end) (subst (λ z. Reads G n tokens from z (from + 1)) (sym k.0) x))

-- What a call answers that ends a function: it goes on with a part, it reads another production, or it builds a tree.
pub goes_on : (G C : ExprShape → List Lexeme → List Lexeme → Type 0) (n k : ℕ) (tokens : List Lexeme) (first mid new : List (List ℕ)) (from node at : ℕ) (l : Part) (r : Result Part Fault) →
    length mid + from ≤ length first + at → Counted [] (expr_nodes l.expr) node l.node → ((e : ExprShape) (to : ℕ) → Reads C k tokens at e to → Reads G n tokens from e to) →
    ((to : ℕ) → Fails C k tokens at to → Fails G n tokens from to) → MatchResult r (λ p. ReadsTree C k tokens new (expr_nodes l.expr) at l.node p) (λ f. Faults C k tokens mid new at f) →
    MatchResult r (λ p. ReadsTree G n tokens new [] from node p) (λ f. Faults G n tokens first new from f)
goes_on G C n k tokens first mid new from node at l (Ok p) few nodes reads fails x = reads_tree G n tokens new [] from node p (tree_chain new [] node l p nodes (tree_of C k tokens new (expr_nodes l.expr) at l.node p x)) (reads (expr_shape new p.expr) p.end x.reads)
goes_on G C n k tokens first mid new from node at l (Err f) few nodes reads fails x = fault_on G C n k tokens first mid new from at f few fails x

pub goes_as : (G B : ExprShape → List Lexeme → List Lexeme → Type 0) (n m : ℕ) (tokens : List Lexeme) (first new : List (List ℕ)) (from node : ℕ) (r : Result Part Fault) →
    ((e : ExprShape) (to : ℕ) → Reads B m tokens from e to → Reads G n tokens from e to) → ((to : ℕ) → Fails B m tokens from to → Fails G n tokens from to) →
    MatchResult r (λ p. ReadsTree B m tokens new [] from node p) (λ f. Faults B m tokens first new from f) →
    MatchResult r (λ p. ReadsTree G n tokens new [] from node p) (λ f. Faults G n tokens first new from f)
goes_as G B n m tokens first new from node (Ok p) reads fails x = read_as G B n m tokens new [] from node p x (λ y. reads (expr_shape new p.expr) p.end y)
goes_as G B n m tokens first new from node (Err f) reads fails x = fault_on G B n m tokens first first new from from f (omega arith) fails x

pub lists_as : (G B : List ExprShape × Bool → List Lexeme → List Lexeme → Type 0) (n m : ℕ) (tokens : List Lexeme) (first new : List (List ℕ)) (from node : ℕ) (r : Result Listing Fault) →
    ((e : List ExprShape × Bool) (to : ℕ) → Reads B m tokens from e to → Reads G n tokens from e to) → ((to : ℕ) → Fails B m tokens from to → Fails G n tokens from to) →
    MatchResult r (λ p. ReadsList B m tokens new from node p) (λ f. Faults B m tokens first new from f) →
    MatchResult r (λ p. ReadsList G n tokens new from node p) (λ f. Faults G n tokens first new from f)
lists_as G B n m tokens first new from node (Ok p) reads fails x = record { reads = reads (map (expr_shape new) p.items, p.trailing) p.end x.reads; known = x.known; nodes = x.nodes }
lists_as G B n m tokens first new from node (Err f) reads fails x = fault_on G B n m tokens first first new from from f (omega arith) fails x

pub builds : (G : ExprShape → List Lexeme → List Lexeme → Type 0) (n : ℕ) (tokens : List Lexeme) (first new : List (List ℕ)) (prior : List ℕ) (from node : ℕ) (b : Part) (r : Result Part Fault) →
    length new + from ≤ length first + length tokens → ((p : Part) → p ≡ b → ReadsTree G n tokens new prior from node p) → MatchResult r (λ p. p ≡ b) (λ f. f ≡ fault.NoMemory) →
    MatchResult r (λ p. ReadsTree G n tokens new prior from node p) (λ f. Faults G n tokens first new from f)
builds G n tokens first new prior from node b (Ok p) few tree same = tree p same
builds G n tokens first new prior from node b (Err f) few tree same = no_memory G n tokens first new from f same few

-- what stands on the right of an operator that joins
abbrev PartAnswers : List Lexeme → List (List ℕ) → List (List ℕ) → ℕ → ℕ → Result Part Fault → Joint → Type 0
PartAnswers tokens first new from node r j = MatchResult r (λ p. ReadsTree (JoinPart j) (joint_rank j) tokens new [] from node p) (λ f. Faults (JoinPart j) (joint_rank j) tokens first new from f)

module _ (tokens : List Lexeme) (first new : List (List ℕ)) (from node : ℕ) (r : Result Part Fault) (j : Joint) where
  pub relation_part : (j ≡ joint.Or) ⊎ (j ≡ joint.And) → MatchResult r (λ p. ReadsTree Relational 6 tokens new [] from node p) (λ f. Faults Relational 6 tokens first new from f) →
      MatchResult r (λ p. ReadsTree (JoinPart j) (joint_rank j) tokens new [] from node p) (λ f. Faults (JoinPart j) (joint_rank j) tokens first new from f)
  relation_part is x =
      elim is [
        | inl e ↦ subst (PartAnswers tokens first new from node r) (sym e) x
        | inr e ↦ subst (PartAnswers tokens first new from node r) (sym e) x
      ]

  pub operand_part : (j ≡ joint.BitAnd) ⊎ ((j ≡ joint.BitOr) ⊎ (j ≡ joint.BitXor)) → MatchResult r (λ p. ReadsTree Unary 2 tokens new [] from node p) (λ f. Faults Unary 2 tokens first new from f) →
      MatchResult r (λ p. ReadsTree (JoinPart j) (joint_rank j) tokens new [] from node p) (λ f. Faults (JoinPart j) (joint_rank j) tokens first new from f)
  operand_part is x =
      elim is [
        | inl e ↦ subst (PartAnswers tokens first new from node r) (sym e) x
        | inr k ↦ (elim k [
          | inl e ↦ subst (PartAnswers tokens first new from node r) (sym e) x
          | inr e ↦ subst (PartAnswers tokens first new from node r) (sym e) x
        ])
      ]
