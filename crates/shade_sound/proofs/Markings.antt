-- A clean function whose statements are numbered in structure order has a marking of its nodes as low: those from which no path leads to
-- the non-uniform node.
use Rattle.std.proofs.Common.{◌≡◌, ℕ, zero, suc, ◌+◌, ◌<◌, Bool, true, false, not, ◌&&◌, List, [], ◌∷◌, length, Option, Some, None, refl, ap, sym, ◌∙◌, subst, arith, ◌⊎◌, inl, inr}
use Rattle.std.specs.Prelude.{if◌then◌else◌, ◌==◌, slice_get, IsSome}
use Rattle.std.proofs.lemmas.Bool.{eqb-true, eq-eqb}
use Rattle.shade_base.specs.declared.severity.Severity.{Severity}
use Rattle.shade_core.specs.declared.statement.Operand.{Operand}
use Rattle.shade_core.specs.declared.module.CoreFunction.{CoreFunction}
use Rattle.shade_core.specs.declared.module.CoreParam.{CoreParam}
use Rattle.shade_core.specs.Code.{Plain, Jump, Code, done, plain, jump, call, branch, switch, loop, no_part, part, code_of}
use Rattle.shade_core.specs.Behaviour.{branch_behaviour, switch_behaviour, loop_behaviour}
use Rattle.shade_graph.specs.declared.node.Node.{Node}
use Rattle.shade_graph.specs.declared.node.Node.TheVariants.{Required, NonUniform, Start, Param, ContentsIn, ContentsOut, Returned, Before, After, Part, Value, Stored}
use Rattle.shade_graph.specs.Graph
use Rattle.shade_graph.specs.Graph.{IsNode, Stands, Names, ActRow, Row, Edge, Differs, end_of}
use Rattle.shade_reach.specs.Paths.{Walk}
use Rattle.shade_verdict.specs.Clean.{HasOff}
use Rattle.shade_sound.proofs.Bools.{false_true}
use Rattle.shade_sound.proofs.Closed.{Dead, Closed}
use Rattle.shade_sound.proofs.Numbers.{count, InOrder, below, Alive, not_dead, before_of, alive_of, number_of, Of, of_stands}

-- a path leads to the non-uniform node
abbrev pub Reaches : CoreFunction → Node → Type 0
Reaches f u = (rest : List Node) × Walk (Edge f) u NonUniform rest

step_to : (f : CoreFunction) (u v : Node) → Edge f u v → Reaches f v → Reaches f u
step_to f u v e r = (v ∷ r.0, (e, r.1))

some_below : {A : Type 0} (xs : List A) (i : ℕ) (x : A) → slice_get xs i ≡ Some x → i < length xs
some_below [] i x e = let no_one : ⊥ = cc e in absurd no_one
some_below (y ∷ xs) zero x e = omega arith
some_below (y ∷ xs) (suc i) x e = let h : i < length xs = some_below xs i x e in omega (arith, h)

edge_node : (f : CoreFunction) (u v : Node) → Edge f u v → IsNode f u
edge_node f u v (Graph.differs {i = i} {param = param} entry at differs) = Graph.parameter (some_below f.params i param at)
edge_node f u v (Graph.given g) = g.from

-- what reaches it stands
reach_node : (f : CoreFunction) (u : Node) (rest : List Node) → Walk (Edge f) u NonUniform rest → IsNode f u
reach_node f u [] w = subst (λ (x : Node). IsNode f x) (sym w) Graph.non_uniform
reach_node f u (v ∷ rest) w = edge_node f u v w.0

-- ---- the numbers of nodes

none_some : {A : Type 0} {k : ℕ} (o : Option ℕ) → o ≡ None → o ≡ Some k → A
none_some o e g = let no_one : ⊥ = cc (e, g) in absurd no_one

abbrev param_of : Node → Option ℕ
param_of (Param i) = Some i
param_of _ = None

param_none : {c : Code} {u : Node} → Stands c u → param_of u ≡ None
param_none Graph.plain_stands_before = refl
param_none Graph.plain_stands_after = refl
param_none (Graph.plain_stands_value g) = refl
param_none (Graph.plain_stands_rest h) = param_none h
param_none Graph.jump_stands_before = refl
param_none Graph.jump_stands_after = refl
param_none Graph.branch_stands_before = refl
param_none Graph.branch_stands_after = refl
param_none Graph.branch_stands_one = refl
param_none Graph.branch_stands_two = refl
param_none (Graph.branch_stands_in_one h) = param_none h
param_none (Graph.branch_stands_in_two h) = param_none h
param_none (Graph.branch_stands_rest g h) = param_none h

param_below : (f : CoreFunction) (u : Node) (i : ℕ) → IsNode f u → param_of u ≡ Some i → i < length f.params
param_below f u i Graph.required_error e = none_some None refl e
param_below f u i Graph.required_warning e = none_some None refl e
param_below f u i Graph.required_info e = none_some None refl e
param_below f u i Graph.non_uniform e = none_some None refl e
param_below f u i Graph.start e = none_some None refl e
param_below f u i (Graph.parameter {i = j} h) e = let s : j ≡ i = cc e in subst (λ (k : ℕ). k < length f.params) s h
param_below f u i (Graph.returned h) e = none_some None refl e
param_below f u i (Graph.of_statement h) e = none_some (param_of u) (param_none h) e

number_below : (f : CoreFunction) (u : Node) (n : ℕ) → InOrder 0 (code_of f.body) → IsNode f u → number_of u ≡ Some n → n < count (code_of f.body)
number_below f u n o Graph.required_error e = none_some None refl e
number_below f u n o Graph.required_warning e = none_some None refl e
number_below f u n o Graph.required_info e = none_some None refl e
number_below f u n o Graph.non_uniform e = none_some None refl e
number_below f u n o Graph.start e = none_some None refl e
number_below f u n o (Graph.parameter h) e = none_some None refl e
number_below f u n o (Graph.returned h) e = none_some None refl e
number_below f u n o (Graph.of_statement h) e =
    let s : Of (code_of f.body) u = of_stands h in
    let same : s.number ≡ n = cc (s.is, e) in
    let lt : s.number < 0 + count (code_of f.body) = below 0 (code_of f.body) s.number o s.has in
    omega (arith, lt, same)

node_alive : (f : CoreFunction) (u : Node) (n : ℕ) → IsNode f u → before_of u ≡ Some n → Alive (code_of f.body) n
node_alive f u n Graph.required_error e = none_some None refl e
node_alive f u n Graph.required_warning e = none_some None refl e
node_alive f u n Graph.required_info e = none_some None refl e
node_alive f u n Graph.non_uniform e = none_some None refl e
node_alive f u n Graph.start e = none_some None refl e
node_alive f u n (Graph.parameter h) e = none_some None refl e
node_alive f u n (Graph.returned h) e = none_some None refl e
node_alive f u n (Graph.of_statement h) e = alive_of n h e

-- ---- where rows lead

-- a node that no row but those of parameters and of what is around a list leads to
abbrev fair : Node → Bool
fair Start = true
fair (Param i) = true
fair (After n) = true
fair (Part n zero) = true
fair (Part n (suc zero)) = true
fair (Value n) = true
fair _ = false

data Target (c : Code) (v : Node) : Type 0 where
  to_fair : fair v ≡ true → Target c v
  to_before : (n : ℕ) → v ≡ Before n → Stands c (Before n) → Target c v

widen : {c d : Code} {v : Node} → ((u : Node) → Stands c u → Stands d u) → Target c v → Target d v
widen h (to_fair e) = to_fair e
widen h (to_before n e s) = to_before n e (h (Before n) s)

either_fair : (b : Bool) (x y : Node) → fair x ≡ true → fair y ≡ true → fair (if b then x else y) ≡ true
either_fair true x y e g = e
either_fair false x y e g = g

end_fair : (a : Node) (c : Code) → fair a ≡ true → fair (end_of a c) ≡ true
end_fair a done e = e
end_fair a (plain n act rest) e = end_fair (After n) rest refl
end_fair a (jump n act rest) e = refl
end_fair a (call n g args rest) e = end_fair (After n) rest refl
end_fair a (branch n cond one two rest) e = either_fair (branch_behaviour one two).next (end_of (After n) rest) (After n) (end_fair (After n) rest refl) refl
end_fair a (switch n selector parts rest) e = either_fair (switch_behaviour parts).next (end_of (After n) rest) (After n) (end_fair (After n) rest refl) refl
end_fair a (loop n body continuing leave rest) e = either_fair (loop_behaviour body continuing leave).next (end_of (After n) rest) (After n) (end_fair (After n) rest refl) refl
end_fair a no_part e = e
end_fair a (part n which keys fallback body others) e = e

names_fair : {o : Operand} {v : Node} → Names o v → fair v ≡ true
names_fair Graph.names_param = refl
names_fair Graph.names_temp = refl

act_to : (n : ℕ) {act : Plain} {rest : Code} {u v : Node} → ActRow n act u v → Target (plain n act rest) v
act_to n Graph.barrier_required = to_before n refl Graph.plain_stands_before
act_to n Graph.set_before = to_before n refl Graph.plain_stands_before
act_to n (Graph.set_argument among names) = to_fair (names_fair names)

row_to : {a : Node} {c : Code} {s : ℕ} {u v : Node} → fair a ≡ true → Row a c s u v → Target c v
row_to e Graph.plain_before = to_fair e
row_to e (Graph.plain_after {n = n}) = to_before n refl Graph.plain_stands_before
row_to e (Graph.plain_row {n = n} r) = act_to n r
row_to e (Graph.plain_rest r) = widen (λ u h. Graph.plain_stands_rest h) (row_to refl r)
row_to e Graph.jump_before = to_fair e
row_to e (Graph.jump_after {n = n}) = to_before n refl Graph.jump_stands_before
row_to e (Graph.jump_returned {n = n}) = to_before n refl Graph.jump_stands_before
row_to e (Graph.jump_value names) = to_fair (names_fair names)
row_to e Graph.branch_before = to_fair e
row_to e (Graph.branch_one {n = n}) = to_before n refl Graph.branch_stands_before
row_to e (Graph.branch_two {n = n}) = to_before n refl Graph.branch_stands_before
row_to e (Graph.branch_one_cond names) = to_fair (names_fair names)
row_to e (Graph.branch_two_cond names) = to_fair (names_fair names)
row_to e (Graph.branch_next {n = n} goes) = to_before n refl Graph.branch_stands_before
row_to e (Graph.branch_end_one {n = n} {one = one} goes) = to_fair (end_fair (Part n 0) one refl)
row_to e (Graph.branch_end_two {n = n} {two = two} goes) = to_fair (end_fair (Part n 1) two refl)
row_to e (Graph.branch_in_one r) = widen (λ u h. Graph.branch_stands_in_one h) (row_to refl r)
row_to e (Graph.branch_in_two r) = widen (λ u h. Graph.branch_stands_in_two h) (row_to refl r)
row_to e (Graph.branch_rest next r) = widen (λ u h. Graph.branch_stands_rest next h) (row_to refl r)

-- ---- tables

-- a property of numbers below a bound, decided
abbrev Table : (ℕ → Type 0) → ℕ → Type 0
Table P zero = Unit {0}
Table P (suc n) = (P n ⊎ ¬ (P n)) × Table P n

decided : (P : Type 0) → ¬ (¬ (P ⊎ ¬ P))
decided P h = h (inr (λ p. h (inl p)))

-- a table cannot be missing
table : (P : ℕ → Type 0) (n : ℕ) → ¬ (¬ (Table P n))
table P zero h = h tt
table P (suc n) h = decided (P n) (λ d. table P n (λ t. h (d, t)))

abbrev holds : {P : Type 0} → P ⊎ ¬ P → Bool
holds (inl p) = true
holds (inr p) = false

holds_sound : {P : Type 0} → (d : P ⊎ ¬ P) → holds d ≡ true → P
holds_sound (inl p) e = p
holds_sound (inr p) e = false_true false refl e

holds_complete : {P : Type 0} → (d : P ⊎ ¬ P) → P → holds d ≡ true
holds_complete (inl p) x = refl
holds_complete (inr p) x = absurd (p x)

abbrev look : (P : ℕ → Type 0) (n : ℕ) → Table P n → ℕ → Bool
look P zero t k = false
look P (suc n) t k = if k == n then holds t.0 else look P n t.1 k

look_sound : (P : ℕ → Type 0) (n : ℕ) (t : Table P n) (k : ℕ) → look P n t k ≡ true → P k
look_sound P zero t k e = false_true false refl e
look_sound P (suc n) t k e = by (k == n) refl (look_sound P n t.1 k) e
  where
    by : (b : Bool) → (k == n) ≡ b → (look P n t.1 k ≡ true → P k) → (if b then holds t.0 else look P n t.1 k) ≡ true → P k
    by true d r e = subst (λ (m : ℕ). P m) (sym (eqb-true k n d)) (holds_sound t.0 e)
    by false d r e = r e

look_complete : (P : ℕ → Type 0) (n : ℕ) (t : Table P n) (k : ℕ) → k < n → P k → look P n t k ≡ true
look_complete P zero t k lt p = absurd (omega (arith, lt))
look_complete P (suc n) t k lt p = by (k == n) refl (look_complete P n t.1 k)
  where
    by : (b : Bool) → (k == n) ≡ b → (k < n → P k → look P n t.1 k ≡ true) → (if b then holds t.0 else look P n t.1 k) ≡ true
    by true d r = holds_complete t.0 (subst (λ (m : ℕ). P m) (eqb-true k n d) p)
    by false d r = let ne : ¬ (k ≡ n) = λ e. false_true (k == n) d (eq-eqb k n e) in r (omega (arith, lt, ne)) p

abbrev At : CoreFunction → (ℕ → Node) → ℕ → Type 0
At f node n = Reaches f (node n)

abbrev StandsBefore : CoreFunction → ℕ → Type 0
StandsBefore f n = IsNode f (Before n)

abbrev first_part : ℕ → Node
first_part n = Part n 0

abbrev second_part : ℕ → Node
second_part n = Part n 1

-- all that a marking needs to know
pub record Tables (f : CoreFunction) : Type 0 where
  start : Reaches f Start ⊎ ¬ (Reaches f Start)
  param : Table (At f Param) (length f.params)
  before : Table (At f Before) (count (code_of f.body))
  after : Table (At f After) (count (code_of f.body))
  first : Table (At f first_part) (count (code_of f.body))
  second : Table (At f second_part) (count (code_of f.body))
  value : Table (At f Value) (count (code_of f.body))
  stands : Table (StandsBefore f) (count (code_of f.body))

pub tables : (f : CoreFunction) → ¬ (¬ (Tables f))
tables f h =
    decided (Reaches f Start) (λ a. table (At f Param) (length f.params) (λ b. table (At f Before) (count (code_of f.body)) (λ c. table (At f After) (count (code_of f.body)) (λ d. table (At f first_part) (count (code_of f.body)) (λ e. table (At f second_part) (count (code_of f.body)) (λ i. table (At f Value) (count (code_of f.body)) (λ j. table (StandsBefore f) (count (code_of f.body)) (λ k.
    h (record { start = a; param = b; before = c; after = d; first = e; second = i; value = j; stands = k })))))))))

-- ---- the marking

not_true : (b : Bool) → b ≡ true → not b ≡ false
not_true true e = refl
not_true false e = false_true false refl e

not_false : (b : Bool) → not b ≡ false → b ≡ true
not_false true e = refl
not_false false e = false_true true e refl

and_off : (a b : Bool) → b ≡ false → (a && b) ≡ false
and_off true b e = e
and_off false b e = refl

and_on : (a b : Bool) → a ≡ true → (a && b) ≡ false → b ≡ false
and_on true b e g = g
and_on false b e g = false_true false refl e

abbrev is_required : Node → Bool
is_required (Required severity) = true
is_required _ = false

module _ (f : CoreFunction) (t : Tables f) where
  abbrev pub low : Node → Bool
  low (Required severity) = true
  low NonUniform = false
  low Start = not (holds t.start)
  low (Param i) = not (look (At f Param) (length f.params) t.param i)
  low (ContentsIn i) = false
  low (ContentsOut i) = false
  low Returned = false
  low (Before n) = look (StandsBefore f) (count (code_of f.body)) t.stands n && not (look (At f Before) (count (code_of f.body)) t.before n)
  low (After n) = not (look (At f After) (count (code_of f.body)) t.after n)
  low (Part n zero) = not (look (At f first_part) (count (code_of f.body)) t.first n)
  low (Part n (suc zero)) = not (look (At f second_part) (count (code_of f.body)) t.second n)
  low (Part n (suc (suc p))) = false
  low (Value n) = not (look (At f Value) (count (code_of f.body)) t.value n)
  low (Stored n p) = false

  module _ (order : InOrder 0 (code_of f.body)) where
    -- what reaches the non-uniform node is not low
    high : (u : Node) → is_required u ≡ false → Reaches f u → low u ≡ false
    high (Required severity) a r = false_true true a refl
    high NonUniform a r = refl
    high Start a r = not_true (holds t.start) (holds_complete t.start r)
    high (Param i) a r = not_true (look (At f Param) (length f.params) t.param i) (look_complete (At f Param) (length f.params) t.param i (param_below f (Param i) i (reach_node f (Param i) r.0 r.1) refl) r)
    high (ContentsIn i) a r = refl
    high (ContentsOut i) a r = refl
    high Returned a r = refl
    high (Before n) a r =
        and_off (look (StandsBefore f) (count (code_of f.body)) t.stands n) (not (look (At f Before) (count (code_of f.body)) t.before n))
        (not_true (look (At f Before) (count (code_of f.body)) t.before n) (look_complete (At f Before) (count (code_of f.body)) t.before n (number_below f (Before n) n order (reach_node f (Before n) r.0 r.1) refl) r))
    high (After n) a r = not_true (look (At f After) (count (code_of f.body)) t.after n) (look_complete (At f After) (count (code_of f.body)) t.after n (number_below f (After n) n order (reach_node f (After n) r.0 r.1) refl) r)
    high (Part n zero) a r = not_true (look (At f first_part) (count (code_of f.body)) t.first n) (look_complete (At f first_part) (count (code_of f.body)) t.first n (number_below f (Part n 0) n order (reach_node f (Part n 0) r.0 r.1) refl) r)
    high (Part n (suc zero)) a r = not_true (look (At f second_part) (count (code_of f.body)) t.second n) (look_complete (At f second_part) (count (code_of f.body)) t.second n (number_below f (Part n 1) n order (reach_node f (Part n 1) r.0 r.1) refl) r)
    high (Part n (suc (suc p))) a r = refl
    high (Value n) a r = not_true (look (At f Value) (count (code_of f.body)) t.value n) (look_complete (At f Value) (count (code_of f.body)) t.value n (number_below f (Value n) n order (reach_node f (Value n) r.0 r.1) refl) r)
    high (Stored n p) a r = refl

    -- a node that a row leads to reaches the non-uniform node where it is not low
    fair_reaches : (v : Node) → fair v ≡ true → low v ≡ false → Reaches f v
    fair_reaches Start a e = holds_sound t.start (not_false (holds t.start) e)
    fair_reaches (Param i) a e = look_sound (At f Param) (length f.params) t.param i (not_false (look (At f Param) (length f.params) t.param i) e)
    fair_reaches (After n) a e = look_sound (At f After) (count (code_of f.body)) t.after n (not_false (look (At f After) (count (code_of f.body)) t.after n) e)
    fair_reaches (Part n zero) a e = look_sound (At f first_part) (count (code_of f.body)) t.first n (not_false (look (At f first_part) (count (code_of f.body)) t.first n) e)
    fair_reaches (Part n (suc zero)) a e = look_sound (At f second_part) (count (code_of f.body)) t.second n (not_false (look (At f second_part) (count (code_of f.body)) t.second n) e)
    fair_reaches (Value n) a e = look_sound (At f Value) (count (code_of f.body)) t.value n (not_false (look (At f Value) (count (code_of f.body)) t.value n) e)
    fair_reaches (Required severity) a e = false_true false refl a
    fair_reaches NonUniform a e = false_true false refl a
    fair_reaches (ContentsIn i) a e = false_true false refl a
    fair_reaches (ContentsOut i) a e = false_true false refl a
    fair_reaches Returned a e = false_true false refl a
    fair_reaches (Before n) a e = false_true false refl a
    fair_reaches (Part n (suc (suc p))) a e = false_true false refl a
    fair_reaches (Stored n p) a e = false_true false refl a

    before_reaches : (n : ℕ) → IsNode f (Before n) → low (Before n) ≡ false → Reaches f (Before n)
    before_reaches n node e =
        let stands : look (StandsBefore f) (count (code_of f.body)) t.stands n ≡ true = look_complete (StandsBefore f) (count (code_of f.body)) t.stands n (number_below f (Before n) n order node refl) node in
        look_sound (At f Before) (count (code_of f.body)) t.before n (not_false (look (At f Before) (count (code_of f.body)) t.before n) (and_on (look (StandsBefore f) (count (code_of f.body)) t.stands n) (not (look (At f Before) (count (code_of f.body)) t.before n)) stands e))

    target_reaches : (v : Node) → Target (code_of f.body) v → low v ≡ false → Reaches f v
    target_reaches v (to_fair a) e = fair_reaches v a e
    target_reaches v (to_before n is stands) e = subst (λ (x : Node). Reaches f x) (sym is) (before_reaches n (Graph.of_statement stands) (ap low (sym is) ∙ e))

    -- a parameter that differs from lane to lane
    pub differs_high : (i : ℕ) (param : CoreParam) → IsSome f.entry → slice_get f.params i ≡ Some param → Differs param → low (Param i) ≡ false
    differs_high i param entry at differs = high (Param i) refl (NonUniform ∷ [], (Graph.differs entry at differs, refl))

    dead_high : (n : ℕ) → Dead (code_of f.body) n → low (Before n) ≡ false
    dead_high n d = by (look (StandsBefore f) (count (code_of f.body)) t.stands n) refl
      where
        by : (b : Bool) → look (StandsBefore f) (count (code_of f.body)) t.stands n ≡ b → low (Before n) ≡ false
        by true e = absurd (not_dead 0 (code_of f.body) n order (node_alive f (Before n) n (look_sound (StandsBefore f) (count (code_of f.body)) t.stands n e) refl) d)
        by false e = ap (λ b. b && not (look (At f Before) (count (code_of f.body)) t.before n)) e

    module _ (clear : (severity : Severity) (u : Node) → Edge f (Required severity) u → Reaches f u → ⊥) where
      source_high : (u v : Node) → Edge f u v → Reaches f v → low u ≡ true → ⊥
      source_high u v edge r e = by (is_required u) refl
        where
          asks : (x : Node) → is_required x ≡ true → Edge f x v → ⊥
          asks (Required severity) a g = clear severity v g r
          asks NonUniform a g = false_true false refl a
          asks Start a g = false_true false refl a
          asks (Param i) a g = false_true false refl a
          asks (ContentsIn i) a g = false_true false refl a
          asks (ContentsOut i) a g = false_true false refl a
          asks Returned a g = false_true false refl a
          asks (Before n) a g = false_true false refl a
          asks (After n) a g = false_true false refl a
          asks (Part n p) a g = false_true false refl a
          asks (Value n) a g = false_true false refl a
          asks (Stored n p) a g = false_true false refl a

          by : (b : Bool) → is_required u ≡ b → ⊥
          by true a = asks u a edge
          by false a = false_true (low u) (high u a (step_to f u v edge r)) e

      rows_keep : {s : ℕ} {u v : Node} → Row Start (code_of f.body) s u v → IsNode f u → low u ≡ true → low v ≡ true
      rows_keep {s = s} {u = u} {v = v} row node e = by (low v) refl
        where
          by : (b : Bool) → low v ≡ b → b ≡ true
          by true h = refl
          by false h =
              let r : Reaches f v = target_reaches v (row_to refl row) h in
              absurd (source_high u v (Graph.given (record { from = node; to = reach_node f v r.0 r.1; row = row })) r e)

      -- the rows of the function keep the marking
      pub closed : (HasOff (code_of f.body) → ⊥) → Closed f low Start (code_of f.body)
      closed asked = record { rows = rows_keep; stands = λ h. Graph.of_statement h; asked = asked; dead = dead_high }
