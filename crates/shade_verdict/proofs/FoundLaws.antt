-- The violations found so far, one more of them, and the next place.
use Rattle.std.proofs.Common.{◌≡◌, refl, sym, ap, subst, ◌∙◌, ℕ, ◌+◌, ◌<◌, ◌≤◌, List, [], ◌∷◌, ◌++◌, map, length, Some, inl, inr, arith}
use Rattle.std.specs.Prelude.{◌⊎◌, slice_get}
use Rattle.std.proofs.lemmas.Bool.{cases_lt}
use Rattle.std.proofs.lemmas.Option.{slice_get_within}
use Rattle.shade_base.specs.declared.severity.Severity.{Severity}
use Rattle.shade_base.specs.declared.severity.Severity.TheVariants.{Error, Warning, Info, Off}
use Rattle.shade_core.specs.declared.module.CoreFunction.{CoreFunction}
use Rattle.shade_reach.specs.Paths.{IsPath, NoPath, IsLeastPath}
use Rattle.shade_graph.specs.declared.node.Node.{Node}
use Rattle.shade_graph.specs.declared.node.Node.TheVariants.{Required, NonUniform}
use Rattle.shade_graph.specs.Graph.{Among, here, later, Edge}
use Rattle.shade_graph.specs.Order.{NodeLess, severity_rank}
use Rattle.shade_graph.proofs.Members.{among_left, among_right, among_split, among_one, some_same}
use Rattle.shade_verdict.specs.declared.violation.Violation.{Violation}
use Rattle.shade_verdict.specs.Violations.{IsViolation, IsSite, Shows, plain_step, second_node, ComesBefore, Ascends, AreViolations}
use Rattle.shade_verdict.specs.Found.{Tells, Adds, IsPast, AreFound, NoNode}
use Rattle.shade_verdict.proofs.Sites.{required_rank}
use Rattle.shade_verdict.proofs.NumberPaths.{edge_nodes}

pub rank_same : (a b : Severity) → severity_rank a ≡ severity_rank b → a ≡ b
rank_same Error Error e = refl
rank_same Warning Warning e = refl
rank_same Info Info e = refl
rank_same Off Off e = refl
rank_same Error Warning e = absurd (omega (arith, e))
rank_same Error Info e = absurd (omega (arith, e))
rank_same Error Off e = absurd (omega (arith, e))
rank_same Warning Error e = absurd (omega (arith, e))
rank_same Warning Info e = absurd (omega (arith, e))
rank_same Warning Off e = absurd (omega (arith, e))
rank_same Info Error e = absurd (omega (arith, e))
rank_same Info Warning e = absurd (omega (arith, e))
rank_same Info Off e = absurd (omega (arith, e))
rank_same Off Error e = absurd (omega (arith, e))
rank_same Off Warning e = absurd (omega (arith, e))
rank_same Off Info e = absurd (omega (arith, e))

second_is : (f : CoreFunction) (severity : Severity) (node : Node) (path : List Node) → IsLeastPath (Edge f) NodeLess node NonUniform path → second_node (map plain_step (Required severity ∷ path)) ≡ node
second_is f severity node [] p = absurd p
second_is f severity node (first ∷ rest) p = p.0

-- the node that a violation tells of
tells_node : (f : CoreFunction) (number : ℕ) (severity : Severity) (node : Node) (v : Violation) → Tells f number severity node v → second_node v.path ≡ node
tells_node f number severity node v t = ap second_node t.steps ∙ second_is f severity node t.path t.least

shows_of : (functions : List CoreFunction) (f : CoreFunction) (number : ℕ) (severity : Severity) (node : Node) (v : Violation) → slice_get functions number ≡ Some f → Tells f number severity node v → Shows functions v (second_node v.path)
shows_of functions f number severity node v at t =
    let e : node ≡ second_node v.path = sym (tells_node f number severity node v t) in
    let s : severity ≡ v.severity = sym t.of_severity in
    record {
      function = f;
      numbered = ap (λ (k : ℕ). slice_get functions k) t.of_function ∙ at;
      asked = subst (λ (z : Severity). Edge f (Required z) (second_node v.path)) s (subst (λ (n : Node). Edge f (Required severity) n) e t.asked);
      site = subst (λ (z : Severity). IsSite f (Required z) (second_node v.path) v.site) s (subst (λ (n : Node). IsSite f (Required severity) n v.site) e t.site);
      path = t.path;
      least = subst (λ (n : Node). IsLeastPath (Edge f) NodeLess n NonUniform t.path) e t.least;
      steps = t.steps ∙ ap (λ (z : Severity). map plain_step (Required z ∷ t.path)) s;
    }

ascends_push : (vs : List Violation) (v : Violation) → Ascends vs → ((w : Violation) → Among w vs → ComesBefore w v) → Ascends (vs ++ v ∷ [])
ascends_push [] v a before = (λ w h. elim h [ ], tt)
ascends_push (x ∷ vs) v a before = (
  λ w h. elim (among_split vs (v ∷ []) h) [ inl old ↦ a.0 w old | inr own ↦ subst (λ (z : Violation). ComesBefore x z) (sym (among_one v own)) (before x here) ],
  ascends_push vs v a.1 (λ w h. before w (later h)),
)

-- what is past comes before a violation at the next node
past_before : (k r : ℕ) (P : Node → Type 0) (f : CoreFunction) (severity : Severity) (node : Node) (w v : Violation) → Tells f k severity node v → r ≡ severity_rank severity → ((n : Node) → P n → NodeLess n node)
    → IsPast k r P w.function w.severity (second_node w.path) → ComesBefore w v
past_before k r P f severity node w v t e less (inl lt) = inl (subst (λ (n : ℕ). w.function < n) (sym t.of_function) lt)
past_before k r P f severity node w v t e less (inr (same, inl lt)) = inr (same ∙ sym t.of_function, inl (subst (λ (z : Severity). severity_rank w.severity < severity_rank z) (sym t.of_severity) (subst (λ (n : ℕ). severity_rank w.severity < n) e lt)))
past_before k r P f severity node w v t e less (inr (same, inr (rank, p))) =
    inr (same ∙ sym t.of_function, inr (rank_same w.severity severity (rank ∙ e) ∙ sym t.of_severity, subst (λ (n : Node). NodeLess (second_node w.path) n) (sym (tells_node f k severity node v t)) (less (second_node w.path) p)))

-- one node more is past
abbrev pub Also : (Node → Type 0) → Node → Node → Type 0
Also P node n = P n ⊎ (n ≡ node)

also_past : (k r : ℕ) (P : Node → Type 0) (node : Node) (number : ℕ) (severity : Severity) (n : Node) → IsPast k r P number severity n → IsPast k r (Also P node) number severity n
also_past k r P node number severity n (inl lt) = inl lt
also_past k r P node number severity n (inr (same, inl lt)) = inr (same, inl lt)
also_past k r P node number severity n (inr (same, inr (rank, p))) = inr (same, inr (rank, inl p))

add_found : (functions : List CoreFunction) (k r : ℕ) (P : Node → Type 0) (f : CoreFunction) (severity : Severity) (node : Node) (old : List Violation) (v : Violation) → AreFound functions k r P old → r ≡ severity_rank severity
    → ((n : Node) → P n → NodeLess n node) → slice_get functions k ≡ Some f → Tells f k severity node v → AreFound functions k r (Also P node) (old ++ v ∷ [])
add_found functions k r P f severity node old v a e less at t = record {
  sound = λ w h. elim (among_split old (v ∷ []) h) [
    | inl mine ↦ a.sound w mine
    | inr own ↦ subst (λ (z : Violation). Shows functions z (second_node z.path)) (sym (among_one v own)) (shows_of functions f k severity node v at t)
  ];
  past = λ w h. elim (among_split old (v ∷ []) h) [
    | inl mine ↦ also_past k r P node w.function w.severity (second_node w.path) (a.past w mine)
    | inr own ↦ subst (λ (z : Violation). IsPast k r (Also P node) z.function z.severity (second_node z.path)) (sym (among_one v own)) own_past
  ];
  complete = complete;
  ordered = ascends_push old v a.ordered (λ w h. past_before k r P f severity node w v t e less (a.past w h));
}
  where
    own_past : IsPast k r (Also P node) v.function v.severity (second_node v.path)
    own_past = inr (t.of_function, inr (ap severity_rank t.of_severity ∙ sym e, inr (tells_node f k severity node v t)))

    older : (number : ℕ) (asked : Severity) (n : Node) → IsPast k r P number asked n → IsViolation functions number asked n → (w : Violation) × Among w (old ++ v ∷ []) × (w.function ≡ number) × (w.severity ≡ asked) × (second_node w.path ≡ n)
    older number asked n p h = let w = a.complete number asked n p h in (w.0, among_left old (v ∷ []) w.1, w.2, w.3, w.4)

    complete : (number : ℕ) (asked : Severity) (n : Node) → IsPast k r (Also P node) number asked n → IsViolation functions number asked n → (w : Violation) × Among w (old ++ v ∷ []) × (w.function ≡ number) × (w.severity ≡ asked) × (second_node w.path ≡ n)
    complete number asked n (inl lt) h = older number asked n (inl lt) h
    complete number asked n (inr (same, inl lt)) h = older number asked n (inr (same, inl lt)) h
    complete number asked n (inr (same, inr (rank, inl p))) h = older number asked n (inr (same, inr (rank, p))) h
    complete number asked n (inr (same, inr (rank, inr is))) h =
        (v, among_right old (v ∷ []) here, t.of_function ∙ sym same, t.of_severity ∙ sym (rank_same asked severity (rank ∙ e)), tells_node f k severity node v t ∙ sym is)

pass_node : (functions : List CoreFunction) (k r : ℕ) (P : Node → Type 0) (f : CoreFunction) (severity : Severity) (node : Node) (old : List Violation) → AreFound functions k r P old → slice_get functions k ≡ Some f → NoPath (Edge f) node NonUniform
    → AreFound functions k r (Also P node) old
pass_node functions k r P f severity node old a at none = record {
  sound = a.sound;
  past = λ w h. also_past k r P node w.function w.severity (second_node w.path) (a.past w h);
  complete = complete;
  ordered = a.ordered;
}
  where
    complete : (number : ℕ) (asked : Severity) (n : Node) → IsPast k r (Also P node) number asked n → IsViolation functions number asked n → (w : Violation) × Among w old × (w.function ≡ number) × (w.severity ≡ asked) × (second_node w.path ≡ n)
    complete number asked n (inl lt) h = a.complete number asked n (inl lt) h
    complete number asked n (inr (same, inl lt)) h = a.complete number asked n (inr (same, inl lt)) h
    complete number asked n (inr (same, inr (rank, inl p))) h = a.complete number asked n (inr (same, inr (rank, p))) h
    complete number asked n (inr (same, inr (rank, inr is))) h =
        let it : h.function ≡ f = some_same f h.function (sym at ∙ (ap (λ (i : ℕ). slice_get functions i) (sym same) ∙ h.numbered)) in
        absurd (none h.path (subst (λ (z : Node). IsPath (Edge f) z NonUniform h.path) is (subst (λ (z : CoreFunction). IsPath (Edge z) n NonUniform h.path) it h.joined)))

-- the next node
pub add_one : (functions : List CoreFunction) (k r : ℕ) (P : Node → Type 0) (f : CoreFunction) (severity : Severity) (node : Node) (old new : List Violation) → AreFound functions k r P old → r ≡ severity_rank severity
    → ((n : Node) → P n → NodeLess n node) → slice_get functions k ≡ Some f → Adds f k severity node old new → AreFound functions k r (Also P node) new
add_one functions k r P f severity node old new a e less at (inl (v, is, t)) = subst (λ (vs : List Violation). AreFound functions k r (Also P node) vs) (sym is) (add_found functions k r P f severity node old v a e less at t)
add_one functions k r P f severity node old new a e less at (inr (is, none)) = subst (λ (vs : List Violation). AreFound functions k r (Also P node) vs) (sym is) (pass_node functions k r P f severity node old a at none)

-- the same violations, where the places that are past have the same ones
pub as_past : (functions : List CoreFunction) (k r l s : ℕ) (P Q : Node → Type 0) (found : List Violation) → AreFound functions k r P found
    → ((number : ℕ) (severity : Severity) (n : Node) → IsPast k r P number severity n → IsPast l s Q number severity n)
    → ((number : ℕ) (severity : Severity) (n : Node) → IsPast l s Q number severity n → IsViolation functions number severity n → IsPast k r P number severity n) → AreFound functions l s Q found
as_past functions k r l s P Q found a up down = record {
  sound = a.sound;
  past = λ w h. up w.function w.severity (second_node w.path) (a.past w h);
  complete = λ number severity n p h. a.complete number severity n (down number severity n p h) h;
  ordered = a.ordered;
}

-- other words for the nodes that are past
pub same_nodes : (functions : List CoreFunction) (k r : ℕ) (P Q : Node → Type 0) (found : List Violation) → AreFound functions k r P found → ((n : Node) → P n → Q n) → ((n : Node) → Q n → P n) → AreFound functions k r Q found
same_nodes functions k r P Q found a up down = as_past functions k r k r P Q found a (λ number severity n p. turn P Q up number severity n p) (λ number severity n p h. turn Q P down number severity n p)
  where
    turn : (A B : Node → Type 0) → ((n : Node) → A n → B n) → (number : ℕ) (severity : Severity) (n : Node) → IsPast k r A number severity n → IsPast k r B number severity n
    turn A B go number severity n (inl lt) = inl lt
    turn A B go number severity n (inr (same, inl lt)) = inr (same, inl lt)
    turn A B go number severity n (inr (same, inr (rank, p))) = inr (same, inr (rank, go n p))

-- the next severity
pub next_severity : (functions : List CoreFunction) (k : ℕ) (severity : Severity) (P : Node → Type 0) (found : List Violation) → AreFound functions k (severity_rank severity) P found → ((n : Node) → IsViolation functions k severity n → P n)
    → AreFound functions k (severity_rank severity + 1) NoNode found
next_severity functions k severity P found a all = as_past functions k (severity_rank severity) k (severity_rank severity + 1) P NoNode found a up down
  where
    up : (number : ℕ) (asked : Severity) (n : Node) → IsPast k (severity_rank severity) P number asked n → IsPast k (severity_rank severity + 1) NoNode number asked n
    up number asked n (inl lt) = inl lt
    up number asked n (inr (same, inl lt)) = inr (same, inl (omega (arith, lt)))
    up number asked n (inr (same, inr (rank, p))) = inr (same, inl (omega (arith, rank)))

    down : (number : ℕ) (asked : Severity) (n : Node) → IsPast k (severity_rank severity + 1) NoNode number asked n → IsViolation functions number asked n → IsPast k (severity_rank severity) P number asked n
    down number asked n (inl lt) h = inl lt
    down number asked n (inr (same, inl lt)) h = elim (cases_lt (severity_rank asked) (severity_rank severity)) [
      | inl below ↦ inr (same, inl below)
      | inr above ↦ (let rank : severity_rank asked ≡ severity_rank severity = omega (arith, lt, above) in
          inr (same, inr (rank, all n (subst (λ (i : ℕ). IsViolation functions i severity n) same (subst (λ (z : Severity). IsViolation functions number z n) (rank_same asked severity rank) h)))))
    ]
    down number asked n (inr (same, inr (rank, none))) h = absurd none

-- the next function
pub next_function : (functions : List CoreFunction) (k : ℕ) (found : List Violation) → AreFound functions k 3 NoNode found → AreFound functions (k + 1) 0 NoNode found
next_function functions k found a = as_past functions k 3 (k + 1) 0 NoNode NoNode found a up down
  where
    up : (number : ℕ) (asked : Severity) (n : Node) → IsPast k 3 NoNode number asked n → IsPast (k + 1) 0 NoNode number asked n
    up number asked n (inl lt) = inl (omega (arith, lt))
    up number asked n (inr (same, rest)) = inl (omega (arith, same))

    down : (number : ℕ) (asked : Severity) (n : Node) → IsPast (k + 1) 0 NoNode number asked n → IsViolation functions number asked n → IsPast k 3 NoNode number asked n
    down number asked n (inl lt) h = elim (cases_lt number k) [
      | inl below ↦ inl below
      | inr above ↦ inr (omega (arith, lt, above), inl (required_rank h.function asked (edge_nodes h.function (Required asked) n h.asked).0))
    ]
    down number asked n (inr (same, inl lt)) h = absurd (omega (arith, lt))
    down number asked n (inr (same, inr (rank, none))) h = absurd none

-- nothing is past at the first function
pub none_found : (functions : List CoreFunction) → AreFound functions 0 0 NoNode []
none_found functions = record {
  sound = λ v h. elim h [ ];
  past = λ v h. elim h [ ];
  complete = λ number severity n p h. absurd (nothing number severity n p);
  ordered = tt;
}
  where
    nothing : (number : ℕ) (severity : Severity) (n : Node) → IsPast 0 0 NoNode number severity n → ⊥
    nothing number severity n (inl lt) = omega (arith, lt)
    nothing number severity n (inr (same, inl lt)) = omega (arith, lt)
    nothing number severity n (inr (same, inr (rank, none))) = none

-- past the last function stand all violations
pub all_found : (functions : List CoreFunction) (k : ℕ) (found : List Violation) → length functions ≤ k → AreFound functions k 0 NoNode found → AreViolations functions found
all_found functions k found le a = record {
  sound = a.sound;
  complete = λ number severity n h. (let within = slice_get_within functions number h.function h.numbered in a.complete number severity n (inl (omega (arith, within, le))) h);
  ordered = a.ordered;
}
