-- The violations of a module are one list.
use Rattle.std.proofs.Common.{◌≡◌, refl, sym, ◌∙◌, ap, ap₂, subst, ℕ, ◌<◌, ◌⊎◌, inl, inr, arith, List, [], ◌∷◌, map, length, Option, Some, slice_get}
use Rattle.std.proofs.Math.Nat.{le_antisymm}
use Rattle.shade_base.specs.declared.severity.Severity.{Severity}
use Rattle.shade_core.specs.declared.module.CoreFunction.{CoreFunction}
use Rattle.shade_graph.specs.declared.node.Node.{Node}
use Rattle.shade_graph.specs.declared.node.Node.TheVariants.{Required, NonUniform}
use Rattle.shade_graph.specs.Graph.{Edge, Among, here, later}
use Rattle.shade_graph.specs.Order.{NodeLess, severity_rank, rank, first_key, second_key}
use Rattle.shade_reach.specs.Paths.{IsPath, IsLeastPath, InOrder, NotAfter}
use Rattle.shade_verdict.specs.declared.violation.Violation.{Violation}
use Rattle.shade_verdict.specs.Violations.{IsSite, Shows, plain_step, second_node, ComesBefore, Ascends, AreViolations}
use Rattle.shade_verdict.specs.Laws.{OneVerdict}

-- orders by one number and then by something else
by_number : (a b : ℕ) {P Q : Type 0} → (P → Q → ⊥) → (a < b) ⊎ ((a ≡ b) × P) → (b < a) ⊎ ((b ≡ a) × Q) → ⊥
by_number a b clash (inl x) (inl y) = omega arith
by_number a b clash (inl x) (inr y) = let e : b ≡ a = y.0 in omega arith
by_number a b clash (inr x) (inl y) = let e : a ≡ b = x.0 in omega arith
by_number a b clash (inr x) (inr y) = clash x.1 y.1

below_clash : (a b : ℕ) → a < b → b < a → ⊥
below_clash a b x y = omega arith

-- no node comes before another that comes before it
less_clash : (u v : Node) → NodeLess u v → NodeLess v u → ⊥
less_clash u v = by_number (rank u) (rank v) (by_number (first_key u) (first_key v) (below_clash (second_key u) (second_key v)))

in_order_one : (xs ys : List Node) → InOrder NodeLess xs ys → InOrder NodeLess ys xs → xs ≡ ys
in_order_one [] [] a b = refl
in_order_one [] (y ∷ ys) a b = absurd b
in_order_one (x ∷ xs) [] a b = absurd a
in_order_one (x ∷ xs) (y ∷ ys) (inl l) (inl m) = absurd (less_clash x y l m)
in_order_one (x ∷ xs) (y ∷ ys) (inl l) (inr e) = let own : NodeLess x x = subst (λ (z : Node). NodeLess x z) e.0 l in absurd (less_clash x x own own)
in_order_one (x ∷ xs) (y ∷ ys) (inr e) (inl m) = let own : NodeLess y y = subst (λ (z : Node). NodeLess y z) e.0 m in absurd (less_clash y y own own)
in_order_one (x ∷ xs) (y ∷ ys) (inr e) (inr f) = ap₂ (λ z zs. z ∷ zs) e.0 (in_order_one xs ys e.1 f.1)

not_after_one : (xs ys : List Node) → NotAfter NodeLess xs ys → NotAfter NodeLess ys xs → xs ≡ ys
not_after_one xs ys (inl l) (inl m) = absurd (below_clash (length xs) (length ys) l m)
not_after_one xs ys (inl l) (inr e) = let same : length ys ≡ length xs = e.0 in absurd (omega arith)
not_after_one xs ys (inr e) (inl m) = let same : length xs ≡ length ys = e.0 in absurd (omega arith)
not_after_one xs ys (inr e) (inr f) = in_order_one xs ys e.1 f.1

-- the least path is one
least_one : (E : Node → Node → Type 0) (from to : Node) (p q : List Node) → IsLeastPath E NodeLess from to p → IsLeastPath E NodeLess from to q → p ≡ q
least_one E from to [] q a b = absurd a
least_one E from to (x ∷ xs) [] a b = absurd b
least_one E from to (x ∷ xs) (y ∷ ys) a b = ap₂ (λ z zs. z ∷ zs) (a.0 ∙ sym b.0) (not_after_one xs ys (a.1.least ys b.1.walk) (b.1.least xs a.1.walk))

least_is_path : (E : Node → Node → Type 0) (from to : Node) (p : List Node) → IsLeastPath E NodeLess from to p → IsPath E from to p
least_is_path E from to [] a = absurd a
least_is_path E from to (x ∷ xs) a = (a.0, a.1.walk)

some_one : (found : Option CoreFunction) (f g : CoreFunction) → found ≡ Some f → found ≡ Some g → f ≡ g
some_one found f g a b = let e : Some f ≡ Some g = sym a ∙ b in cc

-- what is told of a violation is one thing
pub shown_one : (functions : List CoreFunction) (v w : Violation) (node : Node) → v.function ≡ w.function → v.severity ≡ w.severity → Shows functions v node → Shows functions w node → v ≡ w
shown_one functions v w node number severity a b =
    let same : b.function ≡ a.function = some_one (slice_get functions w.function) b.function a.function b.numbered (subst (λ (n : ℕ). slice_get functions n ≡ Some a.function) number a.numbered) in
    let path : IsLeastPath (Edge a.function) NodeLess node NonUniform b.path = subst (λ (f : CoreFunction). IsLeastPath (Edge f) NodeLess node NonUniform b.path) same b.least in
    let site : IsSite a.function (Required w.severity) node w.site = subst (λ (f : CoreFunction). IsSite f (Required w.severity) node w.site) same b.site in
    let site' : IsSite a.function (Required v.severity) node w.site = subst (λ (s : Severity). IsSite a.function (Required s) node w.site) (sym severity) site in
    let sites : v.site ≡ w.site = le_antisymm (a.site.least w.site site'.gives) (site'.least v.site a.site.gives) in
    let paths : v.path ≡ w.path = a.steps ∙ (ap₂ (λ s p. map plain_step (Required s ∷ p)) severity (least_one (Edge a.function) node NonUniform a.path b.path a.least path) ∙ sym b.steps) in
    λ i. record { function = number i; severity = severity i; site = sites i; path = paths i }

-- no violation comes before another that comes before it
comes_clash : (v w : Violation) → ComesBefore v w → ComesBefore w v → ⊥
comes_clash v w = by_number v.function w.function inner where
  inner : (severity_rank v.severity < severity_rank w.severity) ⊎ ((v.severity ≡ w.severity) × NodeLess (second_node v.path) (second_node w.path))
      → (severity_rank w.severity < severity_rank v.severity) ⊎ ((w.severity ≡ v.severity) × NodeLess (second_node w.path) (second_node v.path)) → ⊥
  inner (inl x) (inl y) = below_clash (severity_rank v.severity) (severity_rank w.severity) x y
  inner (inl x) (inr y) = let e : severity_rank w.severity ≡ severity_rank v.severity = ap severity_rank y.0 in omega arith
  inner (inr x) (inl y) = let e : severity_rank v.severity ≡ severity_rank w.severity = ap severity_rank x.0 in omega arith
  inner (inr x) (inr y) = less_clash (second_node v.path) (second_node w.path) x.1 y.1

abbrev Cases : {A : Type 0} → A → List A → Type 0
Cases x [] = ⊥
Cases x (y ∷ ys) = (x ≡ y) ⊎ Among x ys

among_cases : {A : Type 0} {x : A} {zs : List A} → Among x zs → Cases x zs
among_cases here = inl refl
among_cases (later h) = inr h

abbrev Before : Violation → List Violation → Type 0
Before x xs = (w : Violation) → Among w xs → ComesBefore x w

head_one : (x y : Violation) (xs ys : List Violation) → Cases x (y ∷ ys) → Cases y (x ∷ xs) → Before x xs → Before y ys → x ≡ y
head_one x y xs ys (inl e) b before later_ = e
head_one x y xs ys (inr h) (inl e) before later_ = sym e
head_one x y xs ys (inr h) (inr g) before later_ = absurd (comes_clash x y (before y g) (later_ x h))

abbrev Holds : List Violation → List Violation → Type 0
Holds xs ys = (u : Violation) → Among u xs → Among u ys

-- what is behind the head of one list is behind the head of the other
tail_holds : (x y : Violation) (xs ys : List Violation) → x ≡ y → Before x xs → Holds (x ∷ xs) (y ∷ ys) → Holds xs ys
tail_holds x y xs ys e before holds u h = by_cases (among_cases (holds u (later h))) where
  by_cases : Cases u (y ∷ ys) → Among u ys
  by_cases (inr g) = g
  by_cases (inl f) =
      let own : ComesBefore x x = subst (λ (z : Violation). ComesBefore x z) (f ∙ sym e) (before u h) in absurd (comes_clash x x own own)

lists_one : (xs ys : List Violation) → Ascends xs → Ascends ys → Holds xs ys → Holds ys xs → xs ≡ ys
lists_one [] [] a b f g = refl
lists_one [] (y ∷ ys) a b f g = absurd (among_cases (g y here))
lists_one (x ∷ xs) [] a b f g = absurd (among_cases (f x here))
lists_one (x ∷ xs) (y ∷ ys) a b f g =
    let e : x ≡ y = head_one x y xs ys (among_cases (f x here)) (among_cases (g y here)) a.0 b.0 in
    ap₂ (λ z zs. z ∷ zs) e (lists_one xs ys a.1 b.1 (tail_holds x y xs ys e a.0 f) (tail_holds y x ys xs (sym e) b.0 g))

-- each violation that one list tells is told by the other
told_by : (functions : List CoreFunction) (one other : List Violation) → AreViolations functions one → AreViolations functions other → Holds one other
told_by functions one other a b v h =
    let shown : Shows functions v (second_node v.path) = a.sound v h in
    let found : (w : Violation) × Among w other × (w.function ≡ v.function) × (w.severity ≡ v.severity) × (second_node w.path ≡ second_node v.path) =
    b.complete v.function v.severity (second_node v.path) (record { function = shown.function; numbered = shown.numbered; asked = shown.asked; path = shown.path; joined = least_is_path (Edge shown.function) (second_node v.path) NonUniform shown.path shown.least }) in
    let again : Shows functions found.0 (second_node v.path) = subst (λ (n : Node). Shows functions found.0 n) found.4 (b.sound found.0 found.1) in
    subst (λ (w : Violation). Among w other) (shown_one functions found.0 v (second_node v.path) found.2 found.3 again shown) found.1

pub one_verdict : OneVerdict
one_verdict functions one other a b = lists_one one other a.ordered b.ordered (told_by functions one other a b) (told_by functions other one b a)
