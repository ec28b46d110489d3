-- Ways from a node back to it, and the first that is told.
use Rattle.std.proofs.Common.{◌≡◌, refl, sym, ap, subst, ◌∙◌, ℕ, ◌+◌, ◌<◌, ◌≤◌, Bool, true, false, List, [], ◌∷◌, ◌++◌, length, get_or, take, Option, Some, None, inl, inr, arith, true≢false}
use Rattle.std.proofs.lemmas.Bool.Decides.{nat_tests}
use Rattle.std.proofs.lemmas.List.{take_all, take_more}
use Rattle.std.proofs.lemmas.List.Elements.{All-contains, All-more, All-weaker, Contains-append_left, Contains-push, Contains-push_cases}
use Rattle.std.proofs.lemmas.List.Folds.{Any-from_list_any, list_any-from_Any}
use Rattle.std.proofs.lemmas.List.Sums.{AllPass-from_list_all}
use Rattle.std.proofs.lemmas.Option.{slice_get-get_or}
use Rattle.std.specs.Prelude.{◌⊎◌, ◌↔◌, ◌==◌, Result, Ok, Err, IfOk, All, Contains, nat_le, nat_lt, slice_get}
use Rattle.std.specs.List.{AllPass, Any, list_all, list_any}
use Rattle.shade_reach.specs.Paths.{Walk, IsDistance}
use Rattle.shade_reach.specs.Digraph.{Digraph, HasEdge, JoinsNodes, SameEdges, IsTargets, IsDistances}
use Rattle.shade_scope.specs.declared.fault.ScopeFault.{ScopeFault}
use Rattle.shade_scope.specs.declared.fault.ScopeFault.TheVariants as fault
use Rattle.shade_scope.specs.declared.cycles.Head.{Head}
use Rattle.shade_scope.specs.Cycles.{Cyclic, IsCycle, NeverRises, is_distance, is_reached, kept}
use Rattle.shade_scope.specs.Faults.{key, IsLeast, is_no_later}

-- ---- a search decides

far : (o : Option (Option ℕ)) → is_distance o ≡ true → (d : ℕ) × (o ≡ Some (Some d))
far None e = absurd (true≢false (sym e))
far (Some None) e = absurd (true≢false (sym e))
far (Some (Some d)) e = (d, refl)

module _ (nodes : ℕ) (edges : List (ℕ × ℕ)) (node : ℕ) (distances : List (Option ℕ)) (targets : List ℕ)
    (away : IsDistances nodes edges node distances) (ends : IsTargets edges node targets) where
  found : list_any (is_reached distances) targets ≡ true → Cyclic edges node
  found h =
      let a : Any (λ x. is_reached distances x ≡ true) targets = Any-from_list_any (is_reached distances) targets h in
      let d : (d : ℕ) × (slice_get distances a.1 ≡ Some (Some d)) = far (slice_get distances a.1) a.4 in
      let is : IsDistance (HasEdge edges) a.1 node d.0 = away.some a.1 d.0 d.1 in
      let edge : HasEdge edges node a.1 = (ends.ends a.1).0 (a.0, a.2, a.3) in
      (a.1, is.reached.0, (edge, is.reached.2))

  seen : (next : ℕ) (rest : List ℕ) → Walk (HasEdge edges) next node rest → (o : Option ℕ) → slice_get distances next ≡ Some o → is_reached distances next ≡ true
  seen next rest w (Some d) e = ap is_distance e
  seen next rest w None e = absurd (away.none next e (next ∷ rest) (refl, w))

  missed : All (λ target. target < nodes) targets → Cyclic edges node → list_any (is_reached distances) targets ≡ true
  missed low c =
      let w : HasEdge edges node c.0 × Walk (HasEdge edges) c.0 node c.1 = c.2 in
      let at : Contains targets c.0 = (ends.ends c.0).1 w.0 in
      let lt : c.0 < nodes = All-contains (λ target. target < nodes) targets c.0 low at in
      let get : slice_get distances c.0 ≡ Some (get_or distances c.0 None) = slice_get-get_or distances c.0 None (omega (arith, away.long, lt)) in
      list_any-from_Any (is_reached distances) targets (at.0, c.0, at.1, at.2, seen c.0 c.1 w.1 (get_or distances c.0 None) get)

  pub decided : All (λ target. target < nodes) targets → (list_any (is_reached distances) targets ≡ true) ↔ Cyclic edges node
  decided low = (found, missed low)

pub decided_as : (nodes : ℕ) (edges : List (ℕ × ℕ)) (node : ℕ) (distances : List (Option ℕ)) (targets : List ℕ)
    → IsDistances nodes edges node distances → IsTargets edges node targets → All (λ target. target < nodes) targets
    → (r : Bool) (seen : List (Option ℕ)) → r ≡ list_any (is_reached seen) targets → seen ≡ distances → (r ≡ true) ↔ Cyclic edges node
decided_as nodes edges node distances targets away ends low r seen is same =
    let there : r ≡ list_any (is_reached distances) targets = is ∙ ap (λ ds. list_any (is_reached ds) targets) same in
    let both : (list_any (is_reached distances) targets ≡ true) ↔ Cyclic edges node = decided nodes edges node distances targets away ends low in
    (λ e. both.0 (sym there ∙ e), λ c. there ∙ both.1 c)

-- ---- one more declaration

below : (m n : ℕ) → nat_le m n ≡ true → m ≤ n
below m n e = grind (arith, nat_tests)

beyond : (m n : ℕ) → nat_le m n ≡ false → n ≤ m
beyond m n e = grind (arith, nat_tests)

module _ (edges : List (ℕ × ℕ)) (heads : List Head) (head : Head) where
  abbrev Old : ScopeFault → Type 0
  Old f = IsCycle edges heads f

  abbrev New : ScopeFault → Type 0
  New f = IsCycle edges (heads ++ head ∷ []) f

  abbrev Own : ScopeFault → Type 0
  Own f = Cyclic edges head.node × (f ≡ fault.Cycle head.place)

  widen : (f : ScopeFault) → Old f → New f
  widen f c = (c.0, Contains-append_left heads (head ∷ []) c.0 c.1, c.2, c.3)

  split_by : (f : ScopeFault) (h : Head) → Contains heads h ⊎ (head ≡ h) → Cyclic edges h.node → f ≡ fault.Cycle h.place → Old f ⊎ Own f
  split_by f h (inl there) cyclic is = inl (h, there, cyclic, is)
  split_by f h (inr same) cyclic is = inr (subst (λ (x : Head). Cyclic edges x.node × (f ≡ fault.Cycle x.place)) (sym same) (cyclic, is))

  split : (f : ScopeFault) → New f → Old f ⊎ Own f
  split f c = split_by f c.0 (Contains-push_cases heads head c.0 c.1) c.2 c.3

  none : ((f : ScopeFault) → Old f → ⊥) → (Cyclic edges head.node → ⊥) → (f : ScopeFault) → Old f ⊎ Own f → ⊥
  none l not f (inl old) = l f old
  none l not f (inr own) = not own.0

  low : (g : ScopeFault) → ((f : ScopeFault) → Old f → key g ≤ key f) → (Cyclic edges head.node → key g ≤ key (fault.Cycle head.place)) → (f : ScopeFault) → Old f ⊎ Own f → key g ≤ key f
  low g l own f (inl old) = l f old
  low g l own f (inr mine) = subst (λ (x : ScopeFault). key g ≤ key x) (sym mine.1) (own mine.0)

  pub absent : (o : Option ScopeFault) → (Cyclic edges head.node → ⊥) → IsLeast Old o → IsLeast New o
  absent None not l = λ f c. none l not f (split f c)
  absent (Some g) not l = (widen g l.0, λ f c. low g l.1 (λ y. absurd (not y)) f (split f c))

  pub settled : (o : Option ScopeFault) → is_no_later o (fault.Cycle head.place) ≡ true → IsLeast Old o → IsLeast New o
  settled None e l = absurd (true≢false (sym e))
  settled (Some g) e l = (widen g l.0, λ f c. low g l.1 (λ y. below (key g) (key (fault.Cycle head.place)) e) f (split f c))

  pub outside : (o : Option ScopeFault) (nodes : ℕ) → JoinsNodes nodes edges → nodes ≤ head.node → IsLeast Old o → IsLeast New o
  outside o nodes joins le l = absent o (λ c. let w : HasEdge edges head.node c.0 × Walk (HasEdge edges) c.0 head.node c.1 = c.2 in omega (arith, (joins head.node c.0 w.0).0, le)) l

  before_all : (o : Option ScopeFault) → is_no_later o (fault.Cycle head.place) ≡ false → IsLeast Old o → (f : ScopeFault) → Old f → key (fault.Cycle head.place) ≤ key f
  before_all None e l f old = absurd (l f old)
  before_all (Some g) e l f old = omega (arith, beyond (key g) (key (fault.Cycle head.place)) e, l.1 f old)

  pub told : (o : Option ScopeFault) → is_no_later o (fault.Cycle head.place) ≡ false → Cyclic edges head.node → IsLeast Old o → IsLeast New (Some (fault.Cycle head.place))
  told o e cyclic l = ((head, Contains-push heads head, cyclic, refl), λ f c. low (fault.Cycle head.place) (before_all o e l) (λ y. omega arith) f (split f c))

pub turn : (edges : List (ℕ × ℕ)) (heads : List Head) (i : ℕ) (d : Head) (old new : Option ScopeFault) → i < length heads
    → ((before : List Head) → IsLeast (IsCycle edges before) old → IsLeast (IsCycle edges (before ++ get_or heads i d ∷ [])) new)
    → IsLeast (IsCycle edges (take i heads)) old → IsLeast (IsCycle edges (take (i + 1) heads)) new
turn edges heads i d old new lt step h = subst (λ (hs : List Head). IsLeast (IsCycle edges hs) new) (sym (take_more heads i d lt)) (step (take i heads) h)

pub nothing : (edges : List (ℕ × ℕ)) → IsLeast (IsCycle edges []) None
nothing edges f c = let at : Contains [] c.0 = c.1 in omega (arith, at.1)

-- ---- the same edges

walk_on : (A B : List (ℕ × ℕ)) → ((from to : ℕ) → HasEdge A from to → HasEdge B from to) → (from to : ℕ) (rest : List ℕ) → Walk (HasEdge A) from to rest → Walk (HasEdge B) from to rest
walk_on A B on from to [] w = w
walk_on A B on from to (next ∷ rest) w = (on from next w.0, walk_on A B on next to rest w.1)

cyclic_on : (A B : List (ℕ × ℕ)) → ((from to : ℕ) → HasEdge A from to → HasEdge B from to) → (node : ℕ) → Cyclic A node → Cyclic B node
cyclic_on A B on node c = (c.0, c.1, walk_on A B on node node (c.0 ∷ c.1) c.2)

cycle_on : (A B : List (ℕ × ℕ)) (heads : List Head) → ((from to : ℕ) → HasEdge A from to → HasEdge B from to) → (f : ScopeFault) → IsCycle A heads f → IsCycle B heads f
cycle_on A B heads on f c = let h : Head = c.0 in (h, c.1, cyclic_on A B on h.node c.2, c.3)

pub least_as : (P Q : ScopeFault → Type 0) (o : Option ScopeFault) → ((f : ScopeFault) → P f → Q f) → ((f : ScopeFault) → Q f → P f) → IsLeast P o → IsLeast Q o
least_as P Q None on back l = λ f q. l f (back f q)
least_as P Q (Some g) on back l = (on g l.0, λ f q. l.1 f (back f q))

pub least_on : (links edges : List (ℕ × ℕ)) (heads : List Head) (o : Option ScopeFault) → SameEdges links edges → IsLeast (IsCycle edges heads) o → IsLeast (IsCycle links heads) o
least_on links edges heads o same l =
    least_as (IsCycle edges heads) (IsCycle links heads) o (cycle_on edges links heads (λ from to. (same from to).1)) (cycle_on links edges heads (λ from to. (same from to).0)) l

-- ---- how many nodes there are

abbrev pub Below : ℕ → ℕ × ℕ → Type 0
Below nodes link = (link.0 < nodes) × (link.1 < nodes)

pub count_turn : (old new : ℕ) (links : List (ℕ × ℕ)) (i : ℕ) (d : ℕ × ℕ) → i < length links → old ≤ new
    → (get_or links i d).0 < new → (get_or links i d).1 < new → All (Below old) (take i links) → All (Below new) (take (i + 1) links)
count_turn old new links i d lt le low high h =
    All-more (Below new) links i d lt (All-weaker (Below old) (Below new) (λ p b. (omega (arith, b.0, le), omega (arith, b.1, le))) (take i links) h) (low, high)

pub joins : (nodes : ℕ) (links : List (ℕ × ℕ)) → All (Below nodes) links → JoinsNodes nodes links
joins nodes links all from to h = All-contains (Below nodes) links (from, to) all h

-- ---- ranks

walk_falls : (edges : List (ℕ × ℕ)) (ranks : List ℕ) → NeverRises edges ranks → (from to : ℕ) (rest : List ℕ) → Walk (HasEdge edges) from to rest → kept ranks to ≤ kept ranks from
walk_falls edges ranks never from to [] w = subst (λ (x : ℕ). kept ranks to ≤ kept ranks x) (sym w) (omega arith)
walk_falls edges ranks never from to (next ∷ rest) w = omega (arith, never from next w.0, walk_falls edges ranks never next to rest w.1)

less : (m n : ℕ) → nat_lt m n ≡ true → m < n
less m n e = grind (arith, nat_tests)

pub no_way : (edges : List (ℕ × ℕ)) (ranks targets : List ℕ) (node : ℕ) → NeverRises edges ranks → IsTargets edges node targets
    → list_all (λ to. nat_lt (kept ranks to) (kept ranks node)) targets ≡ true → Cyclic edges node → ⊥
no_way edges ranks targets node never ends falls c =
    let w : HasEdge edges node c.0 × Walk (HasEdge edges) c.0 node c.1 = c.2 in
    let passes : AllPass (λ to. nat_lt (kept ranks to) (kept ranks node)) targets = AllPass-from_list_all (λ to. nat_lt (kept ranks to) (kept ranks node)) targets falls in
    let lower : nat_lt (kept ranks c.0) (kept ranks node) ≡ true = All-contains (λ to. nat_lt (kept ranks to) (kept ranks node) ≡ true) targets c.0 passes ((ends.ends c.0).1 w.0) in
    omega (arith, less (kept ranks c.0) (kept ranks node) lower, walk_falls edges ranks never c.0 node c.1 w.1)

pub no_way_as : (edges : List (ℕ × ℕ)) (ranks targets : List ℕ) (node : ℕ) → NeverRises edges ranks → IsTargets edges node targets
    → (r : Bool) (seen : List ℕ) → r ≡ list_all (λ to. nat_lt (kept seen to) (kept seen node)) targets → seen ≡ ranks → r ≡ true → Cyclic edges node → ⊥
no_way_as edges ranks targets node never ends r seen is same e c =
    no_way edges ranks targets node never ends (ap (λ rs. list_all (λ to. nat_lt (kept rs to) (kept rs node)) targets) (sym same) ∙ sym is ∙ e) c

abbrev pub HoldsBelow : List (ℕ × ℕ) → List ℕ → ℕ → Type 0
HoldsBelow edges ranks n = (from to : ℕ) → from < n → HasEdge edges from to → kept ranks to ≤ kept ranks from

pub one_more : (edges : List (ℕ × ℕ)) (ranks targets : List ℕ) (n : ℕ) → IsTargets edges n targets
    → list_all (λ to. nat_le (kept ranks to) (kept ranks n)) targets ≡ true → HoldsBelow edges ranks n → HoldsBelow edges ranks (n + 1)
one_more edges ranks targets n ends holds h from to lt edge = by_order (from == n) refl
  where
    passes : AllPass (λ to. nat_le (kept ranks to) (kept ranks n)) targets
    passes = AllPass-from_list_all (λ to. nat_le (kept ranks to) (kept ranks n)) targets holds

    at_n : from ≡ n → kept ranks to ≤ kept ranks from
    at_n same =
        let edge_n : HasEdge edges n to = subst (λ (x : ℕ). HasEdge edges x to) same edge in
        let le : kept ranks to ≤ kept ranks n = below (kept ranks to) (kept ranks n) (All-contains (λ x. nat_le (kept ranks x) (kept ranks n) ≡ true) targets to passes ((ends.ends to).1 edge_n)) in
        subst (λ (x : ℕ). kept ranks to ≤ kept ranks x) (sym same) le

    by_order : (b : Bool) → (from == n) ≡ b → kept ranks to ≤ kept ranks from
    by_order true e = at_n (grind (arith, nat_tests))
    by_order false e = h from to (grind (arith, nat_tests)) edge

pub all_of : (edges : List (ℕ × ℕ)) (ranks : List ℕ) (n m : ℕ) → JoinsNodes m edges → m ≤ n → HoldsBelow edges ranks n → NeverRises edges ranks
all_of edges ranks n m joined le h from to edge = h from to (omega (arith, (joined from to edge).0, le)) edge

pub joins_at : (nodes : ℕ) (links : List (ℕ × ℕ)) (i : ℕ) → length links ≤ i → All (Below nodes) (take i links) → JoinsNodes nodes links
joins_at nodes links i le h = joins nodes links (subst (All (Below nodes)) (take_all i links le) h)

-- ---- the end

pub ended : (edges : List (ℕ × ℕ)) (heads : List Head) (i : ℕ) (o : Option ScopeFault) → length heads ≤ i → IsLeast (IsCycle edges (take i heads)) o → IsLeast (IsCycle edges heads) o
ended edges heads i o le h = subst (λ (hs : List Head). IsLeast (IsCycle edges hs) o) (take_all i heads le) h

pub finish : {E : Type 0} → (r : Result (Option ScopeFault) E) (links : List (ℕ × ℕ)) (g h : Digraph) (heads seen : List Head) → g ≡ h → SameEdges links h.edges → seen ≡ heads
    → IfOk r (λ o. IsLeast (IsCycle g.edges seen) o) → IfOk r (λ o. IsLeast (IsCycle links heads) o)
finish (Ok o) links g h heads seen e same is l =
    least_on links g.edges heads o (subst (λ (x : Digraph). SameEdges links x.edges) (sym e) same) (subst (λ (hs : List Head). IsLeast (IsCycle g.edges hs) o) is l)
finish (Err x) links g h heads seen e same is l = tt
