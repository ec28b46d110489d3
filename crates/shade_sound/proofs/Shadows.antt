-- A member of a group follows the lane that has only what is low.
use Rattle.std.proofs.Common.{◌≡◌, ℕ, zero, suc, ◌+◌, Bool, true, false, not, ◌&&◌, List, [], ◌∷◌, ◌++◌, Option, Some, None, refl, ap, sym, ◌∙◌, subst, append_assoc, append-nil, arith, inl, inr, ◌⊎◌, add-zero, add-suc}
use Rattle.std.specs.Prelude.{◌==◌}
use Rattle.std.proofs.lemmas.Bool.{eq-eqb}
use Rattle.shade_base.specs.declared.severity.Severity.{Severity}
use Rattle.shade_base.specs.declared.severity.Severity.TheVariants.{Error, Warning, Info, Off}
use Rattle.shade_values.specs.declared.types.Space.{Space}
use Rattle.shade_values.specs.declared.value.Value.{Value as AValue}
use Rattle.shade_core.specs.declared.module.CoreFunction.{CoreFunction}
use Rattle.shade_core.specs.Code.{Plain, Set, Load, Declare, Store, Atomic, Barrier, UniformLoad, Length, Jump, Code, done, plain, jump, call, branch, switch, loop, no_part, part, code_of}
use Rattle.shade_graph.specs.declared.node.Node.{Node}
use Rattle.shade_graph.specs.declared.node.Node.TheVariants.{Required, Before}
use Rattle.shade_graph.specs.Graph
use Rattle.shade_verdict.specs.Clean.{off_here}
use Rattle.shade_lane.specs.declared.state.LaneState.{LaneState}
use Rattle.shade_lane.specs.declared.state.LaneState.TheVariants.{Able, Waiting, Ended}
use Rattle.shade_lane.specs.Lane.{Rest, Place, Over, First, Lane, step, counts, is_over}
use Rattle.shade_lane.specs.Members.{Member, Arrival, act_arrival, arrival, state_by, moved, freed}
use Rattle.shade_group.specs.Group.{same_instance, unlike, instances}
use Rattle.shade_sound.specs.Laws.{IsPrefixOf}
use Rattle.shade_sound.proofs.Bools.{false_true}
use Rattle.shade_sound.proofs.Closed.{Closed, back}
use Rattle.shade_sound.proofs.Rests.{low_place, place_low, Live, StandsWell, place_itself}
use Rattle.shade_sound.proofs.Holds.{SameParams}
use Rattle.shade_sound.proofs.Follows.{low_begin, low_step, low_steps, Follows, high_step, follow_low, over_stays}

pub apart : (n k : ℕ) → ((d : ℕ) × (k ≡ n + d)) ⊎ ((d : ℕ) × (n ≡ k + d))
apart zero k = inl (k, omega arith)
apart (suc n) zero = inr (suc n, omega arith)
apart (suc n) (suc k) = elim (apart n k) [ inl p ↦ inl (p.0, let e : k ≡ n + p.0 = p.1 in omega (arith, e)) | inr p ↦ inr (p.0, let e : n ≡ k + p.0 = p.1 in omega (arith, e)) ]

-- where a lane waits that waits
abbrev pub pending : LaneState → List (List ℕ)
pending Able = []
pending (Waiting space instance) = instance ∷ []
pending Ended = []

pub pending_by : (o : Option Arrival) (b : Bool) → pending (state_by o b) ≡ instances o
pending_by None true = refl
pending_by None false = refl
pending_by (Some a) b = refl

over_by : (o : Option Arrival) (p : Place) → state_by o (is_over p) ≡ Ended → p ≡ Over
over_by None Over e = refl
over_by None (First c k) e = let no_one : ⊥ = cc e in absurd no_one
over_by (Some a) p e = let no_one : ⊥ = cc e in absurd no_one

asked_low : (f : CoreFunction) (low : Node → Bool) (a : Node) (n : ℕ) (space : Space) (severity : Severity) (rest : Code)
    → ((s : Severity) → low (Required s) ≡ true) → Closed f low a (plain n (Barrier space severity) rest) → low (Before n) ≡ true
asked_low f low a n space Error rest required cl = cl.rows (Graph.plain_row Graph.barrier_required) Graph.required_error (required Error)
asked_low f low a n space Warning rest required cl = cl.rows (Graph.plain_row Graph.barrier_required) Graph.required_warning (required Warning)
asked_low f low a n space Info rest required cl = cl.rows (Graph.plain_row Graph.barrier_required) Graph.required_info (required Info)
asked_low f low a n space Off rest required cl = absurd (cl.asked off_here)

act_high : (f : CoreFunction) (low : Node → Bool) (a : Node) (entry n : ℕ) (turns : List ℕ) (act : Plain) (rest : Code)
    → ((s : Severity) → low (Required s) ≡ true) → Closed f low a (plain n act rest) → low (Before n) ≡ false → instances (act_arrival entry n turns act) ≡ []
act_high f low a entry n turns (Barrier space severity) rest required cl e = false_true (low (Before n)) e (asked_low f low a n space severity rest required cl)
act_high f low a entry n turns (Set op args) rest required cl e = refl
act_high f low a entry n turns (Load view) rest required cl e = refl
act_high f low a entry n turns (Declare local value) rest required cl e = refl
act_high f low a entry n turns (Store view value) rest required cl e = refl
act_high f low a entry n turns (Atomic op view args) rest required cl e = refl
act_high f low a entry n turns (UniformLoad view severity) rest required cl e = refl
act_high f low a entry n turns (Length view) rest required cl e = refl

-- no lane arrives under control that is not low
high_arrival : (f : CoreFunction) (low : Node → Bool) (entry : ℕ) (p : Place) → ((s : Severity) → low (Required s) ≡ true) → StandsWell f low p → place_low low p ≡ false → instances (arrival entry p) ≡ []
high_arrival f low entry Over required h e = refl
high_arrival f low entry (First (plain n act rest) k) required h e =
    let l : Live f low (plain n act rest) k = h.0 refl in act_high f low l.under entry n (counts k) act rest required l.closed e
high_arrival f low entry (First done k) required h e = refl
high_arrival f low entry (First (jump n act rest) k) required h e = refl
high_arrival f low entry (First (call n g args rest) k) required h e = refl
high_arrival f low entry (First (branch n cond one two rest) k) required h e = refl
high_arrival f low entry (First (switch n selector parts rest) k) required h e = refl
high_arrival f low entry (First (loop n body continuing leave rest) k) required h e = refl
high_arrival f low entry (First no_part k) required h e = refl
high_arrival f low entry (First (part n which keys fallback body others) k) required h e = refl

same_self : (xs : List ℕ) → same_instance xs xs ≡ true
same_self [] = refl
same_self (x ∷ xs) = ap (λ b. b && same_instance xs xs) (eq-eqb x x refl) ∙ same_self xs

one_after : (r : List (List ℕ)) (a b : List ℕ) (more : List (List ℕ)) → (r ++ a ∷ []) ++ more ≡ r ++ b ∷ [] → a ≡ b
one_after [] a b more e = cc e
one_after (x ∷ r) a b more e = one_after r a b more (cc e)

none_after : (r : List (List ℕ)) (a : List ℕ) (more : List (List ℕ)) → (r ++ a ∷ []) ++ more ≡ r ++ [] → ⊥
none_after [] a more e = cc e
none_after (x ∷ r) a more e = none_after r a more (cc e)

module _ (f : CoreFunction) (low : Node → Bool) (entry : ℕ) (ideal : List (Option AValue)) where
  -- the lane that has only what is low, after so many steps
  abbrev pub at : ℕ → Lane
  at n = low_steps low ideal n (low_begin low (code_of f.body))

  -- where it arrives in so many steps
  abbrev pub arrivals : ℕ → List (List ℕ)
  arrivals zero = []
  arrivals (suc n) = arrivals n ++ instances (arrival entry (at n).place)

  -- A member follows it, and arrived where the group was released and where it waits.
  pub record Shadow (released : List (List ℕ)) (m : Member) : Type 0 where
    pub entry_is : m.entry ≡ entry
    pub same : SameParams low m.params ideal
    pub count : ℕ
    pub follows : Follows f low m.lane (at count)
    pub came : arrivals count ≡ released ++ pending m.state
    pub over : m.state ≡ Ended → m.lane.place ≡ Over

  arrivals_prefix : (n d : ℕ) → IsPrefixOf (arrivals n) (arrivals (n + d))
  arrivals_prefix n zero = ([], append-nil (arrivals n) ∙ ap (λ k. arrivals k) (sym (add-zero n)))
  arrivals_prefix n (suc d) =
      let p : IsPrefixOf (arrivals n) (arrivals (n + d)) = arrivals_prefix n d in (
        p.0 ++ instances (arrival entry (at (n + d)).place),
        sym (append_assoc (arrivals n) p.0 (instances (arrival entry (at (n + d)).place))) ∙ (ap (λ xs. xs ++ instances (arrival entry (at (n + d)).place)) p.1 ∙ ap (λ k. arrivals k) (sym (add-suc n d))),
      )

  over_arrivals : (n d : ℕ) → (at n).place ≡ Over → arrivals (n + d) ≡ arrivals n
  over_arrivals n zero e = ap (λ k. arrivals k) (add-zero n)
  over_arrivals n (suc d) e =
      ap (λ k. arrivals k) (add-suc n d)
      ∙ (ap (λ p. arrivals (n + d) ++ instances (arrival entry p)) (over_stays low ideal (low_begin low (code_of f.body)) n d e) ∙ (append-nil (arrivals (n + d)) ∙ over_arrivals n d e))

  -- A step of a member that is able.
  pub moved_shadow : ((s : Severity) → low (Required s) ≡ true) → (released : List (List ℕ)) (m : Member) → Shadow released m → m.state ≡ Able → Shadow released (moved m)
  moved_shadow required released m s able = by (place_low low m.lane.place) refl
    where
      so_far : arrivals s.count ≡ released
      so_far = s.came ∙ (ap (λ st. released ++ pending st) able ∙ append-nil released)

      waits : pending (moved m).state ≡ instances (arrival entry m.lane.place)
      waits = pending_by (arrival m.entry m.lane.place) (is_over (step m.params m.lane).place) ∙ ap (λ e. instances (arrival e m.lane.place)) s.entry_is

      by : (b : Bool) → place_low low m.lane.place ≡ b → Shadow released (moved m)
      by true e = record {
        entry_is = s.entry_is;
        same = s.same;
        count = suc s.count;
        follows = follow_low f low m.params ideal s.same m.lane (at s.count) s.follows e;
        came = ap (λ p. arrivals s.count ++ instances (arrival entry p)) (sym s.follows.place ∙ place_itself low m.lane.place e) ∙ (ap (λ xs. xs ++ instances (arrival entry m.lane.place)) so_far ∙ ap (λ xs. released ++ xs) (sym waits));
        over = over_by (arrival m.entry m.lane.place) (step m.params m.lane).place;
      }
      by false e = record {
        entry_is = s.entry_is;
        same = s.same;
        count = s.count;
        follows = high_step f low m.params ideal s.same m.lane (at s.count) s.follows e;
        came = so_far ∙ (sym (append-nil released) ∙ ap (λ xs. released ++ xs) (sym (high_arrival f low entry m.lane.place required s.follows.stands e) ∙ sym waits));
        over = over_by (arrival m.entry m.lane.place) (step m.params m.lane).place;
      }

  -- of two members, where one is not ahead of the other
  waits_alike_by : (released : List (List ℕ)) (a b : List ℕ) (n k d : ℕ) → k ≡ n + d → arrivals n ≡ released ++ a ∷ [] → arrivals k ≡ released ++ b ∷ [] → a ≡ b
  waits_alike_by released a b n k d e x y =
      let p : IsPrefixOf (arrivals n) (arrivals (n + d)) = arrivals_prefix n d in
      one_after released a b p.0 (ap (λ xs. xs ++ p.0) (sym x) ∙ (p.1 ∙ (ap (λ z. arrivals z) (sym e) ∙ y)))

  waits_alike : (released : List (List ℕ)) (a b : List ℕ) (n k : ℕ) → arrivals n ≡ released ++ a ∷ [] → arrivals k ≡ released ++ b ∷ [] → a ≡ b
  waits_alike released a b n k x y = elim (apart n k) [ inl p ↦ waits_alike_by released a b n k p.0 p.1 x y | inr p ↦ sym (waits_alike_by released b a k n p.0 p.1 y x) ]

  ended_alone : (released : List (List ℕ)) (b : List ℕ) (n k : ℕ) → (at n).place ≡ Over → arrivals n ≡ released ++ [] → arrivals k ≡ released ++ b ∷ [] → ⊥
  ended_alone released b n k over x y = elim (apart n k) [
    | inl p ↦ none_after released b [] (append-nil (released ++ b ∷ []) ∙ (sym y ∙ (ap (λ z. arrivals z) p.1 ∙ (over_arrivals n p.0 over ∙ x))))
    | inr p ↦ (let q : IsPrefixOf (arrivals k) (arrivals (k + p.0)) = arrivals_prefix k p.0 in none_after released b q.0 (ap (λ xs. xs ++ q.0) (sym y) ∙ (q.1 ∙ (ap (λ z. arrivals z) (sym p.1) ∙ x))))
  ]

  -- two that stopped are alike
  alike_by : (released : List (List ℕ)) (s t : LaneState) (n k : ℕ) → arrivals n ≡ released ++ pending s → arrivals k ≡ released ++ pending t → (s ≡ Ended → (at n).place ≡ Over) → (t ≡ Ended → (at k).place ≡ Over) → unlike s t ≡ false
  alike_by released Able t n k x y g h = refl
  alike_by released (Waiting u a) Able n k x y g h = refl
  alike_by released (Waiting u a) (Waiting v b) n k x y g h =
      let e : a ≡ b = waits_alike released a b n k x y in subst (λ (z : List ℕ). not (same_instance a z) ≡ false) e (ap not (same_self a))
  alike_by released (Waiting u a) Ended n k x y g h = absurd (ended_alone released a k n (h refl) y x)
  alike_by released Ended Able n k x y g h = refl
  alike_by released Ended (Waiting v b) n k x y g h = absurd (ended_alone released b n k (g refl) x y)
  alike_by released Ended Ended n k x y g h = refl

  over_low : (released : List (List ℕ)) (m : Member) (s : Shadow released m) → m.state ≡ Ended → (at s.count).place ≡ Over
  over_low released m s e = sym s.follows.place ∙ ap (λ p. low_place low p) (s.over e)

  pub alike : (released : List (List ℕ)) (m other : Member) → Shadow released m → Shadow released other → unlike m.state other.state ≡ false
  alike released m other s t = alike_by released m.state other.state s.count t.count s.came t.came (over_low released m s) (over_low released other t)

  -- two that wait, wait at one instance
  pub at_one : (released : List (List ℕ)) (m other : Member) (u v : Space) (a b : List ℕ) → Shadow released m → Shadow released other → m.state ≡ Waiting u a → other.state ≡ Waiting v b → a ≡ b
  at_one released m other u v a b s t e g = waits_alike released a b s.count t.count (s.came ∙ ap (λ st. released ++ pending st) e) (t.came ∙ ap (λ st. released ++ pending st) g)

  -- a member that waits is released
  pub freed_shadow : (released : List (List ℕ)) (space : Space) (instance : List ℕ) (m : Member) → Shadow released m → m.state ≡ Waiting space instance → Shadow (released ++ instance ∷ []) (freed m)
  freed_shadow released space instance m s e = record {
    entry_is = s.entry_is;
    same = s.same;
    count = s.count;
    follows = s.follows;
    came = s.came ∙ (ap (λ st. released ++ pending st) e ∙ sym (append-nil (released ++ instance ∷ [])));
    over = λ is. (let no_one : ⊥ = cc is in absurd no_one);
  }

  -- of what two members arrived at, one list is a beginning of the other; where one ended, the other's is a beginning of its
  pub came_agree : (released : List (List ℕ)) (m other : Member) → Shadow released m → Shadow released other
      → (IsPrefixOf (released ++ pending m.state) (released ++ pending other.state) ⊎ IsPrefixOf (released ++ pending other.state) (released ++ pending m.state))
      × (m.state ≡ Ended → IsPrefixOf (released ++ pending other.state) (released ++ pending m.state))
  came_agree released m other s t = rw (sym s.came, sym t.came) (elim (apart s.count t.count) as (λ x. (IsPrefixOf (arrivals s.count) (arrivals t.count) ⊎ IsPrefixOf (arrivals t.count) (arrivals s.count)) × (m.state ≡ Ended → IsPrefixOf (arrivals t.count) (arrivals s.count))) [
    | inl p ↦ (inl (up s.count t.count p.0 p.1), λ e. still p.0 p.1 (over_low released m s e))
    | inr p ↦ (inr (up t.count s.count p.0 p.1), λ e. up t.count s.count p.0 p.1)
  ])
    where
      up : (a b d : ℕ) → b ≡ a + d → IsPrefixOf (arrivals a) (arrivals b)
      up a b d e = subst (λ (z : ℕ). IsPrefixOf (arrivals a) (arrivals z)) (sym e) (arrivals_prefix a d)

      still : (d : ℕ) → t.count ≡ s.count + d → (at s.count).place ≡ Over → IsPrefixOf (arrivals t.count) (arrivals s.count)
      still d e over = ([], append-nil (arrivals t.count) ∙ (ap (λ z. arrivals z) e ∙ over_arrivals s.count d over))
