-- The lanes of a clean module converge.
use Rattle.std.proofs.Common.{◌≡◌, ℕ, zero, suc, ◌+◌, Bool, true, false, List, [], ◌∷◌, ◌++◌, map, Option, Some, None, refl, ap, ap₂, sym, ◌∙◌, subst, ◌⊎◌, inl, inr}
use Rattle.std.specs.Prelude.{if◌then◌else◌, ◌==◌, slice_get, IsSome}
use Rattle.std.specs.Option.{option_map}
use Rattle.std.proofs.lemmas.Bool.{eqb-true, eq-eqb}
use Rattle.std.proofs.lemmas.Option.{slice_get-map}
use Rattle.shade_base.specs.declared.severity.Severity.{Severity}
use Rattle.shade_values.specs.declared.types.Space.{Space}
use Rattle.shade_values.specs.declared.value.Value.{Value as AValue}
use Rattle.shade_core.specs.declared.module.BuiltinInput.TheVariants.{LocalId, LocalIndex, GlobalId, GroupId, GroupCount}
use Rattle.shade_core.specs.declared.module.CoreFunction.{CoreFunction}
use Rattle.shade_core.specs.declared.module.CoreModule.{CoreModule}
use Rattle.shade_core.specs.declared.module.CoreParam.{CoreParam}
use Rattle.shade_core.specs.declared.module.CoreParam.TheVariants as parameter
use Rattle.shade_core.specs.Code.{Code, code_of}
use Rattle.shade_core.specs.Behaviour.{next_only}
use Rattle.shade_core.specs.Rules.{has_rules}
use Rattle.shade_core.specs.Standing.{AreNumbered}
use Rattle.shade_graph.specs.declared.node.Node.{Node}
use Rattle.shade_graph.specs.declared.node.Node.TheVariants.{Required, Start, Param}
use Rattle.shade_graph.specs.Graph.{Edge, Differs, local_id, local_index, global_id}
use Rattle.shade_verdict.specs.Clean.{IsClean, HasOff}
use Rattle.shade_mem.specs.declared.inputs.Inputs.{Inputs}
use Rattle.shade_lane.specs.declared.state.LaneState.{LaneState}
use Rattle.shade_lane.specs.declared.state.LaneState.TheVariants.{Able, Waiting, Ended}
use Rattle.shade_lane.specs.Lane.{halt, seq, known, param_value}
use Rattle.shade_lane.specs.Members.{Member, begin_member, moved, freed, is_ended}
use Rattle.shade_group.specs.Group.{Machine, unlike, IsRunnable, entry_runs, sized_runs, builtins_of, lane_count, members_from, sized_members, entry_members, begin, run, trace}
use Rattle.shade_sound.specs.Laws.{NeverDiverges, TracesAgree, IsPrefixOf, has_ended}
use Rattle.shade_sound.proofs.Bools.{false_true}
use Rattle.shade_core.proofs.RuleLaws.{body_rules}
use Rattle.shade_sound.proofs.Closed.{Closed}
use Rattle.shade_sound.proofs.Rests.{Fits}
use Rattle.shade_sound.proofs.Holds.{SameParams}
use Rattle.shade_sound.proofs.Follows.{begins}
use Rattle.shade_sound.proofs.Shadows.{pending, Shadow, moved_shadow, alike, at_one, freed_shadow, came_agree}
use Rattle.shade_sound.proofs.Groups.{ended_is, so_far, so_far_at, AllShadow, all_get, Together, Runs, runs, Agree, agree_at}
use Rattle.shade_sound.proofs.Numbers.{InOrder, in_order}
use Rattle.shade_sound.proofs.Markings.{Reaches, Tables, tables, low, differs_high, closed}

-- ---- what has the right to be proved by contradiction

same_number : (a b : ℕ) → (a ≡ b) ⊎ ¬ (a ≡ b)
same_number a b = by (a == b) refl
  where
    by : (t : Bool) → (a == b) ≡ t → (a ≡ b) ⊎ ¬ (a ≡ b)
    by true e = inl (eqb-true a b e)
    by false e = inr (λ is. false_true (a == b) e (eq-eqb a b is))

same_list : (xs ys : List ℕ) → (xs ≡ ys) ⊎ ¬ (xs ≡ ys)
same_list [] [] = inl refl
same_list [] (y ∷ ys) = inr (λ e. cc e)
same_list (x ∷ xs) [] = inr (λ e. cc e)
same_list (x ∷ xs) (y ∷ ys) = by (same_number x y) (same_list xs ys)
  where
    by : (x ≡ y) ⊎ ¬ (x ≡ y) → (xs ≡ ys) ⊎ ¬ (xs ≡ ys) → (x ∷ xs ≡ y ∷ ys) ⊎ ¬ (x ∷ xs ≡ y ∷ ys)
    by (inl e) (inl g) = inl (ap₂ (λ (z : ℕ) (zs : List ℕ). z ∷ zs) e g)
    by (inl e) (inr g) = inr (λ h. g (cc h))
    by (inr e) g = inr (λ h. e (cc h))

is_prefix : (xs ys : List (List ℕ)) → IsPrefixOf xs ys ⊎ ¬ (IsPrefixOf xs ys)
is_prefix [] ys = inl (ys, refl)
is_prefix (x ∷ xs) [] = inr (λ p. (let no_one : x ∷ (xs ++ p.0) ≡ [] = p.1 in cc no_one))
is_prefix (x ∷ xs) (y ∷ ys) = by (same_list x y) (is_prefix xs ys)
  where
    head : (rest : List (List ℕ)) → x ∷ (xs ++ rest) ≡ y ∷ ys → x ≡ y
    head rest e = cc e

    tail : (rest : List (List ℕ)) → x ∷ (xs ++ rest) ≡ y ∷ ys → xs ++ rest ≡ ys
    tail rest e = cc e

    by : (x ≡ y) ⊎ ¬ (x ≡ y) → IsPrefixOf xs ys ⊎ ¬ (IsPrefixOf xs ys) → IsPrefixOf (x ∷ xs) (y ∷ ys) ⊎ ¬ (IsPrefixOf (x ∷ xs) (y ∷ ys))
    by (inl e) (inl p) = inl (p.0, ap₂ (λ (z : List ℕ) (zs : List (List ℕ)). z ∷ zs) e p.1)
    by (inl e) (inr p) = inr (λ q. p (q.0, tail q.0 q.1))
    by (inr e) p = inr (λ q. e (head q.0 q.1))

stable : {P : Type 0} → P ⊎ ¬ P → ¬ (¬ P) → P
stable (inl p) h = p
stable (inr p) h = absurd (h p)

either : {P Q : Type 0} → P ⊎ ¬ P → Q ⊎ ¬ Q → (P ⊎ Q) ⊎ ¬ (P ⊎ Q)
either (inl p) q = inl (inl p)
either (inr p) (inl q) = inl (inr q)
either (inr p) (inr q) = inr (λ h. elim h [ inl x ↦ p x | inr y ↦ q y ])

agree_stable : (one other : List (List ℕ)) (ended : Bool) → ¬ (¬ (Agree one other ended)) → Agree one other ended
agree_stable one other ended h = (stable (either (is_prefix one other) (is_prefix other one)) (λ n. h (λ a. n a.0)), λ e. stable (is_prefix other one) (λ n. h (λ a. n (a.1 e))))

none_stable : (o : Option (ℕ × ℕ)) → ¬ (¬ (o ≡ None)) → o ≡ None
none_stable None h = refl
none_stable (Some pair) h = absurd (h (λ e. cc e))

agree_from : (one other : List (List ℕ)) (s : LaneState) → (IsPrefixOf one other ⊎ IsPrefixOf other one) × (s ≡ Ended → IsPrefixOf other one) → Agree one other (is_ended s)
agree_from one other s c = (c.0, λ e. c.1 (ended_is s e))

-- ---- the lanes of an entry at their start

-- a parameter that does not differ is the same for all lanes
same_param : (inputs : Inputs) (size : List ℕ) (n : ℕ) (p : CoreParam) → (Differs p → ⊥) → param_value (builtins_of inputs size n) p ≡ param_value (builtins_of inputs size 0) p
same_param inputs size n (parameter.Plain ty) h = refl
same_param inputs size n (parameter.Pointer space ty) h = refl
same_param inputs size n (parameter.Input LocalId) h = absurd (h local_id)
same_param inputs size n (parameter.Input LocalIndex) h = absurd (h local_index)
same_param inputs size n (parameter.Input GlobalId) h = absurd (h global_id)
same_param inputs size n (parameter.Input GroupId) h = refl
same_param inputs size n (parameter.Input GroupCount) h = refl

module _ (inputs : Inputs) (f : CoreFunction) (size : List ℕ) (entry : f.entry ≡ Some size) (t : Tables f) (order : InOrder 0 (code_of f.body)) (rules : has_rules f ≡ true)
    (clear : (severity : Severity) (u : Node) → Edge f (Required severity) u → Reaches f u → ⊥) (asked : HasOff (code_of f.body) → ⊥) where
  is_entry : IsSome f.entry
  is_entry = subst (λ (o : Option (List ℕ)). IsSome o) (sym entry) refl

  same_params : (n : ℕ) → SameParams (low f t) (map (param_value (builtins_of inputs size n)) f.params) (map (param_value (builtins_of inputs size 0)) f.params)
  same_params n i h =
      ap known (slice_get-map (param_value (builtins_of inputs size n)) f.params i) ∙ (by (slice_get f.params i) refl ∙ sym (ap known (slice_get-map (param_value (builtins_of inputs size 0)) f.params i)))
    where
      by : (o : Option CoreParam) → slice_get f.params i ≡ o → known (option_map (param_value (builtins_of inputs size n)) o) ≡ known (option_map (param_value (builtins_of inputs size 0)) o)
      by None e = refl
      by (Some p) e = same_param inputs size n p (λ d. false_true (low f t (Param i)) (differs_high f t order i p is_entry e d) h)

  fits : Fits f (low f t) next_only (seq (code_of f.body) halt)
  fits = ((λ e. record { under = Start; rules = body_rules f rules; closed = closed f t order clear asked; returns = λ x y. tt }), tt)

  abbrev Shade : List (List ℕ) → Member → Type 0
  Shade released m = Shadow f (low f t) inputs.entry (map (param_value (builtins_of inputs size 0)) f.params) released m

  begin_shadow : (n : ℕ) → Shade [] (begin_member inputs.entry f (builtins_of inputs size n))
  begin_shadow n = record {
    entry_is = refl;
    same = same_params n;
    count = 0;
    follows = begins f (low f t) (code_of f.body) fits;
    came = refl;
    over = λ e. (let no_one : ⊥ = cc e in absurd no_one);
  }

  moves : (released : List (List ℕ)) (m : Member) → Shade released m → m.state ≡ Able → Shade released (moved m)
  moves = moved_shadow f (low f t) inputs.entry (map (param_value (builtins_of inputs size 0)) f.params) (λ s. refl)

  are_alike : (released : List (List ℕ)) (m other : Member) → Shade released m → Shade released other → unlike m.state other.state ≡ false
  are_alike = alike f (low f t) inputs.entry (map (param_value (builtins_of inputs size 0)) f.params)

  wait_at_one : (released : List (List ℕ)) (m other : Member) (u v : Space) (a b : List ℕ) → Shade released m → Shade released other → m.state ≡ Waiting u a → other.state ≡ Waiting v b → a ≡ b
  wait_at_one = at_one f (low f t) inputs.entry (map (param_value (builtins_of inputs size 0)) f.params)

  frees : (released : List (List ℕ)) (space : Space) (instance : List ℕ) (m : Member) → Shade released m → m.state ≡ Waiting space instance → Shade (released ++ instance ∷ []) (freed m)
  frees = freed_shadow f (low f t) inputs.entry (map (param_value (builtins_of inputs size 0)) f.params)

  from_shadows : (n count : ℕ) → AllShadow Shade moves are_alike wait_at_one frees [] (members_from inputs f size n count)
  from_shadows n zero = tt
  from_shadows n (suc count) = (begin_shadow n, from_shadows (n + 1) count)

  none_at_first : (n count i : ℕ) → so_far [] (slice_get (members_from inputs f size n count) i) ≡ []
  none_at_first n zero i = refl
  none_at_first n (suc count) zero = refl
  none_at_first n (suc count) (suc i) = none_at_first (n + 1) count i

  -- of a machine at its start with these lanes
  module _ (m : Machine) (members : m.members ≡ members_from inputs f size 0 (lane_count size)) (released : m.released ≡ []) (none : m.diverged ≡ None) (steps : List ℕ) where
    together : Together Shade moves are_alike wait_at_one frees m
    together = record {
      each = subst (λ (r : List (List ℕ)). AllShadow Shade moves are_alike wait_at_one frees r m.members) (sym released) (subst (λ (ms : List Member). AllShadow Shade moves are_alike wait_at_one frees [] ms) (sym members) (from_shadows 0 (lane_count size)));
      none = none;
    }

    ran : Runs Shade moves are_alike wait_at_one frees m steps
    ran = runs Shade moves are_alike wait_at_one frees steps m together

    pub never_by : (run m steps).diverged ≡ None
    never_by = ran.together.none

    trace_is : (i : ℕ) → so_far (run m steps).released (slice_get (run m steps).members i) ≡ trace m steps i
    trace_is i = ran.came i ∙ ap (λ xs. xs ++ trace m steps i) (ap (λ r. so_far r (slice_get m.members i)) released ∙ (ap (λ ms. so_far [] (slice_get ms i)) members ∙ none_at_first 0 (lane_count size) i))

    both : (one other : ℕ) (a b : Member) → slice_get (run m steps).members one ≡ Some a → slice_get (run m steps).members other ≡ Some b → Agree ((run m steps).released ++ pending a.state) ((run m steps).released ++ pending b.state) (is_ended a.state)
    both one other a b e g =
        agree_from ((run m steps).released ++ pending a.state) ((run m steps).released ++ pending b.state) a.state
        (came_agree f (low f t) inputs.entry (map (param_value (builtins_of inputs size 0)) f.params) (run m steps).released a b (all_get Shade moves are_alike wait_at_one frees (run m steps).released (run m steps).members one a ran.together.each e)
        (all_get Shade moves are_alike wait_at_one frees (run m steps).released (run m steps).members other b ran.together.each g))

    pub agree_by : (one other : ℕ) → Agree (trace m steps one) (trace m steps other) (has_ended (slice_get (run m steps).members one))
    agree_by one other =
        subst (λ (xs : List (List ℕ)). Agree xs (trace m steps other) (has_ended (slice_get (run m steps).members one))) (trace_is one)
        (subst (λ (ys : List (List ℕ)). Agree (so_far (run m steps).released (slice_get (run m steps).members one)) ys (has_ended (slice_get (run m steps).members one))) (trace_is other)
        (agree_at (run m steps).released (slice_get (run m steps).members one) (slice_get (run m steps).members other) (λ a b e g. both one other a b e g)))

-- ---- the laws

clear_of : (shader : CoreModule) (k : ℕ) (f : CoreFunction) → slice_get shader.functions k ≡ Some f → IsClean shader.functions → (severity : Severity) (u : Node) → Edge f (Required severity) u → Reaches f u → ⊥
clear_of shader k f at clean severity u asked r = clean.none k severity u (record { function = f; numbered = at; asked = asked; path = u ∷ r.0; joined = (refl, r.1) })

-- what holds of an entry that the machine runs
of_entry : (P : Type 0) (shader : CoreModule) (k : ℕ) → IsRunnable shader k → ((f : CoreFunction) (size : List ℕ) → slice_get shader.functions k ≡ Some f → f.entry ≡ Some size → has_rules f ≡ true → P) → P
of_entry P shader k runs goes = by (slice_get shader.functions k) refl runs.body
  where
    by_size : (f : CoreFunction) → slice_get shader.functions k ≡ Some f → (o : Option (List ℕ)) → f.entry ≡ o → sized_runs f o → P
    by_size f at None e h = absurd h
    by_size f at (Some size) e h = goes f size at e h.2

    by : (o : Option CoreFunction) → slice_get shader.functions k ≡ o → entry_runs o → P
    by None e h = absurd h
    by (Some f) e h = by_size f e f.entry refl h

pub never : NeverDiverges
never shader inputs steps numbered runs clean =
    of_entry ((run (begin shader inputs) steps).diverged ≡ None) shader inputs.entry runs (λ f size at entry rules. none_stable (run (begin shader inputs) steps).diverged (λ h. tables f (λ t. h (
    never_by inputs f size entry t (in_order 0 (code_of f.body) (numbered inputs.entry f at)) rules (clear_of shader inputs.entry f at clean) (clean.asked inputs.entry f at) (begin shader inputs) (ap (entry_members inputs) at ∙ ap (sized_members inputs f) entry) refl refl steps))))

pub traces : TracesAgree
traces shader inputs steps one other numbered runs clean =
    of_entry (Agree (trace (begin shader inputs) steps one) (trace (begin shader inputs) steps other) (has_ended (slice_get (run (begin shader inputs) steps).members one))) shader inputs.entry runs
    (λ f size at entry rules. agree_stable (trace (begin shader inputs) steps one) (trace (begin shader inputs) steps other) (has_ended (slice_get (run (begin shader inputs) steps).members one)) (λ h. tables f (λ t. h (
    agree_by inputs f size entry t (in_order 0 (code_of f.body) (numbered inputs.entry f at)) rules (clear_of shader inputs.entry f at clean) (clean.asked inputs.entry f at) (begin shader inputs) (ap (entry_members inputs) at ∙ ap (sized_members inputs f) entry) refl refl steps one other))))
