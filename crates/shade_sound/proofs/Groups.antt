-- A machine whose members all follow one lane never diverges, and each member arrives along that lane.
use Rattle.std.proofs.Common.{◌≡◌, ℕ, zero, suc, ◌+◌, Bool, true, false, ◌&&◌, List, [], ◌∷◌, ◌++◌, map, Option, Some, None, refl, ap, sym, ◌∙◌, subst, append_assoc, append-nil, ◌⊎◌, inl, inr}
use Rattle.std.specs.Prelude.{if◌then◌else◌, ◌==◌, is_none, slice_get, slice_set}
use Rattle.std.specs.List.{list_all}
use Rattle.std.proofs.lemmas.Bool.{eqb-true, eq-eqb}
use Rattle.shade_values.specs.declared.types.Space.{Space}
use Rattle.shade_lane.specs.declared.state.LaneState.{LaneState}
use Rattle.shade_lane.specs.declared.state.LaneState.TheVariants.{Able, Waiting, Ended}
use Rattle.shade_lane.specs.Lane.{step as lane_step, is_over}
use Rattle.shade_lane.specs.Members.{Member, arrival, moved, freed, is_able, is_waiting, is_ended}
use Rattle.shade_group.specs.Group.{Machine, unlike, unlike_from, least_unlike, all_wait, release, met, ended, waited, settled, counted, stuttered, with_member, acts, step_by, step_of, step, run, instances, member_arrival, arrival_of, trace}
use Rattle.shade_sound.specs.Laws.{IsPrefixOf, has_ended}
use Rattle.shade_sound.proofs.Bools.{false_true, and_parts}
use Rattle.shade_sound.proofs.Shadows.{pending, pending_by}

able_is : (s : LaneState) → is_able s ≡ true → s ≡ Able
able_is Able e = refl
able_is (Waiting space instance) e = false_true false refl e
able_is Ended e = false_true false refl e

pub ended_is : (s : LaneState) → is_ended s ≡ true → s ≡ Ended
ended_is Able e = false_true false refl e
ended_is (Waiting space instance) e = false_true false refl e
ended_is Ended e = refl

record WaitsAt (s : LaneState) : Type 0 where
  space : Space
  instance : List ℕ
  is : s ≡ Waiting space instance

waiting_is : (s : LaneState) → is_waiting s ≡ true → WaitsAt s
waiting_is Able e = false_true false refl e
waiting_is (Waiting space instance) e = record { space = space; instance = instance; is = refl }
waiting_is Ended e = false_true false refl e

set_same : (members : List Member) (n : ℕ) (before m : Member) → slice_get members n ≡ Some before → slice_get (slice_set members n m) n ≡ Some m
set_same [] n before m e = let no_one : ⊥ = cc e in absurd no_one
set_same (first ∷ members) zero before m e = refl
set_same (first ∷ members) (suc n) before m e = set_same members n before m e

set_other : (members : List Member) (n i : ℕ) (m : Member) → ¬ (n ≡ i) → slice_get (slice_set members n m) i ≡ slice_get members i
set_other [] n i m e = refl
set_other (first ∷ members) zero zero m e = absurd (e refl)
set_other (first ∷ members) zero (suc i) m e = refl
set_other (first ∷ members) (suc n) zero m e = refl
set_other (first ∷ members) (suc n) (suc i) m e = set_other members n i m (λ is. e (ap suc is))

none_either : (b : Bool) (xs : List (List ℕ)) → xs ++ (if b then [] else []) ≡ xs
none_either true xs = append-nil xs
none_either false xs = append-nil xs

-- where a member arrived so far
abbrev pub so_far : List (List ℕ) → Option Member → List (List ℕ)
so_far released None = []
so_far released (Some m) = released ++ pending m.state

abbrev pub so_far_at : Machine → ℕ → List (List ℕ)
so_far_at m i = so_far m.released (slice_get m.members i)

module _ (Shadow : List (List ℕ) → Member → Type 0)
    (moves : (released : List (List ℕ)) (m : Member) → Shadow released m → m.state ≡ Able → Shadow released (moved m))
    (alike : (released : List (List ℕ)) (m other : Member) → Shadow released m → Shadow released other → unlike m.state other.state ≡ false)
    (at_one : (released : List (List ℕ)) (m other : Member) (u v : Space) (a b : List ℕ) → Shadow released m → Shadow released other → m.state ≡ Waiting u a → other.state ≡ Waiting v b → a ≡ b)
    (frees : (released : List (List ℕ)) (space : Space) (instance : List ℕ) (m : Member) → Shadow released m → m.state ≡ Waiting space instance → Shadow (released ++ instance ∷ []) (freed m)) where
  abbrev pub AllShadow : List (List ℕ) → List Member → Type 0
  AllShadow released [] = Unit {0}
  AllShadow released (m ∷ members) = Shadow released m × AllShadow released members

  pub all_get : (released : List (List ℕ)) (members : List Member) (n : ℕ) (m : Member) → AllShadow released members → slice_get members n ≡ Some m → Shadow released m
  all_get released [] n m h e = let no_one : ⊥ = cc e in absurd no_one
  all_get released (first ∷ members) zero m h e = let same : first ≡ m = cc e in subst (λ (x : Member). Shadow released x) same h.0
  all_get released (first ∷ members) (suc n) m h e = all_get released members n m h.1 e

  all_set : (released : List (List ℕ)) (members : List Member) (n : ℕ) (m : Member) → AllShadow released members → Shadow released m → AllShadow released (slice_set members n m)
  all_set released [] n m h s = tt
  all_set released (first ∷ members) zero m h s = (s, h.1)
  all_set released (first ∷ members) (suc n) m h s = (h.0, all_set released members n m h.1 s)

  none_from : (released : List (List ℕ)) (m : Member) → Shadow released m → (members : List Member) (i : ℕ) → AllShadow released members → unlike_from i m.state members ≡ None
  none_from released m s [] i h = refl
  none_from released m s (first ∷ members) i h = ap (λ b. if b then Some i else unlike_from (i + 1) m.state members) (alike released m first s h.0) ∙ none_from released m s members (i + 1) h.1

  -- no lane is unlike one of them
  none_unlike : (released : List (List ℕ)) (m : Member) (s : LaneState) → Shadow released m → m.state ≡ s → (members : List Member) → AllShadow released members → least_unlike s members ≡ None
  none_unlike released m s shadow is members h = ap (λ st. least_unlike st members) (sym is) ∙ none_from released m shadow members 0 h

  -- who waits, waits at one instance
  waits_there : (released : List (List ℕ)) (space : Space) (instance : List ℕ) (m other : Member) → Shadow released m → m.state ≡ Waiting space instance → Shadow released other → is_waiting other.state ≡ true → pending other.state ≡ instance ∷ []
  waits_there released space instance m other s e t w =
      let there : WaitsAt other.state = waiting_is other.state w in
      ap pending there.is ∙ ap (λ b. b ∷ []) (at_one released other m there.space space there.instance instance t s there.is e)

  freed_there : (released : List (List ℕ)) (space : Space) (instance : List ℕ) (m other : Member) → Shadow released m → m.state ≡ Waiting space instance → Shadow released other → is_waiting other.state ≡ true → Shadow (released ++ instance ∷ []) (freed other)
  freed_there released space instance m other s e t w =
      let there : WaitsAt other.state = waiting_is other.state w in
      subst (λ (b : List ℕ). Shadow (released ++ b ∷ []) (freed other)) (at_one released other m there.space space there.instance instance t s there.is e) (frees released there.space there.instance other t there.is)

  all_freed : (released : List (List ℕ)) (space : Space) (instance : List ℕ) (m : Member) → Shadow released m → m.state ≡ Waiting space instance → (members : List Member) → AllShadow released members → list_all (λ x. is_waiting x.state) members ≡ true → AllShadow (released ++ instance ∷ []) (map freed members)
  all_freed released space instance m s e [] h w = tt
  all_freed released space instance m s e (first ∷ members) h w =
      let parts : (is_waiting first.state ≡ true) × (list_all (λ x. is_waiting x.state) members ≡ true) = and_parts (is_waiting first.state) (list_all (λ x. is_waiting x.state) members) w in
      (freed_there released space instance m first s e h.0 parts.0, all_freed released space instance m s e members h.1 parts.1)

  freed_at : (released : List (List ℕ)) (space : Space) (instance : List ℕ) (m : Member) → Shadow released m → m.state ≡ Waiting space instance → (members : List Member) → AllShadow released members → list_all (λ x. is_waiting x.state) members ≡ true
      → (i : ℕ) → so_far (released ++ instance ∷ []) (slice_get (map freed members) i) ≡ so_far released (slice_get members i)
  freed_at released space instance m s e [] h w i = refl
  freed_at released space instance m s e (first ∷ members) h w zero =
      let parts : (is_waiting first.state ≡ true) × (list_all (λ x. is_waiting x.state) members ≡ true) = and_parts (is_waiting first.state) (list_all (λ x. is_waiting x.state) members) w in
      append-nil (released ++ instance ∷ []) ∙ ap (λ xs. released ++ xs) (sym (waits_there released space instance m first s e h.0 parts.0))
  freed_at released space instance m s e (first ∷ members) h w (suc i) = freed_at released space instance m s e members h.1 (and_parts (is_waiting first.state) (list_all (λ x. is_waiting x.state) members) w).1 i

  -- The members follow, and the run has not diverged.
  pub record Together (m : Machine) : Type 0 where
    pub each : AllShadow m.released m.members
    pub none : m.diverged ≡ None

  -- A machine goes on to another in which all are together and arrived where they had.
  record Goes (m after : Machine) : Type 0 where
    together : Together after
    came : (i : ℕ) → so_far_at after i ≡ so_far_at m i

  met_goes : (space : Space) (instance : List ℕ) (m : Machine) (member : Member) → Together m → Shadow m.released member → member.state ≡ Waiting space instance → (b : Bool) → all_wait m.members ≡ b → Goes m (met b space instance m)
  met_goes space instance m member t s e true w = record { together = record { each = all_freed m.released space instance member s e m.members t.each w; none = t.none }; came = freed_at m.released space instance member s e m.members t.each w }
  met_goes space instance m member t s e false w = record { together = t; came = λ i. refl }

  settles : (number : ℕ) (m : Machine) (member : Member) → Together m → Shadow m.released member → (s : LaneState) → member.state ≡ s → Goes m (settled number s m)
  settles number m member t shadow Able e = record { together = t; came = λ i. refl }
  settles number m member t shadow Ended e =
      subst (λ (o : Option ℕ). Goes m (ended number o m)) (sym (none_unlike m.released member Ended shadow e m.members t.each)) (record { together = t; came = λ i. refl })
  settles number m member t shadow (Waiting space instance) e =
      subst (λ (o : Option ℕ). Goes m (waited number space instance o m)) (sym (none_unlike m.released member (Waiting space instance) shadow e m.members t.each)) (met_goes space instance m member t shadow e (all_wait m.members) refl)

  -- One step keeps the members together, and adds what the lane arrives at.
  record Steps (m : Machine) (number : ℕ) (arrives : List (List ℕ)) (after : Machine) : Type 0 where
    together : Together after
    came : (i : ℕ) → so_far_at after i ≡ so_far_at m i ++ (if number == i then arrives else [])

  stutters : (m : Machine) (number : ℕ) → Together m → Steps m number [] (stuttered m)
  stutters m number t = record { together = record { each = t.each; none = t.none }; came = λ i. sym (none_either (number == i) (so_far_at m i)) }

  acts_able : (m : Machine) (member : Member) → acts m member ≡ true → member.state ≡ Able
  acts_able m member e = able_is member.state (and_parts (is_none m.diverged) (is_able member.state) e).1

  there : (m : Machine) (number : ℕ) (member : Member) → slice_get m.members number ≡ Some member → member.state ≡ Able → (i : ℕ) (b : Bool) → (number == i) ≡ b
      → so_far m.released (slice_get (slice_set m.members number (moved member)) i) ≡ so_far_at m i ++ (if b then instances (arrival member.entry member.lane.place) else [])
  there m number member e able i true d =
      let is : number ≡ i = eqb-true number i d in
      subst (λ (z : ℕ). so_far m.released (slice_get (slice_set m.members number (moved member)) z) ≡ so_far_at m z ++ instances (arrival member.entry member.lane.place)) is
      (ap (λ o. so_far m.released o) (set_same m.members number member (moved member) e)
      ∙ (ap (λ xs. m.released ++ xs) (pending_by (arrival member.entry member.lane.place) (is_over (lane_step member.params member.lane).place))
      ∙ sym (ap (λ o. so_far m.released o ++ instances (arrival member.entry member.lane.place)) e ∙ (ap (λ st. (m.released ++ pending st) ++ instances (arrival member.entry member.lane.place)) able ∙ ap (λ xs. xs ++ instances (arrival member.entry member.lane.place)) (append-nil m.released)))))
  there m number member e able i false d =
      ap (λ o. so_far m.released o) (set_other m.members number i (moved member) (λ is. false_true (number == i) d (eq-eqb number i is))) ∙ sym (append-nil (so_far_at m i))

  step_by_goes : (m : Machine) (number : ℕ) (member : Member) → slice_get m.members number ≡ Some member → Together m → (b : Bool) → acts m member ≡ b → Steps m number (if b then instances (arrival member.entry member.lane.place) else []) (step_by b number member m)
  step_by_goes m number member e t false a = stutters m number t
  step_by_goes m number member e t true a =
      let able : member.state ≡ Able = acts_able m member a in
      let shadow : Shadow m.released (moved member) = moves m.released member (all_get m.released m.members number member t.each e) able in
      let set : Together (with_member number (moved member) (counted m)) = record { each = all_set m.released m.members number (moved member) t.each shadow; none = t.none } in
      let goes : Goes (with_member number (moved member) (counted m)) (settled number (moved member).state (with_member number (moved member) (counted m))) = settles number (with_member number (moved member) (counted m)) (moved member) set shadow (moved member).state refl in
      record { together = goes.together; came = λ i. goes.came i ∙ there m number member e able i (number == i) refl }

  step_goes : (m : Machine) (number : ℕ) (found : Option Member) → slice_get m.members number ≡ found → Together m → Steps m number (arrival_of m found) (step_of number found m)
  step_goes m number None e t = stutters m number t
  step_goes m number (Some member) e t = step_by_goes m number member e t (acts m member) refl

  pub record Runs (m : Machine) (numbers : List ℕ) : Type 0 where
    pub together : Together (run m numbers)
    pub came : (i : ℕ) → so_far_at (run m numbers) i ≡ so_far_at m i ++ trace m numbers i

  pub runs : (numbers : List ℕ) (m : Machine) → Together m → Runs m numbers
  runs [] m t = record { together = t; came = λ i. sym (append-nil (so_far_at m i)) }
  runs (number ∷ numbers) m t =
      let s : Steps m number (arrival_of m (slice_get m.members number)) (step m number) = step_goes m number (slice_get m.members number) refl t in
      let r : Runs (step m number) numbers = runs numbers (step m number) s.together in
      record {
        together = r.together;
        came = λ i. r.came i ∙ (ap (λ xs. xs ++ trace (step m number) numbers i) (s.came i) ∙ append_assoc (so_far_at m i) (if number == i then arrival_of m (slice_get m.members number) else []) (trace (step m number) numbers i));
      }

-- what was told of two members holds of two lanes of a machine, whichever they are
abbrev pub Agree : List (List ℕ) → List (List ℕ) → Bool → Type 0
Agree one other ended = (IsPrefixOf one other ⊎ IsPrefixOf other one) × (ended ≡ true → IsPrefixOf other one)

pub agree_at : (released : List (List ℕ)) (one other : Option Member) → ((m n : Member) → one ≡ Some m → other ≡ Some n → Agree (released ++ pending m.state) (released ++ pending n.state) (is_ended m.state)) → Agree (so_far released one) (so_far released other) (has_ended one)
agree_at released None other h = (inl (so_far released other, refl), λ e. false_true false refl e)
agree_at released (Some m) None h = (inr (so_far released (Some m), refl), λ e. (so_far released (Some m), refl))
agree_at released (Some m) (Some n) h = h m n refl refl
