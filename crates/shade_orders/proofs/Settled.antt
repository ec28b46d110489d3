-- What becomes of the machine where a lane came to a state, and its whole step, as the group sees them.
use Rattle.std.proofs.Common.{◌≡◌, ℕ, Bool, true, false, ◌&&◌, List, [], ◌∷◌, ◌++◌, map, Option, None, Some, refl, ap, sym, ◌∙◌}
use Rattle.std.specs.Prelude.{is_none, is_some, slice_get, slice_set}
use Rattle.std.specs.Option.{option_map}
use Rattle.shade_values.specs.declared.types.Space.{Space}
use Rattle.shade_lane.specs.declared.state.LaneState.{LaneState}
use Rattle.shade_lane.specs.declared.state.LaneState.TheVariants as lane_state
use Rattle.shade_lane.specs.Lane as lanes
use Rattle.shade_lane.specs.Members.{Arrival, arrival, state_by, state_past}
use Rattle.shade_lane.specs.Members as members
use Rattle.shade_group.specs.Group as groups
use Rattle.shade_schedules.specs.Machine as machine
use Rattle.shade_schedules.proofs.Lists.{get_map}
use Rattle.shade_orders.specs.Seen.{today, seen_state, seen_member, seen}
use Rattle.shade_orders.proofs.Steps.{map_set, moved_same, stored_same, touched_none, all_wait_same, any_unlike_same, freed_same, acts_same, Spaced}

module _ (space_at : List ℕ → Space) where
  abbrev G : Type 0
  G = machine.Group (today space_at)

  -- the state's space is that of its instance
  abbrev SpacedState : LaneState → Type 0
  SpacedState lane_state.Able = Unit {0}
  SpacedState (lane_state.Waiting space instance) = space ≡ space_at instance
  SpacedState lane_state.Ended = Unit {0}

  ended_same : (m : groups.Machine) (n : ℕ) (o : Option ℕ) → m.diverged ≡ None → seen space_at (groups.ended n o m) ≡ machine.ended (today space_at) (is_some o) (seen space_at m)
  ended_same m n None calm = refl
  ended_same m n (Some other) calm = refl

  released_same : (m : groups.Machine) (space : Space) (instance : List ℕ) → space ≡ space_at instance → seen space_at (groups.release space instance m) ≡ machine.release (today space_at) instance (seen space_at m)
  released_same m space instance is =
      ap (λ x. record { members = x; memory = m.memory; epochs = groups.raised space m.epochs; released = m.released ++ instance ∷ []; diverged = is_some m.diverged }) (freed_same space_at instance m.memory m.members)
      ∙ ap (λ s. record { members = map (machine.freed (today space_at) instance m.memory) (map (seen_member space_at) m.members); memory = m.memory; epochs = groups.raised s m.epochs; released = m.released ++ instance ∷ []; diverged = is_some m.diverged }) is

  met_same : (m : groups.Machine) (b : Bool) (space : Space) (instance : List ℕ) → space ≡ space_at instance → seen space_at (groups.met b space instance m) ≡ machine.met (today space_at) b instance (seen space_at m)
  met_same m true space instance is = released_same m space instance is
  met_same m false space instance is = refl

  waited_same : (m : groups.Machine) (n : ℕ) (space : Space) (instance : List ℕ) (o : Option ℕ) → space ≡ space_at instance
      → seen space_at (groups.waited n space instance o m) ≡ machine.waited (today space_at) (is_some o) instance (seen space_at m)
  waited_same m n space instance None is =
      met_same m (groups.all_wait m.members) space instance is ∙ ap (λ b. machine.met (today space_at) b instance (seen space_at m)) (sym (all_wait_same space_at m.members))
  waited_same m n space instance (Some other) is = refl

  settled_same : (m : groups.Machine) (n : ℕ) (s : LaneState) → SpacedState s → m.diverged ≡ None → seen space_at (groups.settled n s m) ≡ machine.settled (today space_at) (seen_state space_at s) (seen space_at m)
  settled_same m n lane_state.Able is calm = refl
  settled_same m n lane_state.Ended is calm =
      ended_same m n (groups.least_unlike lane_state.Ended m.members) calm ∙ ap (λ b. machine.ended (today space_at) b (seen space_at m)) (sym (any_unlike_same space_at 0 lane_state.Ended m.members))
  settled_same m n (lane_state.Waiting space instance) is calm =
      waited_same m n space instance (groups.least_unlike (lane_state.Waiting space instance) m.members) is
      ∙ ap (λ b. machine.waited (today space_at) b instance (seen space_at m)) (sym (any_unlike_same space_at 0 (lane_state.Waiting space instance) m.members))

  spaced_state : (a : Option Arrival) (b : Bool) → Spaced space_at a → SpacedState (state_by a b)
  spaced_state None true h = tt
  spaced_state None false h = tt
  spaced_state (Some a) b h = h

  -- the lane took its step, nothing else yet
  went_same : (m : groups.Machine) (n : ℕ) (member : members.Member)
      → seen space_at (groups.with_member n (members.moved member) (groups.counted m)) ≡ machine.went (today space_at) n (seen_member space_at member) (seen space_at m)
  went_same m n member =
      ap (λ x. record { members = x; memory = m.memory; epochs = m.epochs; released = m.released; diverged = is_some m.diverged })
      (map_set (seen_member space_at) m.members n (members.moved member) ∙ ap (λ x. slice_set (map (seen_member space_at) m.members) n x) (moved_same space_at m.memory member))
      ∙ ap (λ x. record { members = slice_set (map (seen_member space_at) m.members) n (machine.moved (today space_at) m.memory (seen_member space_at member)); memory = x; epochs = m.epochs; released = m.released; diverged = is_some m.diverged })
      (sym (stored_same space_at m.memory (arrival member.entry member.lane.place)))

  calm_of : (m : groups.Machine) (member : members.Member) → groups.acts m member ≡ true → m.diverged ≡ None
  calm_of m member e = by m.diverged e
    where
      by : (o : Option (ℕ × ℕ)) → (is_none o && members.is_able member.state) ≡ true → o ≡ None
      by None e = refl
      by (Some pair) e = let no_one : ⊥ = cc e in absurd no_one

  abbrev pub SpacedLane : Option members.Member → Type 0
  SpacedLane None = Unit {0}
  SpacedLane (Some member) = Spaced space_at (arrival member.entry member.lane.place)

  -- A step of the machine is a step of the group.
  pub step_same : (m : groups.Machine) (n : ℕ) → SpacedLane (slice_get m.members n) → seen space_at (groups.step m n) ≡ machine.step (today space_at) (seen space_at m) n
  step_same m n spaced = by (slice_get m.members n) spaced ∙ ap (λ o. machine.step_of (today space_at) n o (seen space_at m)) (sym (get_map (seen_member space_at) m.members n))
    where
      acting : (member : members.Member) → Spaced space_at (arrival member.entry member.lane.place) → (b : Bool) → groups.acts m member ≡ b
          → seen space_at (groups.step_by b n member m) ≡ machine.step_by (today space_at) b n (seen_member space_at member) (seen space_at m)
      acting member h false e = refl
      acting member h true e =
          settled_same (groups.with_member n (members.moved member) (groups.counted m)) n (members.moved member).state (spaced_state (arrival member.entry member.lane.place) (lanes.is_over (lanes.step member.params member.lane).place) h) (calm_of m member e)
          ∙ (ap (λ z. machine.settled (today space_at) (seen_state space_at (members.moved member).state) z) (went_same m n member)
          ∙ ap (λ (x : machine.Member (today space_at)). machine.settled (today space_at) x.state (machine.went (today space_at) n (seen_member space_at member) (seen space_at m))) (moved_same space_at m.memory member))

      by : (o : Option members.Member) → SpacedLane o → seen space_at (groups.step_of n o m) ≡ machine.step_of (today space_at) n (option_map (seen_member space_at) o) (seen space_at m)
      by None h = refl
      by (Some member) h = acting member h (groups.acts m member) refl ∙ ap (λ b. machine.step_by (today space_at) b n (seen_member space_at member) (seen space_at m)) (sym (acts_same space_at m member))

  -- no step of today touches the memory
  pub noted_none : (m : groups.Machine) (n : ℕ) → machine.noted (today space_at) (seen space_at m) n ≡ []
  noted_none m n = ap (λ o. machine.noted_of (today space_at) n o (seen space_at m)) (get_map (seen_member space_at) m.members n) ∙ by (slice_get m.members n)
    where
      acting : (member : members.Member) (b : Bool) → machine.noted_by (today space_at) b n (seen_member space_at member) (seen space_at m) ≡ []
      acting member false = refl
      acting member true = ap (λ x. map (λ t. record { lane = n; touch = t; epochs = m.epochs }) x) (touched_none space_at (arrival member.entry member.lane.place))

      by : (o : Option members.Member) → machine.noted_of (today space_at) n (option_map (seen_member space_at) o) (seen space_at m) ≡ []
      by None = refl
      by (Some member) = acting member (machine.acts (today space_at) (seen space_at m) (seen_member space_at member))
