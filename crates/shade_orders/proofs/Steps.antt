-- A step of the machine is a step of the group that it is seen as.
use Rattle.std.proofs.Common.{◌≡◌, ℕ, zero, suc, ◌+◌, Bool, true, false, not, ◌&&◌, List, [], ◌∷◌, map, Option, None, Some, refl, ap}
use Rattle.std.specs.Prelude.{◌||◌, is_none, is_some, slice_set, if◌then◌else◌}
use Rattle.shade_values.specs.declared.types.Space.{Space}
use Rattle.shade_lane.specs.declared.state.LaneState.{LaneState}
use Rattle.shade_lane.specs.declared.state.LaneState.TheVariants as lane_state
use Rattle.shade_lane.specs.Lane as lanes
use Rattle.shade_lane.specs.Members.{Arrival, arrival, state_by, state_past}
use Rattle.shade_lane.specs.Members as members
use Rattle.shade_group.specs.Group as groups
use Rattle.shade_schedules.specs.Machine as machine
use Rattle.shade_orders.specs.Seen.{request_by, today, seen_state, seen_member, seen}

pub map_set : {A B : Type 0} (f : A → B) (xs : List A) (n : ℕ) (x : A) → map f (slice_set xs n x) ≡ slice_set (map f xs) n (f x)
map_set f [] n x = refl
map_set f (y ∷ xs) zero x = refl
map_set f (y ∷ xs) (suc n) x = ap (λ zs. f y ∷ zs) (map_set f xs n x)

module _ (space_at : List ℕ → Space) where
  past_same : (b : Bool) → seen_state space_at (state_past b) ≡ machine.past (today space_at) b
  past_same true = refl
  past_same false = refl

  status_same : (a : Option Arrival) (b : Bool) → seen_state space_at (state_by a b) ≡ machine.status_by (today space_at) (request_by a) b
  status_same None b = past_same b
  status_same (Some a) b = refl

  pub moved_same : (memory : List (List ℕ)) (m : members.Member) → seen_member space_at (members.moved m) ≡ machine.moved (today space_at) memory (seen_member space_at m)
  moved_same memory m =
      ap (λ s. record { lane = record { entry = m.entry; params = m.params; lane = lanes.step m.params m.lane }; state = s })
      (status_same (arrival m.entry m.lane.place) (lanes.is_over (lanes.step m.params m.lane).place))

  pub stored_same : (memory : List (List ℕ)) (a : Option Arrival) → machine.stored (today space_at) memory (request_by a) ≡ memory
  stored_same memory None = refl
  stored_same memory (Some a) = refl

  pub touched_none : (a : Option Arrival) → machine.touched (today space_at) (request_by a) ≡ []
  touched_none None = refl
  touched_none (Some a) = refl

  able_same : (s : LaneState) → machine.is_able (today space_at) (seen_state space_at s) ≡ members.is_able s
  able_same lane_state.Able = refl
  able_same (lane_state.Waiting space instance) = refl
  able_same lane_state.Ended = refl

  waiting_same : (s : LaneState) → machine.is_waiting (today space_at) (seen_state space_at s) ≡ members.is_waiting s
  waiting_same lane_state.Able = refl
  waiting_same (lane_state.Waiting space instance) = refl
  waiting_same lane_state.Ended = refl

  unlike_same : (s t : LaneState) → machine.unlike (today space_at) (seen_state space_at s) (seen_state space_at t) ≡ groups.unlike s t
  unlike_same lane_state.Able t = refl
  unlike_same (lane_state.Waiting space instance) lane_state.Able = refl
  unlike_same (lane_state.Waiting space instance) (lane_state.Waiting other b) = refl
  unlike_same (lane_state.Waiting space instance) lane_state.Ended = refl
  unlike_same lane_state.Ended lane_state.Able = refl
  unlike_same lane_state.Ended (lane_state.Waiting other b) = refl
  unlike_same lane_state.Ended lane_state.Ended = refl

  pub all_wait_same : (ms : List members.Member) → machine.all_wait (today space_at) (map (seen_member space_at) ms) ≡ groups.all_wait ms
  all_wait_same [] = refl
  all_wait_same (m ∷ ms) = rw (waiting_same m.state, all_wait_same ms) refl

  unlike_by : (b : Bool) (n : ℕ) (more : Option ℕ) (any : Bool) → any ≡ is_some more → (b || any) ≡ is_some (if b then Some n else more)
  unlike_by true n more any e = refl
  unlike_by false n more any e = e

  pub any_unlike_same : (n : ℕ) (s : LaneState) (ms : List members.Member) → machine.any_unlike (today space_at) (seen_state space_at s) (map (seen_member space_at) ms) ≡ is_some (groups.unlike_from n s ms)
  any_unlike_same n s [] = refl
  any_unlike_same n s (m ∷ ms) = rw (unlike_same s m.state) (unlike_by (groups.unlike s m.state) n (groups.unlike_from (n + 1) s ms) _ (any_unlike_same (n + 1) s ms))

  pub freed_same : (site : List ℕ) (memory : List (List ℕ)) (ms : List members.Member) → map (seen_member space_at) (map members.freed ms) ≡ map (machine.freed (today space_at) site memory) (map (seen_member space_at) ms)
  freed_same site memory [] = refl
  freed_same site memory (m ∷ ms) = ap (λ zs. seen_member space_at (members.freed m) ∷ zs) (freed_same site memory ms)

  pub acts_same : (m : groups.Machine) (member : members.Member) → machine.acts (today space_at) (seen space_at m) (seen_member space_at member) ≡ groups.acts m member
  acts_same m member = rw (able_same member.state) (by m.diverged)
    where
      by : (o : Option (ℕ × ℕ)) → (not (is_some o) && members.is_able member.state) ≡ (is_none o && members.is_able member.state)
      by None = refl
      by (Some pair) = refl

  -- where the space of a release is that of its instance
  abbrev pub Spaced : Option Arrival → Type 0
  Spaced None = Unit {0}
  Spaced (Some a) = a.space ≡ space_at a.instance
