-- Lanes that may step act.
use Rattle.std.proofs.Common.{◌≡◌, refl, ◌∙◌, ap, ℕ, zero, suc, ◌+◌, ◌<◌, Bool, true, false, List, [], ◌∷◌, length, Option, None, Some, arith}
use Rattle.std.specs.Prelude.{slice_get, slice_index, is_none, if◌then◌else◌}
use Rattle.shade_values.specs.declared.types.Space.{Space}
use Rattle.shade_lane.specs.declared.state.LaneState.{LaneState}
use Rattle.shade_lane.specs.declared.state.LaneState.TheVariants.{Able, Waiting, Ended}
use Rattle.shade_lane.specs.Members.{Member, moved, is_able}
use Rattle.shade_group.specs.declared.event.RunEnd.{RunEnd}
use Rattle.shade_group.specs.declared.event.RunEnd.TheVariants as run_end
use Rattle.shade_group.specs.Group.{Machine, able_from, able_lanes, all_ended, all_wait, acts, counted, with_member, ended, waited, met, settled, least_unlike, step_by, step_of, run, step, end_by, run_end_of}
use Rattle.shade_schedules.specs.Choices.{step_to, before_steps, chosen}
use Rattle.shade_sched.specs.Chosen.{while_running, lane_of, chosen_step}
use Rattle.shade_sched.specs.Laws.{ChosenLanesAct}

-- a lane with this number is there and may step
record MaySteps (members : List Member) (number : ℕ) : Type 0 where
  member : Member
  at : slice_get members number ≡ Some member
  able : is_able member.state ≡ true

-- the lane at a place, where the first lane has the number i
record IsLane (lanes : List ℕ) (pick i : ℕ) (members : List Member) : Type 0 where
  number : ℕ
  is : slice_index lanes pick ≡ i + number
  may : MaySteps members number

-- of the lanes behind the first
behind : (lanes : List ℕ) (pick i : ℕ) (m : Member) (members : List Member) → IsLane lanes pick (i + 1) members → IsLane lanes pick i (m ∷ members)
behind lanes pick i m members lane =
    let is : slice_index lanes pick ≡ i + 1 + lane.number = lane.is in
    let next : i + 1 + lane.number ≡ i + suc lane.number = omega arith in
    record { number = suc lane.number; is = is ∙ next; may = record { member = lane.may.member; at = lane.may.at; able = lane.may.able } }

able_by : (able : Bool) (i : ℕ) (m : Member) (members : List Member) (rest : List ℕ) → is_able m.state ≡ able → ((pick : ℕ) → pick < length rest → IsLane rest pick (i + 1) members)
    → (pick : ℕ) → pick < length (if able then i ∷ rest else rest) → IsLane (if able then i ∷ rest else rest) pick i (m ∷ members)
able_by true i m members rest is more zero h = record { number = 0; is = omega arith; may = record { member = m; at = refl; able = is } }
able_by true i m members rest is more (suc pick) h =
    let lane : IsLane rest pick (i + 1) members = more pick (omega (arith, h)) in
    behind (i ∷ rest) (suc pick) i m members (record { number = lane.number; is = lane.is; may = lane.may })
able_by false i m members rest is more pick h = behind rest pick i m members (more pick h)

able_is : (members : List Member) (i pick : ℕ) → pick < length (able_from i members) → IsLane (able_from i members) pick i members
able_is [] i pick h = absurd (omega (arith, h))
able_is (m ∷ members) i pick h = able_by (is_able m.state) i m members (able_from (i + 1) members) refl (λ pick h. able_is members (i + 1) pick h) pick h

ended_stutters : (number : ℕ) (o : Option ℕ) (m : Machine) → (ended number o m).stutters ≡ m.stutters
ended_stutters number None m = refl
ended_stutters number (Some other) m = refl

met_stutters : (all : Bool) (space : Space) (instance : List ℕ) (m : Machine) → (met all space instance m).stutters ≡ m.stutters
met_stutters true space instance m = refl
met_stutters false space instance m = refl

waited_stutters : (number : ℕ) (space : Space) (instance : List ℕ) (o : Option ℕ) (m : Machine) → (waited number space instance o m).stutters ≡ m.stutters
waited_stutters number space instance None m = met_stutters (all_wait m.members) space instance m
waited_stutters number space instance (Some other) m = refl

settled_stutters : (number : ℕ) (state : LaneState) (m : Machine) → (settled number state m).stutters ≡ m.stutters
settled_stutters number Able m = refl
settled_stutters number (Waiting space instance) m = waited_stutters number space instance (least_unlike (Waiting space instance) m.members) m
settled_stutters number Ended m = ended_stutters number (least_unlike Ended m.members) m

calm_where : (d : Option (ℕ × ℕ)) (over : Bool) → end_by d over ≡ run_end.Running → is_none d ≡ true
calm_where None over e = refl
calm_where (Some pair) over e = let no_one : ⊥ = cc in absurd no_one

-- a step of a lane that may step, in a run that is not over
act_stutters : (m : Machine) (number : ℕ) → run_end_of m ≡ run_end.Running → MaySteps m.members number → (step m number).stutters ≡ m.stutters
act_stutters m number running may =
    let does : acts m may.member ≡ true = rw (calm_where m.diverged (all_ended m.members) running, may.able) refl in
    ap (λ o. (step_of number o m).stutters) may.at
    ∙ (ap (λ b. (step_by b number may.member m).stutters) does
    ∙ settled_stutters number (moved may.member).state (with_member number (moved may.member) (counted m)))

lane_within : (lanes : List ℕ) (pick lane : ℕ) → slice_get lanes pick ≡ Some lane → (pick < length lanes) × (slice_index lanes pick ≡ lane)
lane_within [] pick lane is = let no_one : ⊥ = cc in absurd no_one
lane_within (n ∷ lanes) zero lane is = (omega arith, cc)
lane_within (n ∷ lanes) (suc pick) lane is = let h = lane_within lanes pick lane is in (omega (arith, h.0), h.1)

-- where a choice means a lane, the run is not over and the lane is at its place
means_both : (e : RunEnd) (o : Option ℕ) (lane : ℕ) → while_running e o ≡ Some lane → (e ≡ run_end.Running) × (o ≡ Some lane)
means_both run_end.Running o lane is = (refl, is)
means_both run_end.Ended o lane is = let no_one : ⊥ = cc in absurd no_one
means_both (run_end.Diverged one other) o lane is = let no_one : ⊥ = cc in absurd no_one

pick_stutters : (m : Machine) (pick lane : ℕ) → lane_of m pick ≡ Some lane → (step m lane).stutters ≡ m.stutters
pick_stutters m pick lane is =
    let both = means_both (run_end_of m) (slice_get (able_lanes m) pick) lane is in
    let at = lane_within (able_lanes m) pick lane both.1 in
    let there : IsLane (able_lanes m) pick 0 m.members = able_is m.members 0 pick at.0 in
    let place : slice_index (able_lanes m) pick ≡ 0 + there.number = there.is in
    let named : slice_index (able_lanes m) pick ≡ lane = at.1 in
    let number : lane ≡ there.number = omega (arith, place, named) in
    ap (λ n. (step m n).stutters) number ∙ act_stutters m there.number both.0 there.may

pub lanes_act : ChosenLanesAct
lanes_act m [] = refl
lanes_act m (pick ∷ picks) = by (lane_of m pick) refl (lanes_act (chosen_step m pick) picks)
  where
    by : (o : Option ℕ) → lane_of m pick ≡ o → (run (step_to lane_of step o m) (chosen lane_of step picks (step_to lane_of step o m))).stutters ≡ (step_to lane_of step o m).stutters
        → (run m (before_steps lane_of step o (chosen lane_of step picks (step_to lane_of step o m)))).stutters ≡ m.stutters
    by None is more = refl
    by (Some lane) is more = more ∙ pick_stutters m pick lane is
