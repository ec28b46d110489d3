-- A run that is over only stutters.
use Rattle.std.proofs.Common.{◌≡◌, ◌≢◌, refl, ◌∙◌, ap, subst, ℕ, zero, suc, Bool, true, false, ◌&&◌, List, [], ◌∷◌, Option, None, Some}
use Rattle.std.specs.Prelude.{slice_get, is_none}
use Rattle.shade_lane.specs.declared.state.LaneState.{LaneState}
use Rattle.shade_lane.specs.declared.state.LaneState.TheVariants.{Able, Waiting, Ended}
use Rattle.shade_lane.specs.Members.{Member, is_able, is_ended}
use Rattle.shade_group.specs.declared.event.RunEnd.TheVariants as run_end
use Rattle.shade_group.specs.declared.event.GroupEvent.TheVariants as group_event
use Rattle.shade_group.specs.Group.{Machine, all_ended, acts, step_by, step_of, step, stuttered, run, event_by, event_of, end_by, run_end_of}
use Rattle.shade_group.specs.Laws.{stuttered_by, OverStutters}

both : (a b : Bool) → (a && b) ≡ true → (a ≡ true) × (b ≡ true)
both true b e = (refl, e)
both false b e = let no_one : ⊥ = cc in absurd no_one

ended_waits : (s : LaneState) → is_ended s ≡ true → is_able s ≡ false
ended_waits Able e = let no_one : ⊥ = cc in absurd no_one
ended_waits (Waiting space instance) e = refl
ended_waits Ended e = refl

ended_at : (members : List Member) (number : ℕ) (member : Member) → all_ended members ≡ true → slice_get members number ≡ Some member → is_ended member.state ≡ true
ended_at [] number member all at = let no_one : ⊥ = cc in absurd no_one
ended_at (first ∷ members) zero member all at = let same : first ≡ member = cc in subst (λ (m : Member). is_ended m.state ≡ true) same (both (is_ended first.state) (all_ended members) all).0
ended_at (first ∷ members) (suc number) member all at = ended_at members number member (both (is_ended first.state) (all_ended members) all).1 at

-- where a run that did not diverge is over, every lane ended
all_over : (over : Bool) → end_by None over ≢ run_end.Running → over ≡ true
all_over true h = refl
all_over false h = absurd (h refl)

module _ (m : Machine) (over : run_end_of m ≢ run_end.Running) where
  idle : (member : Member) (number : ℕ) → slice_get m.members number ≡ Some member → acts m member ≡ false
  idle member number at = by m.diverged refl
    where
      by : (d : Option (ℕ × ℕ)) → m.diverged ≡ d → acts m member ≡ false
      by (Some pair) e = ap (λ d. is_none d && is_able member.state) e
      by None e =
          let all : all_ended m.members ≡ true = all_over (all_ended m.members) (λ is. over (ap (λ d. end_by d (all_ended m.members)) e ∙ is)) in
          ap (λ d. is_none d && is_able member.state) e ∙ ended_waits member.state (ended_at m.members number member all at)

  step_at : (number : ℕ) (found : Option Member) → slice_get m.members number ≡ found → step_of number found m ≡ stuttered m
  step_at number None at = refl
  step_at number (Some member) at = ap (λ b. step_by b number member m) (idle member number at)

  event_at : (number : ℕ) (found : Option Member) → slice_get m.members number ≡ found → event_of number found m ≡ group_event.Stutter
  event_at number None at = refl
  event_at number (Some member) at = ap (λ b. event_by b number member m) (idle member number at)

  step_is : (number : ℕ) → step m number ≡ stuttered m
  step_is number = step_at number (slice_get m.members number) refl

runs_on : (m : Machine) → run_end_of m ≢ run_end.Running → (numbers : List ℕ) → run m numbers ≡ stuttered_by numbers m
runs_on m over [] = refl
runs_on m over (number ∷ numbers) = ap (λ n. run n numbers) (step_is m over number) ∙ runs_on (stuttered m) over numbers

end_stays : (m : Machine) (numbers : List ℕ) → run_end_of (stuttered_by numbers m) ≡ run_end_of m
end_stays m [] = refl
end_stays m (number ∷ numbers) = end_stays (stuttered m) numbers

pub over_stutters : OverStutters
over_stutters m over = record {
  one = step_is m over;
  answer = λ number. event_at m over number (slice_get m.members number) refl;
  all = runs_on m over;
  end = λ numbers. ap run_end_of (runs_on m over numbers) ∙ end_stays m numbers;
}
