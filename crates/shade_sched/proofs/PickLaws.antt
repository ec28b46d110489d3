-- Runs by the places that a function gives.
use Rattle.std.proofs.Common.{◌≡◌, refl, sym, ◌∙◌, ap, subst, ℕ, zero, suc, ◌+◌, ◌<◌, ◌≤◌, List, [], ◌∷◌, ◌++◌, length, arith, Bool, true, false, Option, None, Some}
use Rattle.std.specs.Prelude.{slice_get, slice_index, if◌then◌else◌, Result, Ok, Err, OnErr}
use Rattle.shade_group.specs.declared.event.RunEnd.TheVariants as run_end
use Rattle.shade_lane.specs.Members.{Member, is_able}
use Rattle.shade_group.specs.Group.{Machine, able_from, able_lanes, run_end_of, run, step as step_of}
use Rattle.shade_sched.specs.declared.chosen.ChosenEnd.{ChosenEnd}
use Rattle.shade_schedules.specs.Choices.{step_to, before_steps, chosen}
use Rattle.shade_sched.specs.Chosen.{while_running, lane_of, chosen_run, chosen_step, IsAble, IsPicked, AreAble, AreGiven, end_of, IsChosenRun, IsCutRun}

-- ---- choices that mean lanes

-- the machine after choices, one after another
abbrev after : Machine → List ℕ → Machine
after m [] = m
after m (pick ∷ picks) = after (chosen_step m pick) picks

get_below : (lanes : List ℕ) (k : ℕ) → k < length lanes → slice_get lanes k ≡ Some (slice_index lanes k)
get_below [] k h = absurd (omega (arith, h))
get_below (n ∷ lanes) zero h = refl
get_below (n ∷ lanes) (suc k) h = get_below lanes k (omega (arith, h))

pub lane_means : (m : Machine) (pick : ℕ) → IsAble m pick → lane_of m pick ≡ Some (slice_index (able_lanes m) pick)
lane_means m pick able = ap (λ e. while_running e (slice_get (able_lanes m) pick)) able.running ∙ get_below (able_lanes m) pick able.within

-- where each choice means a lane, the run that they make is one after another
run_is : (m : Machine) (picks : List ℕ) → AreAble m picks → chosen_run m picks ≡ after m picks
run_is m [] h = refl
run_is m (pick ∷ picks) h = by (lane_of m pick) (slice_index (able_lanes m) pick) (lane_means m pick h.0) (run_is (chosen_step m pick) picks h.1)
  where
    by : (o : Option ℕ) (lane : ℕ) → o ≡ Some lane → run (step_to lane_of step_of o m) (chosen lane_of step_of picks (step_to lane_of step_of o m)) ≡ after (step_to lane_of step_of o m) picks
        → run m (before_steps lane_of step_of o (chosen lane_of step_of picks (step_to lane_of step_of o m))) ≡ after (step_to lane_of step_of o m) picks
    by None lane is more = let no_one : ⊥ = cc in absurd no_one
    by (Some n) lane is more = more

-- ---- one more place

able_more : (m : Machine) (picks : List ℕ) (last : ℕ) → AreAble m picks → IsAble (after m picks) last → AreAble m (picks ++ last ∷ [])
able_more m [] last h able = (able, tt)
able_more m (pick ∷ picks) last h able = (h.0, able_more (chosen_step m pick) picks last h.1 able)

given_more : (gives : ℕ → ℕ → ℕ → Type 0) (k : ℕ) (m : Machine) (picks : List ℕ) (last : ℕ) → AreGiven gives k m picks
    → gives (k + length picks) (length (able_lanes (after m picks))) last → AreGiven gives k m (picks ++ last ∷ [])
given_more gives k m [] last h given =
    let here : k + 0 ≡ k = omega arith in
    (subst (λ n. gives n (length (able_lanes m)) last) here given, tt)
given_more gives k m (pick ∷ picks) last h given =
    let there : k + length (pick ∷ picks) ≡ suc k + length picks = omega arith in
    (h.0, given_more gives (suc k) (chosen_step m pick) picks last h.1 (subst (λ n. gives n (length (able_lanes (after (chosen_step m pick) picks))) last) there given))

after_more : (m : Machine) (picks : List ℕ) (last : ℕ) → after m (picks ++ last ∷ []) ≡ chosen_step (after m picks) last
after_more m [] last = refl
after_more m (pick ∷ picks) last = after_more (chosen_step m pick) picks last

length_more : (picks : List ℕ) (last : ℕ) → length (picks ++ last ∷ []) ≡ length picks + 1
length_more [] last = refl
length_more (pick ∷ picks) last = let more : length (picks ++ last ∷ []) ≡ length picks + 1 = length_more picks last in omega (arith, more)

zero_more : (n : ℕ) → n ≡ 0 + n
zero_more n = omega arith

-- ---- so many steps

-- as many steps were taken as their count says, each chosen
pub record Taken (gives : ℕ → ℕ → ℕ → Type 0) (old now : Machine) (step : ℕ) : Type 0 where
  picks : List ℕ
  able : AreAble old picks
  given : AreGiven gives 0 old picks
  made : now ≡ after old picks
  count : length picks ≡ step

pub taken_none : (gives : ℕ → ℕ → ℕ → Type 0) (old : Machine) → Taken gives old old 0
taken_none gives old = record { picks = []; able = tt; given = tt; made = refl; count = refl }

pub taken_more : (gives : ℕ → ℕ → ℕ → Type 0) (old now next : Machine) (step : ℕ) → Taken gives old now step → IsPicked gives step now next → Taken gives old next (step + 1)
taken_more gives old now next step taken picked = record {
  picks = taken.picks ++ picked.pick ∷ [];
  able = able_more old taken.picks picked.pick taken.able (subst (λ m. IsAble m picked.pick) taken.made picked.able);
  given = given_more gives 0 old taken.picks picked.pick taken.given
      (subst (λ n. gives n (length (able_lanes (after old taken.picks))) picked.pick) (zero_more (length taken.picks)) (subst (λ m. gives (length taken.picks) (length (able_lanes m)) picked.pick) taken.made (subst (λ n. gives n (length (able_lanes now)) picked.pick) (sym taken.count) picked.given)));
  made = picked.made ∙ (ap (λ m. chosen_step m picked.pick) taken.made ∙ sym (after_more old taken.picks picked.pick));
  count = length_more taken.picks picked.pick ∙ ap (λ n. n + 1) taken.count;
}

pub taken_all : (gives : ℕ → ℕ → ℕ → Type 0) (limit : ℕ) (old now : Machine) (step : ℕ) (told : ChosenEnd) → Taken gives old now step → step ≤ limit → (run_end_of now ≡ run_end.Running → limit ≤ step) → told ≡ end_of (run_end_of now)
    → IsChosenRun gives limit old now told
taken_all gives limit old now step told taken few all is =
    let count : length taken.picks ≡ step = taken.count in
    record {
      picks = taken.picks;
      able = taken.able;
      given = taken.given;
      made = taken.made ∙ sym (run_is old taken.picks taken.able);
      few = omega (arith, count, few);
      all = λ running. let spent : limit ≤ step = all running in omega (arith, count, few, spent);
      end = is;
    }

pub taken_some : (gives : ℕ → ℕ → ℕ → Type 0) (limit : ℕ) (old now : Machine) (step : ℕ) → Taken gives old now step → step < limit → run_end_of now ≡ run_end.Running → IsCutRun gives limit old now
taken_some gives limit old now step taken few running =
    let count : length taken.picks ≡ step = taken.count in
    record { picks = taken.picks; able = taken.able; given = taken.given; made = taken.made ∙ sym (run_is old taken.picks taken.able); running = running; few = omega (arith, count, few) }

pub on_err : {T E : Type 0} (r : Result T E) (P : Type 0) → P → OnErr r P
on_err (Ok x) P h = tt
on_err (Err e) P h = h

-- ---- one step

below_by : (able : Bool) (i count lane : ℕ) (rest : List ℕ) → ((k : ℕ) → slice_get rest k ≡ Some lane → lane < i + 1 + count) → (k : ℕ) → slice_get (if able then i ∷ rest else rest) k ≡ Some lane → lane < i + suc count
below_by true i count lane rest later zero e = let same : i ≡ lane = cc in omega (arith, same)
below_by true i count lane rest later (suc k) e = let more : lane < i + 1 + count = later k e in omega (arith, more)
below_by false i count lane rest later k e = let more : lane < i + 1 + count = later k e in omega (arith, more)

-- the lanes that may step are among all
able_below : (members : List Member) (i k lane : ℕ) → slice_get (able_from i members) k ≡ Some lane → lane < i + length members
able_below [] i k lane is = let no_one : ⊥ = cc in absurd no_one
able_below (m ∷ members) i k lane is = below_by (is_able m.state) i (length members) lane (able_from (i + 1) members) (λ k e. able_below members (i + 1) k lane e) k is

pub lane_below : (m : Machine) (k lane : ℕ) → slice_get (able_lanes m) k ≡ Some lane → lane < length m.members
lane_below m k lane is = let below : lane < 0 + length m.members = able_below m.members 0 k lane is in omega (arith, below)

pub picked_is : (gives : ℕ → ℕ → ℕ → Type 0) (step : ℕ) (old new : Machine) (count pick lane : ℕ) → run_end_of old ≡ run_end.Running → count ≡ length (able_lanes old) → gives step count pick → pick < count
    → slice_get (able_lanes old) pick ≡ Some lane → new ≡ step_of old lane → IsPicked gives step old new
picked_is gives step old new count pick lane running is given below at made = record {
  pick = pick;
  able = record { running = running; within = subst (λ n. pick < n) is below };
  given = subst (λ n. gives step n pick) is given;
  made = made ∙ sym (ap (λ o. step_to lane_of step_of o old) (ap (λ e. while_running e (slice_get (able_lanes old) pick)) running ∙ at));
}
