-- A machine that runs has an able lane: where a lane stopped alike with all that stopped and none is able, all wait, and are released
-- within that step, or all ended.
use Rattle.std.proofs.Common.{◌≡◌, refl, sym, ◌∙◌, ap, subst, ℕ, zero, suc, ◌+◌, ◌≤◌, ◌&&◌, arith, true, false, Bool, List, [], ◌∷◌, map, length, Option, Some, None}
use Rattle.std.specs.Prelude.{if◌then◌else◌, Result, Ok, Err, OnOk, OnErr, slice_get, slice_set}
use Rattle.std.specs.List.{list_all}
use Rattle.shade_values.specs.declared.types.Space.{Space}
use Rattle.shade_core.specs.declared.module.CoreFunction.{CoreFunction}
use Rattle.shade_core.specs.declared.module.CoreModule.{CoreModule}
use Rattle.shade_mem.specs.declared.inputs.Inputs.{Inputs}
use Rattle.shade_lane.specs.declared.state.LaneState.{LaneState}
use Rattle.shade_lane.specs.declared.state.LaneState.TheVariants.{Able, Waiting, Ended}
use Rattle.shade_lane.specs.Members.{Member, moved, freed, is_able, is_waiting, is_ended}
use Rattle.shade_group.specs.declared.event.RunEnd.TheVariants.{Running}
use Rattle.shade_group.specs.Group.{Machine, unlike, unlike_from, least_unlike, able_from, all_wait, all_ended, met, ended, waited, settled, counted, with_member, acts, step_by, step_of, step, end_by, HasAble, lane_count, members_from, sized_members, entry_members, begin}

clash : {A : Type 0} → true ≡ false → A
clash e = let no_one : ⊥ = cc in absurd no_one

-- where the run is not over, some lane is able
abbrev Lively : Machine → Type 0
Lively m = m.diverged ≡ None → all_ended m.members ≡ false → 1 ≤ length (able_from 0 m.members)

-- ---- one able lane

counts_one : (b : Bool) (i : ℕ) (is : List ℕ) → b ≡ true → 1 ≤ length (if b then i ∷ is else is)
counts_one true i is e = omega arith
counts_one false i is e = clash (sym e)

counts_more : (b : Bool) (i : ℕ) (is : List ℕ) → 1 ≤ length is → 1 ≤ length (if b then i ∷ is else is)
counts_more true i is h = omega arith
counts_more false i is h = h

able_member : (members : List Member) (n i : ℕ) (m : Member) → slice_get members n ≡ Some m → is_able m.state ≡ true → 1 ≤ length (able_from i members)
able_member [] n i m at able = let no_one : ⊥ = cc in absurd no_one
able_member (x ∷ members) zero i m at able =
    let same : x ≡ m = cc in
    counts_one (is_able x.state) i (able_from (i + 1) members) (ap (λ y. is_able y.state) same ∙ able)
able_member (x ∷ members) (suc n) i m at able = counts_more (is_able x.state) i (able_from (i + 1) members) (able_member members n (i + 1) m at able)

-- ---- lanes that are alike with one that stopped

is_apart : (b : Bool) (n : ℕ) (o : Option ℕ) → (if b then Some n else o) ≡ None → (b ≡ false) × (o ≡ None)
is_apart true n o e = let no_one : ⊥ = cc in absurd no_one
is_apart false n o e = (refl, e)

rest_fails : (a b : Bool) → a ≡ true → (a && b) ≡ false → b ≡ false
rest_fails true b t e = e
rest_fails false b t e = clash (sym t)

-- where all that stopped pass a test, and not all lanes pass it, some lane is able
able_else : (state : LaneState) (test : LaneState → Bool) → ((other : LaneState) → unlike state other ≡ false → is_able other ≡ false → test other ≡ true)
    → (members : List Member) (n i : ℕ) → unlike_from n state members ≡ None → list_all (λ m. test m.state) members ≡ false → 1 ≤ length (able_from i members)
able_else state test stopped [] n i alone fails = clash fails
able_else state test stopped (x ∷ members) n i alone fails =
    let apart : (unlike state x.state ≡ false) × (unlike_from (n + 1) state members ≡ None) = is_apart (unlike state x.state) n (unlike_from (n + 1) state members) alone in
    by (is_able x.state) refl (λ stops. able_else state test stopped members (n + 1) (i + 1) apart.1 (rest_fails (test x.state) (list_all (λ m. test m.state) members) (stopped x.state apart.0 stops) fails))
  where
    by : (able : Bool) → is_able x.state ≡ able → (is_able x.state ≡ false → 1 ≤ length (able_from (i + 1) members)) → 1 ≤ length (if able then i ∷ able_from (i + 1) members else able_from (i + 1) members)
    by true e others = omega arith
    by false e others = others e

waits_too : (space : Space) (instance : List ℕ) (other : LaneState) → unlike (Waiting space instance) other ≡ false → is_able other ≡ false → is_waiting other ≡ true
waits_too space instance Able alike stopped = clash stopped
waits_too space instance (Waiting t b) alike stopped = refl
waits_too space instance Ended alike stopped = clash alike

ended_too : (other : LaneState) → unlike Ended other ≡ false → is_able other ≡ false → is_ended other ≡ true
ended_too Able alike stopped = clash stopped
ended_too (Waiting t b) alike stopped = clash alike
ended_too Ended alike stopped = refl

-- ---- a step

freed_able : (members : List Member) → all_ended (map freed members) ≡ false → 1 ≤ length (able_from 0 (map freed members))
freed_able [] e = clash e
freed_able (x ∷ members) e = omega arith

ended_lively : (number : ℕ) (m : Machine) (o : Option ℕ) → least_unlike Ended m.members ≡ o → Lively (ended number o m)
ended_lively number m None alone = λ calm runs. able_else Ended is_ended ended_too m.members 0 0 alone runs
ended_lively number m (Some other) found = λ calm runs. let no_one : ⊥ = cc in absurd no_one

met_lively : (space : Space) (instance : List ℕ) (m : Machine) → least_unlike (Waiting space instance) m.members ≡ None → (all : Bool) → all_wait m.members ≡ all → Lively (met all space instance m)
met_lively space instance m alone true wait = λ calm runs. freed_able m.members runs
met_lively space instance m alone false wait = λ calm runs. able_else (Waiting space instance) is_waiting (waits_too space instance) m.members 0 0 alone wait

waited_lively : (number : ℕ) (space : Space) (instance : List ℕ) (m : Machine) (o : Option ℕ) → least_unlike (Waiting space instance) m.members ≡ o → Lively (waited number space instance o m)
waited_lively number space instance m None alone = met_lively space instance m alone (all_wait m.members) refl
waited_lively number space instance m (Some other) found = λ calm runs. let no_one : ⊥ = cc in absurd no_one

settled_lively : (number : ℕ) (m : Machine) (member : Member) → slice_get m.members number ≡ Some member → (state : LaneState) → member.state ≡ state → Lively (settled number state m)
settled_lively number m member at Able is = λ calm runs. able_member m.members number 0 member at (ap is_able is)
settled_lively number m member at (Waiting space instance) is = waited_lively number space instance m (least_unlike (Waiting space instance) m.members) refl
settled_lively number m member at Ended is = ended_lively number m (least_unlike Ended m.members) refl

set_here : (members : List Member) (n : ℕ) (before after : Member) → slice_get members n ≡ Some before → slice_get (slice_set members n after) n ≡ Some after
set_here [] n before after e = let no_one : ⊥ = cc in absurd no_one
set_here (x ∷ members) zero before after e = refl
set_here (x ∷ members) (suc n) before after e = set_here members n before after e

by_lively : (number : ℕ) (m : Machine) (member : Member) → Lively m → slice_get m.members number ≡ Some member → (b : Bool) → Lively (step_by b number member m)
by_lively number m member lively at true = settled_lively number (with_member number (moved member) (counted m)) (moved member) (set_here m.members number member (moved member) at) (moved member).state refl
by_lively number m member lively at false = lively

of_lively : (number : ℕ) (m : Machine) → Lively m → (o : Option Member) → slice_get m.members number ≡ o → Lively (step_of number o m)
of_lively number m lively None at = lively
of_lively number m lively (Some member) at = by_lively number m member lively at (acts m member)

step_lively : (m : Machine) (number : ℕ) → Lively m → Lively (step m number)
step_lively m number lively = of_lively number m lively (slice_get m.members number) refl

-- ---- the start

from_able : (inputs : Inputs) (function : CoreFunction) (size : List ℕ) (count : ℕ) → all_ended (members_from inputs function size 0 count) ≡ false → 1 ≤ length (able_from 0 (members_from inputs function size 0 count))
from_able inputs function size zero e = clash e
from_able inputs function size (suc count) e = omega arith

sized_able : (inputs : Inputs) (function : CoreFunction) (size : Option (List ℕ)) → all_ended (sized_members inputs function size) ≡ false → 1 ≤ length (able_from 0 (sized_members inputs function size))
sized_able inputs function None e = clash e
sized_able inputs function (Some size) e = from_able inputs function size (lane_count size) e

entry_able : (inputs : Inputs) (o : Option CoreFunction) → all_ended (entry_members inputs o) ≡ false → 1 ≤ length (able_from 0 (entry_members inputs o))
entry_able inputs None e = clash e
entry_able inputs (Some function) e = sized_able inputs function function.entry e

begin_lively : (shader : CoreModule) (inputs : Inputs) → Lively (begin shader inputs)
begin_lively shader inputs calm runs = entry_able inputs (slice_get shader.functions inputs.entry) runs

-- ---- with how the run stands

is_running : (d : Option (ℕ × ℕ)) (over : Bool) → end_by d over ≡ Running → (d ≡ None) × (over ≡ false)
is_running None true e = let no_one : ⊥ = cc in absurd no_one
is_running None false e = (refl, refl)
is_running (Some pair) over e = let no_one : ⊥ = cc in absurd no_one

able_lively : (m : Machine) → HasAble m → Lively m
able_lively m able calm runs = able (ap (λ d. end_by d (all_ended m.members)) calm ∙ ap (λ over. end_by None over) runs)

lively_able : (m : Machine) → Lively m → HasAble m
lively_able m lively running = let stands : (m.diverged ≡ None) × (all_ended m.members ≡ false) = is_running m.diverged (all_ended m.members) running in lively stands.0 stands.1

pub able_at_start : (m : Machine) (shader : CoreModule) (inputs : Inputs) → m ≡ begin shader inputs → HasAble m
able_at_start m shader inputs is = subst (λ (n : Machine). HasAble n) (sym is) (lively_able (begin shader inputs) (begin_lively shader inputs))

-- a step, and a refusal of one, which changes nothing
pub able_after_step : {T E : Type 0} (result : Result T E) (m after : Machine) (number : ℕ) → HasAble m → OnOk result (after ≡ step m number) → OnErr result (after ≡ m) → HasAble after
able_after_step (Ok x) m after number able ok err = subst (λ (n : Machine). HasAble n) (sym ok) (lively_able (step m number) (step_lively m number (able_lively m able)))
able_after_step (Err x) m after number able ok err = subst (λ (n : Machine). HasAble n) (sym err) able
