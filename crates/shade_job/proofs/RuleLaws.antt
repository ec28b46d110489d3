-- Each rule states one thing, or fails at one pointer.
use Rattle.std.proofs.Common.{◌≡◌, refl, sym, ap, ◌∙◌, subst, ℕ, zero, suc, ◌≤◌, ◌<◌, inl, inr, Bool, true, false, ◌&&◌, List, [], ◌∷◌, map, length, get_or, is_some, Option, Some, None, arith, MatchOption, IsSome}
use Rattle.std.specs.Prelude.{codes}
use Rattle.serde_json.specs.Data.{Data, null, Members, no_members, member}
use Rattle.serde_json.specs.Find.{get, as_object}
use Rattle.shade_core.specs.declared.module.CoreModule.{CoreModule}
use Rattle.shade_job.specs.declared.numbers.NumberRange.{NumberRange}
use Rattle.shade_job.specs.declared.numbers.NumberRange.TheVariants.{Below, Word}
use Rattle.shade_job.specs.declared.policies.Schedule.{Schedule}
use Rattle.shade_job.specs.declared.policies.Schedule.TheVariants as schedule
use Rattle.shade_job.specs.declared.schedules.Run.{Run}
use Rattle.shade_job.specs.Json.{number_of, natural, by_range, by_ranges, items_in, IsFirstNone, PartsAre, PartsFail, NumbersAre, NumbersFail}
use Rattle.shade_job.specs.Pointers.{member_pointer, item_pointer}
use Rattle.shade_job.specs.Rules.{FormIs, FormFails, VersionIs, VersionFails, versions, EntryIs, EntryFails, entry_of, GroupsAre, GroupsFail, counts, GroupIs, GroupFails, parts_of, StepsAre, StepsFail, limits, other_in}
use Rattle.shade_job.specs.Buffers.{names_buffer, are_given, BuffersAre, BuffersFail, NamesFail, buffer_items, are_words, IsBuffer, BufferFails, AreBuffers, FirstBuffer, word_count, words_of, WordsAre, AreMany, WordsFail}
use Rattle.shade_job.specs.Schedules.{Form, by_lanes, by_round, by_seed, by_picks, by_list, by_runs, form_of, runs_of, run_ranges, steps_of, step_count, RunFails, StepsAreMany, RunsAre, RunsFail, FormIs as AsksFor, FormFails as AsksWrongly, picks_in, pick_range, steps_in, ScheduleIs, ScheduleFails}
use Rattle.shade_job.proofs.DecideLaws.{Decides, some_one, none_some, none_is, map_some_one, made_decides, option_decides, inner_decides, parts_decide, stated_all, first_one}

numbers_decide : (ranges : List NumberRange) (base : List ℕ) (d : Data) → Decides (NumbersAre ranges d) (NumbersFail ranges base d)
numbers_decide ranges base d = parts_decide (by_ranges ranges) base _

pub form_decides : (bytes : List ℕ) → Decides (FormIs bytes) (FormFails bytes)
form_decides bytes = record {
  one = λ a b h k. some_one a b (sym h.text.json ∙ k.text.json);
  never = λ a p h k. k.0 a h;
  at = λ p q h k. h.1 ∙ sym k.1;
}

pub version_decides : (job : Data) → Decides (VersionIs job) (VersionFails job)
version_decides job = inner_decides (get (codes "version") job) [] (λ d n. number_of versions d ≡ Some n) (λ d p. (number_of versions d ≡ None) × (p ≡ codes "/version")) (λ d. option_decides (number_of versions d) (codes "/version"))

pub entry_decides : (shader : CoreModule) (job : Data) → Decides (EntryIs shader job) (EntryFails shader job)
entry_decides shader job = inner_decides (get (codes "entry") job) [] (λ d n. entry_of shader d ≡ Some n) (λ d p. (entry_of shader d ≡ None) × (p ≡ codes "/entry")) (λ d. option_decides (entry_of shader d) (codes "/entry"))

pub groups_decide : (job : Data) → Decides (GroupsAre job) (GroupsFail job)
groups_decide job = inner_decides (get (codes "groups") job) [] (NumbersAre counts) (NumbersFail counts (codes "/groups")) (numbers_decide counts (codes "/groups"))

pub group_decides : (groups : List ℕ) (job : Data) → Decides (GroupIs groups job) (GroupFails groups job)
group_decides groups job = inner_decides (get (codes "group") job) [] (NumbersAre (parts_of groups)) (NumbersFail (parts_of groups) (codes "/group")) (numbers_decide (parts_of groups) (codes "/group"))

-- ---- buffers

false_true : {b : Bool} → b ≡ false → b ≡ true → ⊥
false_true h k = cc

names_decide : (shader : CoreModule) (ms : Members) (o : Option (List ℕ)) (p : List ℕ) → o ≡ None → are_given shader ms ≡ true → MatchOption o ((are_given shader ms ≡ false) × (p ≡ codes "/buffers")) (λ name. p ≡ member_pointer (codes "/buffers") name) → ⊥
names_decide shader ms None p none given wrong = false_true wrong.0 given
names_decide shader ms (Some name) p none given wrong = cc

names_at : (shader : CoreModule) (ms : Members) (o : Option (List ℕ)) (p q : List ℕ) → MatchOption o ((are_given shader ms ≡ false) × (p ≡ codes "/buffers")) (λ name. p ≡ member_pointer (codes "/buffers") name) → MatchOption o ((are_given shader ms ≡ false) × (q ≡ codes "/buffers")) (λ name. q ≡ member_pointer (codes "/buffers") name) → p ≡ q
names_at shader ms None p q h k = h.1 ∙ sym k.1
names_at shader ms (Some name) p q h k = h ∙ sym k

object_decides : (shader : CoreModule) (o : Option Members) → Decides (λ (ms : Members). (o ≡ Some ms) × (other_in (names_buffer shader) ms ≡ None) × (are_given shader ms ≡ true)) (λ (p : List ℕ). MatchOption o (p ≡ codes "/buffers") (λ ms. NamesFail shader ms p))
object_decides shader None = record { one = λ a b h k. absurd (none_some a h.0); never = λ a p h k. none_some a h.0; at = λ p q h k. h ∙ sym k }
object_decides shader (Some ms) = record {
  one = λ a b h k. some_one a b (sym h.0 ∙ k.0);
  never = λ a p h k. right a p (some_one ms a h.0) h.1 h.2 k;
  at = λ p q h k. names_at shader ms (other_in (names_buffer shader) ms) p q h k;
}
  where
    right : (a : Members) (p : List ℕ) → ms ≡ a → other_in (names_buffer shader) a ≡ None → are_given shader a ≡ true → NamesFail shader ms p → ⊥
    right a p same known given wrong = names_decide shader ms (other_in (names_buffer shader) ms) p (ap (other_in (names_buffer shader)) same ∙ known) (ap (are_given shader) same ∙ given) wrong

pub buffers_decide : (shader : CoreModule) (job : Data) → Decides (BuffersAre shader job) (BuffersFail shader job)
buffers_decide shader job =
    inner_decides (get (codes "buffers") job) []
    (λ d ms. (as_object d ≡ Some ms) × (other_in (names_buffer shader) ms ≡ None) × (are_given shader ms ≡ true))
    (λ d p. MatchOption (as_object d) (p ≡ codes "/buffers") (λ ms. NamesFail shader ms p))
    (λ d. object_decides shader (as_object d))

and_left : (a b : Bool) → (a && b) ≡ true → a ≡ true
and_left true b h = refl
and_left false b h = absurd (cc)

and_right : (a b : Bool) → (a && b) ≡ true → b ≡ true
and_right true b h = h
and_right false b h = absurd (cc)

-- each item is a word
pub words_at : (ds : List Data) (i : ℕ) → are_words ds ≡ true → i < length (by_range Word ds) → is_some (get_or (by_range Word ds) i None) ≡ true
words_at [] i all lt = absurd (omega arith)
words_at (d ∷ ds) zero all lt = and_left (is_some (number_of Word d)) (are_words ds) all
words_at (d ∷ ds) (suc i) all lt = words_at ds i (and_right (is_some (number_of Word d)) (are_words ds) all) (omega arith)

words_never : (ds : List Data) (i : ℕ) → are_words ds ≡ true → IsFirstNone (by_range Word ds) i → ⊥
words_never ds i all first = none_is (get_or (by_range Word ds) i None) first.here (words_at ds i all first.within)

buffer_never : (base : List ℕ) (items : Option (List Data)) (p : List ℕ) → MatchOption items ⊥ (λ ds. are_words ds ≡ true) → PartsFail (by_range Word) base items p → ⊥
buffer_never base None p is wrong = is
buffer_never base (Some ds) p is wrong = words_never ds wrong.index is wrong.first

pub first_never : (shader : CoreModule) (ms : Members) (p : List ℕ) → AreBuffers shader ms → FirstBuffer shader ms p → ⊥
first_never shader no_members p are wrong = wrong
first_never shader (member name d more) p are wrong =
    elim wrong [
      | inl here ↦ buffer_never (member_pointer (codes "/buffers") name) (buffer_items shader name d) p are.0 here
      | inr later ↦ first_never shader more p are.1 later.1
    ]

first_by : (shader : CoreModule) (name : List ℕ) (d : Data) (more : Members) (p q : List ℕ) → (FirstBuffer shader more p → FirstBuffer shader more q → p ≡ q) → FirstBuffer shader (member name d more) p → FirstBuffer shader (member name d more) q → p ≡ q
first_by shader name d more p q rest h k = elim h [ inl here ↦ from_here here k | inr later ↦ from_later later k ] where
  from_here : BufferFails shader name d p → FirstBuffer shader (member name d more) q → p ≡ q
  from_here here k =
      elim k [
        | inl other ↦ (parts_decide (by_range Word) (member_pointer (codes "/buffers") name) (buffer_items shader name d)).at p q here other
        | inr later ↦ absurd (buffer_never (member_pointer (codes "/buffers") name) (buffer_items shader name d) p later.0 here)
      ]

  from_later : IsBuffer shader name d × FirstBuffer shader more p → FirstBuffer shader (member name d more) q → p ≡ q
  from_later later k =
      elim k [
        | inl here ↦ absurd (buffer_never (member_pointer (codes "/buffers") name) (buffer_items shader name d) q later.0 here)
        | inr other ↦ rest later.1 other.1
      ]

first_at : (shader : CoreModule) (ms : Members) (p q : List ℕ) → FirstBuffer shader ms p → FirstBuffer shader ms q → p ≡ q
first_at shader no_members p q h k = absurd h
first_at shader (member name d more) p q h k = first_by shader name d more p q (first_at shader more p q) h k

pub words_decide : (shader : CoreModule) (ms : Members) → Decides (WordsAre shader ms) (WordsFail shader ms)
words_decide shader ms = record { one = λ a b h k. h.are ∙ sym k.are; never = never; at = at } where
  many : (words : List (List ℕ)) → words ≡ words_of shader ms → word_count words ≤ 1048576 → 1048576 < word_count (words_of shader ms) → ⊥
  many words is few above = let same : word_count words ≡ word_count (words_of shader ms) = ap word_count is in omega arith

  never : (words : List (List ℕ)) (p : List ℕ) → WordsAre shader ms words → WordsFail shader ms p → ⊥
  never words p are wrong = elim wrong [ inl first ↦ first_never shader ms p are.each first | inr more ↦ many words are.are are.few more.many ]

  at : (p q : List ℕ) → WordsFail shader ms p → WordsFail shader ms q → p ≡ q
  at p q h k = elim h [ inl first ↦ from_first first k | inr more ↦ from_many more k ] where
    from_first : FirstBuffer shader ms p → WordsFail shader ms q → p ≡ q
    from_first first k = elim k [ inl other ↦ first_at shader ms p q first other | inr more ↦ absurd (first_never shader ms p more.each first) ]

    from_many : AreMany shader ms p → WordsFail shader ms q → p ≡ q
    from_many more k = elim k [ inl first ↦ absurd (first_never shader ms q more.each first) | inr other ↦ more.at ∙ sym other.at ]

-- ---- schedules

seed_decides : (o : Option ℕ) → Decides (λ (s : Schedule). MatchOption o ⊥ (λ n. s ≡ schedule.Seed n)) (λ (p : List ℕ). (o ≡ None) × (p ≡ codes "/schedule/seed"))
seed_decides None = record { one = λ a b h k. absurd h; never = λ a p h k. h; at = λ p q h k. h.1 ∙ sym k.1 }
seed_decides (Some n) = record { one = λ a b h k. h ∙ sym k; never = λ a p h k. none_some n (sym k.0); at = λ p q h k. h.1 ∙ sym k.1 }

runs_decide : (lanes : ℕ) (base : List ℕ) (ds : List Data) → Decides (RunsAre lanes ds) (RunsFail lanes base ds)
runs_decide lanes base ds = record { one = one; never = never; at = at } where
  same_runs : (xs ys : List Run) → runs_of lanes ds ≡ map (λ run. Some run) xs → runs_of lanes ds ≡ map (λ run. Some run) ys → xs ≡ ys
  same_runs xs ys h k = map_some_one xs ys (sym h ∙ k)

  one : (a b : List ℕ) → RunsAre lanes ds a → RunsAre lanes ds b → a ≡ b
  one a b h k = h.are ∙ (ap steps_of (same_runs h.runs k.runs h.each k.each) ∙ sym k.are)

  many : (xs ys : List Run) → xs ≡ ys → step_count xs ≤ 10000000 → 10000000 < step_count ys → ⊥
  many xs ys is few above = let same : step_count xs ≡ step_count ys = ap step_count is in omega arith

  never : (a : List ℕ) (p : List ℕ) → RunsAre lanes ds a → RunsFail lanes base ds p → ⊥
  never a p h k = elim k [ inl wrong ↦ stated_all (runs_of lanes ds) h.runs wrong.index h.each wrong.first | inr more ↦ many h.runs more.runs (same_runs h.runs more.runs h.each more.each) h.few more.many ]

  wrong_at : (i j : ℕ) (p q : List ℕ) → i ≡ j → NumbersFail (run_ranges lanes) (item_pointer base i) (get_or ds i null) p → NumbersFail (run_ranges lanes) (item_pointer base j) (get_or ds j null) q → p ≡ q
  wrong_at i j p q same h k = (numbers_decide (run_ranges lanes) (item_pointer base j) (get_or ds j null)).at p q (subst (λ (n : ℕ). NumbersFail (run_ranges lanes) (item_pointer base n) (get_or ds n null) p) same h) k

  at : (p q : List ℕ) → RunsFail lanes base ds p → RunsFail lanes base ds q → p ≡ q
  at p q h k = elim h [ inl wrong ↦ from_wrong wrong k | inr more ↦ from_many more k ] where
    from_wrong : RunFails lanes base ds p → RunsFail lanes base ds q → p ≡ q
    from_wrong wrong k =
        elim k [
          | inl other ↦ wrong_at wrong.index other.index p q (first_one (runs_of lanes ds) wrong.index other.index wrong.first other.first) wrong.fails other.fails
          | inr more ↦ absurd (stated_all (runs_of lanes ds) more.runs wrong.index more.each wrong.first)
        ]

    from_many : StepsAreMany lanes base ds p → RunsFail lanes base ds q → p ≡ q
    from_many more k = elim k [ inl wrong ↦ absurd (stated_all (runs_of lanes ds) more.runs wrong.index more.each wrong.first) | inr other ↦ more.at ∙ sym other.at ]

asks_decide : (lanes : ℕ) (form : Form) → Decides (AsksFor lanes form) (AsksWrongly lanes form)
asks_decide lanes by_lanes = record { one = λ a b h k. h ∙ sym k; never = λ a p h k. k; at = λ p q h k. absurd h }
asks_decide lanes by_round = record { one = λ a b h k. h ∙ sym k; never = λ a p h k. k; at = λ p q h k. absurd h }
asks_decide lanes (by_seed d) = seed_decides (natural d)
asks_decide lanes (by_picks d) = made_decides schedule.Picks (PartsAre (by_range pick_range) (picks_in d)) (PartsFail (by_range pick_range) (codes "/schedule/picks") (picks_in d)) (parts_decide (by_range pick_range) (codes "/schedule/picks") (picks_in d))
asks_decide lanes (by_list d) = made_decides schedule.List (PartsAre (by_range (Below lanes)) (steps_in d)) (PartsFail (by_range (Below lanes)) (codes "/schedule/list") (steps_in d)) (parts_decide (by_range (Below lanes)) (codes "/schedule/list") (steps_in d))
asks_decide lanes (by_runs d) =
    inner_decides (items_in d) (codes "/schedule/runs") (λ ds s. (steps : List ℕ) × RunsAre lanes ds steps × (s ≡ schedule.List steps)) (λ ds p. RunsFail lanes (codes "/schedule/runs") ds p)
    (λ ds. made_decides schedule.List (RunsAre lanes ds) (RunsFail lanes (codes "/schedule/runs") ds) (runs_decide lanes (codes "/schedule/runs") ds))

pub schedule_decides : (version lanes : ℕ) (job : Data) → Decides (ScheduleIs version lanes job) (ScheduleFails version lanes job)
schedule_decides version lanes job =
    inner_decides (get (codes "schedule") job) []
    (λ d s. MatchOption (form_of version d) ⊥ (λ form. AsksFor lanes form s))
    (λ d p. MatchOption (form_of version d) (p ≡ codes "/schedule") (λ form. AsksWrongly lanes form p))
    (λ d. inner_decides (form_of version d) (codes "/schedule") (λ form s. AsksFor lanes form s) (λ form p. AsksWrongly lanes form p) (asks_decide lanes))

-- ---- steps

policy_decides : (job : Data) → Decides (λ (n : ℕ). MatchOption (get (codes "steps") job) ⊥ (λ d. number_of limits d ≡ Some n)) (λ (p : List ℕ). MatchOption (get (codes "steps") job) (p ≡ []) (λ d. (number_of limits d ≡ None) × (p ≡ codes "/steps")))
policy_decides job = inner_decides (get (codes "steps") job) [] (λ d n. number_of limits d ≡ Some n) (λ d p. (number_of limits d ≡ None) × (p ≡ codes "/steps")) (λ d. option_decides (number_of limits d) (codes "/steps"))

no_some : {A : Type 0} (o : Option A) → o ≡ None → IsSome o → ⊥
no_some None e h = cc
no_some (Some x) e h = cc

pub steps_decide : (job : Data) (s : Schedule) → Decides (StepsAre job s) (StepsFail job s)
steps_decide job (schedule.List steps) = record { one = λ a b h k. h.1 ∙ sym k.1; never = λ a p h k. no_some (get (codes "steps") job) h.0 k.0; at = λ p q h k. h.1 ∙ sym k.1 }
steps_decide job schedule.Lanes = policy_decides job
steps_decide job schedule.Round = policy_decides job
steps_decide job (schedule.Seed n) = policy_decides job
steps_decide job (schedule.Picks picks) = policy_decides job
