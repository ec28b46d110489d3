-- Each text has one answer.
use Rattle.std.proofs.Common.{◌≡◌, sym, ap, ◌∙◌, subst, ℕ, List, []}
use Rattle.serde_json.specs.Data.{Data, Members}
use Rattle.shade_core.specs.declared.module.CoreModule.{CoreModule}
use Rattle.shade_job.specs.declared.policies.Schedule.{Schedule}
use Rattle.shade_job.specs.declared.reading.Job.{Job}
use Rattle.shade_job.specs.declared.refusal.JobRule.{JobRule}
use Rattle.shade_job.specs.declared.refusal.JobRule.TheVariants as rule
use Rattle.shade_job.specs.Pointers.{member_pointer}
use Rattle.shade_job.specs.Rules.{lanes_at, FormIs, FormFails, VersionIs, VersionFails, EntryIs, EntryFails, GroupsAre, GroupsFail, GroupIs, GroupFails, StepsAre, StepsFail}
use Rattle.shade_job.specs.Buffers.{BuffersAre, BuffersFail, WordsAre, WordsFail}
use Rattle.shade_job.specs.Schedules.{ScheduleIs, ScheduleFails}
use Rattle.shade_job.specs.JobOf.{IsStated, IsJob, Either, OtherFails, StepsOrLater, ScheduleOrLater, BuffersOrLater, GroupsOrLater, IsFaultOf, IsFault}
use Rattle.shade_job.specs.OneAnswer.{OneAnswer}
use Rattle.shade_job.proofs.DecideLaws.{OneFault, either_one, either_later, some_one, none_some}
use Rattle.shade_job.proofs.RuleLaws.{form_decides, version_decides, entry_decides, groups_decide, group_decides, buffers_decide, words_decide, schedule_decides, steps_decide}

-- ---- one fault

other_one : (value : Data) → OneFault (OtherFails value)
other_one value = record { one = λ p q r t h k. (h.3 ∙ (ap (member_pointer []) (some_one h.1 k.1 (sym h.2 ∙ k.2)) ∙ sym k.3), h.0 ∙ sym k.0) }

steps_one : (value : Data) (schedule : Schedule) → OneFault (StepsOrLater value schedule)
steps_one value schedule = either_one rule.Steps (StepsFail value schedule) (StepsAre value schedule) (λ limit. OtherFails value) (steps_decide value schedule) (λ limit is. other_one value)

schedule_one : (shader : CoreModule) (value : Data) (version entry : ℕ) → OneFault (ScheduleOrLater shader value version entry)
schedule_one shader value version entry =
    either_one rule.Schedule (ScheduleFails version (lanes_at shader entry) value) (ScheduleIs version (lanes_at shader entry) value) (λ schedule. StepsOrLater value schedule) (schedule_decides version (lanes_at shader entry) value) (λ schedule is. steps_one value schedule)

words_one : (shader : CoreModule) (value : Data) (version entry : ℕ) (members : Members) → OneFault (Either rule.Words (WordsFail shader members) (WordsAre shader members) (λ (words : List (List ℕ)). ScheduleOrLater shader value version entry))
words_one shader value version entry members = either_one rule.Words (WordsFail shader members) (WordsAre shader members) (λ (words : List (List ℕ)). ScheduleOrLater shader value version entry) (words_decide shader members) (λ words is. schedule_one shader value version entry)

buffers_one : (shader : CoreModule) (value : Data) (version entry : ℕ) → OneFault (BuffersOrLater shader value version entry)
buffers_one shader value version entry =
    either_one rule.Buffers (BuffersFail shader value) (BuffersAre shader value)
    (λ (members : Members). Either rule.Words (WordsFail shader members) (WordsAre shader members) (λ (words : List (List ℕ)). ScheduleOrLater shader value version entry))
    (buffers_decide shader value) (λ members is. words_one shader value version entry members)

group_one : (shader : CoreModule) (value : Data) (version entry : ℕ) (groups : List ℕ) → OneFault (Either rule.Group (GroupFails groups value) (GroupIs groups value) (λ (group : List ℕ). BuffersOrLater shader value version entry))
group_one shader value version entry groups = either_one rule.Group (GroupFails groups value) (GroupIs groups value) (λ (group : List ℕ). BuffersOrLater shader value version entry) (group_decides groups value) (λ group is. buffers_one shader value version entry)

groups_one : (shader : CoreModule) (value : Data) (version entry : ℕ) → OneFault (GroupsOrLater shader value version entry)
groups_one shader value version entry =
    either_one rule.Groups (GroupsFail value) (GroupsAre value)
    (λ (groups : List ℕ). Either rule.Group (GroupFails groups value) (GroupIs groups value) (λ (group : List ℕ). BuffersOrLater shader value version entry))
    (groups_decide value) (λ groups is. group_one shader value version entry groups)

entry_one : (shader : CoreModule) (value : Data) (version : ℕ) → OneFault (Either rule.Entry (EntryFails shader value) (EntryIs shader value) (λ (entry : ℕ). GroupsOrLater shader value version entry))
entry_one shader value version = either_one rule.Entry (EntryFails shader value) (EntryIs shader value) (λ (entry : ℕ). GroupsOrLater shader value version entry) (entry_decides shader value) (λ entry is. groups_one shader value version entry)

value_one : (shader : CoreModule) (value : Data) → OneFault (IsFaultOf shader value)
value_one shader value =
    either_one rule.Version (VersionFails value) (VersionIs value)
    (λ (version : ℕ). Either rule.Entry (EntryFails shader value) (EntryIs shader value) (λ (entry : ℕ). GroupsOrLater shader value version entry))
    (version_decides value) (λ version is. entry_one shader value version)

text_one : (bytes : List ℕ) (shader : CoreModule) → OneFault (IsFault bytes shader)
text_one bytes shader = either_one rule.Form (FormFails bytes) (FormIs bytes) (λ (value : Data). IsFaultOf shader value) (form_decides bytes) (λ value is. value_one shader value)

-- ---- no fault beside a job

module _ (shader : CoreModule) (value : Data) (job : Job) (s : IsStated shader value job) (p : List ℕ) (r : JobRule) where
  abbrev entry : ℕ
  entry = job.inputs.entry

  steps_never : StepsOrLater value job.schedule p r → ⊥
  steps_never h = let other : OtherFails value p r = either_later rule.Steps (StepsFail value job.schedule) (StepsAre value job.schedule) (λ (limit : ℕ). OtherFails value) (steps_decide value job.schedule) job.steps s.steps p r h in none_some other.1 (sym s.no_other ∙ other.2)

  schedule_never : ScheduleOrLater shader value s.version entry p r → ⊥
  schedule_never h = steps_never (either_later rule.Schedule (ScheduleFails s.version (lanes_at shader entry) value) (ScheduleIs s.version (lanes_at shader entry) value) (λ schedule. StepsOrLater value schedule) (schedule_decides s.version (lanes_at shader entry) value) job.schedule s.schedule p r h)

  words_never : Either rule.Words (WordsFail shader s.members) (WordsAre shader s.members) (λ (words : List (List ℕ)). ScheduleOrLater shader value s.version entry) p r → ⊥
  words_never h = schedule_never (either_later rule.Words (WordsFail shader s.members) (WordsAre shader s.members) (λ (words : List (List ℕ)). ScheduleOrLater shader value s.version entry) (words_decide shader s.members) job.inputs.words s.words p r h)

  buffers_never : BuffersOrLater shader value s.version entry p r → ⊥
  buffers_never h =
      words_never (either_later rule.Buffers (BuffersFail shader value) (BuffersAre shader value)
      (λ (members : Members). Either rule.Words (WordsFail shader members) (WordsAre shader members) (λ (words : List (List ℕ)). ScheduleOrLater shader value s.version entry))
      (buffers_decide shader value) s.members s.buffers p r h)

  group_never : Either rule.Group (GroupFails job.inputs.groups value) (GroupIs job.inputs.groups value) (λ (group : List ℕ). BuffersOrLater shader value s.version entry) p r → ⊥
  group_never h = buffers_never (either_later rule.Group (GroupFails job.inputs.groups value) (GroupIs job.inputs.groups value) (λ (group : List ℕ). BuffersOrLater shader value s.version entry) (group_decides job.inputs.groups value) job.inputs.group s.group p r h)

  groups_never : GroupsOrLater shader value s.version entry p r → ⊥
  groups_never h =
      group_never (either_later rule.Groups (GroupsFail value) (GroupsAre value)
      (λ (groups : List ℕ). Either rule.Group (GroupFails groups value) (GroupIs groups value) (λ (group : List ℕ). BuffersOrLater shader value s.version entry))
      (groups_decide value) job.inputs.groups s.groups p r h)

  entry_never : Either rule.Entry (EntryFails shader value) (EntryIs shader value) (λ (entry : ℕ). GroupsOrLater shader value s.version entry) p r → ⊥
  entry_never h = groups_never (either_later rule.Entry (EntryFails shader value) (EntryIs shader value) (λ (entry : ℕ). GroupsOrLater shader value s.version entry) (entry_decides shader value) job.inputs.entry s.entry p r h)

  value_never : IsFaultOf shader value p r → ⊥
  value_never h =
      entry_never (either_later rule.Version (VersionFails value) (VersionIs value)
      (λ (version : ℕ). Either rule.Entry (EntryFails shader value) (EntryIs shader value) (λ (entry : ℕ). GroupsOrLater shader value version entry))
      (version_decides value) s.version s.versioned p r h)

text_never : (bytes : List ℕ) (shader : CoreModule) (job : Job) (p : List ℕ) (r : JobRule) → IsJob bytes shader job → IsFault bytes shader p r → ⊥
text_never bytes shader job p r is h = value_never shader is.value job is.stated p r (either_later rule.Form (FormFails bytes) (FormIs bytes) (λ (value : Data). IsFaultOf shader value) (form_decides bytes) is.value is.form p r h)

-- ---- one job

module _ (shader : CoreModule) (value : Data) (a b : Job) (s : IsStated shader value a) (t : IsStated shader value b) where
  entries : a.inputs.entry ≡ b.inputs.entry
  entries = (entry_decides shader value).one a.inputs.entry b.inputs.entry s.entry t.entry

  all_groups : a.inputs.groups ≡ b.inputs.groups
  all_groups = (groups_decide value).one a.inputs.groups b.inputs.groups s.groups t.groups

  own_groups : a.inputs.group ≡ b.inputs.group
  own_groups = (group_decides b.inputs.groups value).one a.inputs.group b.inputs.group (subst (λ (g : List ℕ). GroupIs g value a.inputs.group) all_groups s.group) t.group

  all_members : s.members ≡ t.members
  all_members = (buffers_decide shader value).one s.members t.members s.buffers t.buffers

  all_words : a.inputs.words ≡ b.inputs.words
  all_words = (words_decide shader t.members).one a.inputs.words b.inputs.words (subst (λ (m : Members). WordsAre shader m a.inputs.words) all_members s.words) t.words

  versions : s.version ≡ t.version
  versions = (version_decides value).one s.version t.version s.versioned t.versioned

  schedules : a.schedule ≡ b.schedule
  schedules =
      (schedule_decides t.version (lanes_at shader b.inputs.entry) value).one a.schedule b.schedule
      (subst (λ (v : ℕ). ScheduleIs v (lanes_at shader b.inputs.entry) value a.schedule) versions (subst (λ (e : ℕ). ScheduleIs s.version (lanes_at shader e) value a.schedule) entries s.schedule))
      t.schedule

  limits : a.steps ≡ b.steps
  limits = (steps_decide value b.schedule).one a.steps b.steps (subst (λ (c : Schedule). StepsAre value c a.steps) schedules s.steps) t.steps

  pub one_job : a ≡ b
  one_job = λ i. record {
    inputs = record { entry = entries i; groups = all_groups i; group = own_groups i; words = all_words i };
    schedule = schedules i;
    steps = limits i;
  }

text_job : (bytes : List ℕ) (shader : CoreModule) (one other : Job) → IsJob bytes shader one → IsJob bytes shader other → one ≡ other
text_job bytes shader a b h k = one_job shader k.value a b (subst (λ (v : Data). IsStated shader v a) ((form_decides bytes).one h.value k.value h.form k.form) h.stated) k.stated

pub one_answer : OneAnswer
one_answer = record { job = text_job; fault = λ bytes shader p q r t h k. (text_one bytes shader).one p q r t h k; never = text_never }
