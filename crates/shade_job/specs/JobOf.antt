-- The job that some bytes state for a module, and the first fault of bytes that state none: the rules are tested by their numbers.
use Rattle.std.specs.Prelude.{◌≡◌, ◌⊎◌, ℕ, List}
use Rattle.serde_json.specs.Data.{Data, Members}
use Rattle.shade_core.specs.declared.module.CoreModule.{CoreModule}
use Rattle.shade_job.specs.declared.policies.Schedule.{Schedule}
use Rattle.shade_job.specs.declared.reading.Job.{Job}
use Rattle.shade_job.specs.declared.refusal.JobRule.{JobRule}
use Rattle.shade_job.specs.declared.refusal.JobRule.TheVariants as rule
use Rattle.shade_job.specs.Rules.{FormIs, FormFails, VersionIs, VersionFails, EntryIs, EntryFails, lanes_at, GroupsAre, GroupsFail, GroupIs, GroupFails, StepsAre, StepsFail, is_known, other_of}
use Rattle.shade_job.specs.Buffers.{BuffersAre, BuffersFail, WordsAre, WordsFail}
use Rattle.shade_job.specs.Schedules.{ScheduleIs, ScheduleFails}
use Rattle.shade_job.specs.Pointers.{member_pointer}
use Rattle.std.specs.Prelude.{[], Some, None}

-- The value of a JSON text states this job: each rule holds.
pub record IsStated (shader : CoreModule) (value : Data) (job : Job) : Type 0 where
  pub version : ℕ
  pub members : Members
  pub versioned : VersionIs value version
  pub entry : EntryIs shader value job.inputs.entry
  pub groups : GroupsAre value job.inputs.groups
  pub group : GroupIs job.inputs.groups value job.inputs.group
  pub buffers : BuffersAre shader value members
  pub words : WordsAre shader members job.inputs.words
  pub schedule : ScheduleIs version (lanes_at shader job.inputs.entry) value job.schedule
  pub steps : StepsAre value job.schedule job.steps
  pub no_other : other_of is_known value ≡ None

pub record IsJob (bytes : List ℕ) (shader : CoreModule) (job : Job) : Type 0 where
  pub value : Data
  pub form : FormIs bytes value
  pub stated : IsStated shader value job

-- a rule fails at this pointer, or it holds, and states something, and a later one fails
abbrev pub Either : {A : Type 0} → JobRule → (List ℕ → Type 0) → (A → Type 0) → (A → List ℕ → JobRule → Type 0) → List ℕ → JobRule → Type 0
Either {A} own Fails Is Later pointer broken = ((broken ≡ own) × Fails pointer) ⊎ ((a : A) × Is a × Later a pointer broken)

abbrev pub OtherFails : Data → List ℕ → JobRule → Type 0
OtherFails value pointer broken = (broken ≡ rule.OtherMember) × (name : List ℕ) × (other_of is_known value ≡ Some name) × (pointer ≡ member_pointer [] name)

abbrev pub StepsOrLater : Data → Schedule → List ℕ → JobRule → Type 0
StepsOrLater value schedule = Either rule.Steps (StepsFail value schedule) (StepsAre value schedule) (λ limit. OtherFails value)

abbrev pub ScheduleOrLater : CoreModule → Data → ℕ → ℕ → List ℕ → JobRule → Type 0
ScheduleOrLater shader value version entry =
    Either rule.Schedule (ScheduleFails version (lanes_at shader entry) value) (ScheduleIs version (lanes_at shader entry) value) (λ schedule. StepsOrLater value schedule)

abbrev pub BuffersOrLater : CoreModule → Data → ℕ → ℕ → List ℕ → JobRule → Type 0
BuffersOrLater shader value version entry =
    Either rule.Buffers (BuffersFail shader value) (BuffersAre shader value) (λ members.
    Either rule.Words (WordsFail shader members) (WordsAre shader members) (λ words. ScheduleOrLater shader value version entry))

abbrev pub GroupsOrLater : CoreModule → Data → ℕ → ℕ → List ℕ → JobRule → Type 0
GroupsOrLater shader value version entry =
    Either rule.Groups (GroupsFail value) (GroupsAre value) (λ groups.
    Either rule.Group (GroupFails groups value) (GroupIs groups value) (λ group. BuffersOrLater shader value version entry))

-- The first rule, by its number, that the value of a JSON text breaks, and the pointer to the first value that breaks it.
abbrev pub IsFaultOf : CoreModule → Data → List ℕ → JobRule → Type 0
IsFaultOf shader value =
    Either rule.Version (VersionFails value) (VersionIs value) (λ version.
    Either rule.Entry (EntryFails shader value) (EntryIs shader value) (λ entry. GroupsOrLater shader value version entry))

-- The same of a text.
abbrev pub IsFault : List ℕ → CoreModule → List ℕ → JobRule → Type 0
IsFault bytes shader = Either rule.Form (FormFails bytes) (FormIs bytes) (λ value. IsFaultOf shader value)
