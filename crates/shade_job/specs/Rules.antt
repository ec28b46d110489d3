-- The rules on a job, one by one: what it states where the rule holds, and the pointer to the first value that breaks it. Buffers and
-- schedules have files of their own.
use Rattle.std.specs.Prelude.{◌≡◌, ℕ, ◌^◌, ◌≤◌, ◌&&◌, ◌||◌, min, Bool, nat_lt, if◌then◌else◌, List, [], ◌∷◌, map, codes, length, Option, Some, None, is_some, option_and_then, IsSome, IsUtf8, MatchOption}
use Rattle.std.specs.List.{position}
use Rattle.std.specs.Str.{bytes_eq}
use Rattle.serde_json.specs.Data.{Data, object, Members, no_members, member}
use Rattle.serde_json.specs.Read.{read}
use Rattle.serde_json.specs.Find.{get, as_str, as_object}
use Rattle.shade_core.specs.declared.module.CoreFunction.{CoreFunction}
use Rattle.shade_core.specs.declared.module.CoreModule.{CoreModule}
use Rattle.shade_core.specs.Limits.{lanes_of}
use Rattle.shade_mem.specs.Inputs.{size_of}
use Rattle.shade_job.specs.declared.numbers.NumberRange.{NumberRange}
use Rattle.shade_job.specs.declared.numbers.NumberRange.TheVariants.{Between, Below}
use Rattle.shade_job.specs.declared.policies.Schedule.{Schedule}
use Rattle.shade_job.specs.declared.policies.Schedule.TheVariants as schedule
use Rattle.shade_job.specs.Json.{number_of, NumbersAre, NumbersFail}

-- a member that a job must have
abbrev pub MemberIs : List ℕ → (Data → Type 0) → Data → Type 0
MemberIs name Is job = MatchOption (get name job) ⊥ Is

-- the job itself where it lacks the member, else what is wrong with the member
abbrev pub MemberFails : List ℕ → (Data → List ℕ → Type 0) → Data → List ℕ → Type 0
MemberFails name Fails job pointer = MatchOption (get name job) (pointer ≡ []) (λ d. Fails d pointer)

-- one number of a range
abbrev pub NumberFails : NumberRange → List ℕ → Data → List ℕ → Type 0
NumberFails range base d pointer = (number_of range d ≡ None) × (pointer ≡ base)

-- ---- form: at most 16,777,216 bytes, JSON that nests at most 127 deep (`read` has none that nests deeper), an object

-- the text is JSON, and not too long
pub record IsText (bytes : List ℕ) (value : Data) : Type 0 where
  pub few : length bytes ≤ 16777216
  pub text : IsUtf8 bytes
  pub json : read bytes ≡ Some value

pub record FormIs (bytes : List ℕ) (job : Data) : Type 0 where
  pub text : IsText bytes job
  pub object : IsSome (as_object job)

abbrev pub FormFails : List ℕ → List ℕ → Type 0
FormFails bytes pointer = ((job : Data) → ¬ FormIs bytes job) × (pointer ≡ [])

-- ---- version: 1 or 2

abbrev pub versions : NumberRange
versions = Between 1 2

abbrev pub VersionIs : Data → ℕ → Type 0
VersionIs job version = MemberIs (codes "version") (λ d. number_of versions d ≡ Some version) job

abbrev pub VersionFails : Data → List ℕ → Type 0
VersionFails job pointer = MemberFails (codes "version") (NumberFails versions (codes "/version")) job pointer

-- ---- entry: the name of a compute entry

abbrev pub is_entry : List ℕ → CoreFunction → Bool
is_entry name f = is_some f.entry && bytes_eq f.name name

abbrev pub word_below : ℕ → Option ℕ
word_below n = if nat_lt n (2 ^ 32) then Some n else None

-- the number of the entry with a name (no two functions of a module have one name)
abbrev pub entry_named : CoreModule → List ℕ → Option ℕ
entry_named shader name = option_and_then word_below (position (is_entry name) shader.functions)

abbrev pub entry_of : CoreModule → Data → Option ℕ
entry_of shader d = option_and_then (entry_named shader) (as_str d)

abbrev pub EntryIs : CoreModule → Data → ℕ → Type 0
EntryIs shader job entry = MemberIs (codes "entry") (λ d. entry_of shader d ≡ Some entry) job

abbrev pub EntryFails : CoreModule → Data → List ℕ → Type 0
EntryFails shader job pointer = MemberFails (codes "entry") (λ d at. (entry_of shader d ≡ None) × (at ≡ codes "/entry")) job pointer

-- how many lanes an entry has; no lane has a number that is no word
abbrev pub lanes_at : CoreModule → ℕ → ℕ
lanes_at shader entry = min (lanes_of (size_of shader entry)) 4294967295

-- ---- groups: a list of three whole numbers from 1 to 65,535

abbrev pub counts : List NumberRange
counts = Between 1 65535 ∷ Between 1 65535 ∷ Between 1 65535 ∷ []

abbrev pub GroupsAre : Data → List ℕ → Type 0
GroupsAre job groups = MemberIs (codes "groups") (λ d. NumbersAre counts d groups) job

abbrev pub GroupsFail : Data → List ℕ → Type 0
GroupsFail job pointer = MemberFails (codes "groups") (NumbersFail counts (codes "/groups")) job pointer

-- ---- group: a list of three whole numbers, each below its part of the groups

abbrev pub parts_of : List ℕ → List NumberRange
parts_of groups = map (λ n. Below n) groups

abbrev pub GroupIs : List ℕ → Data → List ℕ → Type 0
GroupIs groups job group = MemberIs (codes "group") (λ d. NumbersAre (parts_of groups) d group) job

abbrev pub GroupFails : List ℕ → Data → List ℕ → Type 0
GroupFails groups job pointer = MemberFails (codes "group") (NumbersFail (parts_of groups) (codes "/group")) job pointer

-- ---- steps: a whole number from 0 to 10,000,000; a list is as long as it is, and then there is no such member

abbrev pub limits : NumberRange
limits = Between 0 10000000

abbrev pub StepsAre : Data → Schedule → ℕ → Type 0
StepsAre job (schedule.List steps) limit = (get (codes "steps") job ≡ None) × (limit ≡ length steps)
StepsAre job _ limit = MemberIs (codes "steps") (λ d. number_of limits d ≡ Some limit) job

abbrev pub StepsFail : Data → Schedule → List ℕ → Type 0
StepsFail job (schedule.List steps) pointer = IsSome (get (codes "steps") job) × (pointer ≡ codes "/steps")
StepsFail job _ pointer = MemberFails (codes "steps") (NumberFails limits (codes "/steps")) job pointer

-- ---- other members: none

abbrev pub is_known : List ℕ → Bool
is_known name =
    bytes_eq name (codes "version") || (bytes_eq name (codes "entry") || (bytes_eq name (codes "groups") || (bytes_eq name (codes "group")
    || (bytes_eq name (codes "buffers") || (bytes_eq name (codes "schedule") || bytes_eq name (codes "steps"))))))

-- the first of some members whose name is not asked for; members stand in the order of the bytes of their names
abbrev pub other_in : (List ℕ → Bool) → Members → Option (List ℕ)
other_in known no_members = None
other_in known (member name d more) = if known name then other_in known more else Some name

abbrev pub other_of : (List ℕ → Bool) → Data → Option (List ℕ)
other_of known (object ms) = other_in known ms
other_of known _ = None
