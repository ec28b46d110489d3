-- The buffers of a job: `storage` and `uniform` variables by name, and their words. (WGSL, "Address Spaces".)
use Rattle.std.specs.Prelude.{◌≡◌, ℕ, ◌≤◌, ◌<◌, ◌&&◌, ◌||◌, ◌⊎◌, not, Bool, true, false, nat_le, if◌then◌else◌, List, [], map, codes, length, sum, Option, Some, None, is_some, MatchOption}
use Rattle.std.specs.List.{list_all, list_any, flat_map}
use Rattle.std.specs.Option.{option_to_list}
use Rattle.std.specs.Str.{bytes_eq}
use Rattle.serde_json.specs.Data.{Data, Members, no_members, member}
use Rattle.serde_json.specs.Find.{as_object}
use Rattle.shade_core.specs.declared.module.Root.{Root}
use Rattle.shade_core.specs.declared.module.CoreModule.{CoreModule}
use Rattle.shade_mem.specs.Fitting.{is_buffer, least_words}
use Rattle.shade_job.specs.declared.numbers.NumberRange.TheVariants.{Word}
use Rattle.shade_job.specs.Pointers.{member_pointer}
use Rattle.shade_job.specs.Json.{items_in, sized, number_of, by_range, PartsFail}
use Rattle.shade_job.specs.Rules.{other_in, MemberIs, MemberFails}

-- ---- names: the buffers are an object that names variables in storage and uniform memory alone, and each of them

abbrev pub is_named : List ℕ → Root → Bool
is_named name root = is_buffer root && bytes_eq root.name name

-- a variable of the module that lies in storage or uniform memory
abbrev pub names_buffer : CoreModule → List ℕ → Bool
names_buffer shader name = list_any (is_named name) shader.roots

-- the member with a name (an object has each name once)
abbrev pub member_named : List ℕ → Members → Option Data
member_named name no_members = None
member_named name (member other d more) = if bytes_eq other name then Some d else member_named name more

abbrev pub is_given : Members → Root → Bool
is_given members root = not (is_buffer root) || is_some (member_named root.name members)

-- each variable that lies there is named
abbrev pub are_given : CoreModule → Members → Bool
are_given shader members = list_all (is_given members) shader.roots

abbrev pub BuffersAre : CoreModule → Data → Members → Type 0
BuffersAre shader job members =
    MemberIs (codes "buffers") (λ d. (as_object d ≡ Some members) × (other_in (names_buffer shader) members ≡ None) × (are_given shader members ≡ true)) job

-- the first name of no such variable, else the object itself, which lacks one
abbrev pub NamesFail : CoreModule → Members → List ℕ → Type 0
NamesFail shader members pointer =
    MatchOption (other_in (names_buffer shader) members) ((are_given shader members ≡ false) × (pointer ≡ codes "/buffers")) (λ name. pointer ≡ member_pointer (codes "/buffers") name)

abbrev pub BuffersFail : CoreModule → Data → List ℕ → Type 0
BuffersFail shader job pointer =
    MemberFails (codes "buffers") (λ d at. MatchOption (as_object d) (at ≡ codes "/buffers") (λ members. NamesFail shader members at)) job pointer

-- ---- words: lists of whole numbers from -2,147,483,648 to 4,294,967,295, each with at least the words of the variable's type, all
-- together with at most 1,048,576

-- as many words as the type of each variable with this name asks for
abbrev pub has_words : CoreModule → List ℕ → ℕ → Bool
has_words shader name count = list_all (λ root. not (is_named name root) || nat_le (least_words shader root) count) shader.roots

-- the items of a buffer that has enough of them
abbrev pub buffer_items : CoreModule → List ℕ → Data → Option (List Data)
buffer_items shader name d = sized (has_words shader name) d

abbrev pub are_words : List Data → Bool
are_words ds = list_all (λ d. is_some (number_of Word d)) ds

abbrev pub IsBuffer : CoreModule → List ℕ → Data → Type 0
IsBuffer shader name d = MatchOption (buffer_items shader name d) ⊥ (λ ds. are_words ds ≡ true)

abbrev pub BufferFails : CoreModule → List ℕ → Data → List ℕ → Type 0
BufferFails shader name d pointer = PartsFail (by_range Word) (member_pointer (codes "/buffers") name) (buffer_items shader name d) pointer

abbrev pub AreBuffers : CoreModule → Members → Type 0
AreBuffers shader no_members = Unit {0}
AreBuffers shader (member name d more) = IsBuffer shader name d × AreBuffers shader more

-- the first buffer, by the bytes of its name, that is no list of enough words
abbrev pub FirstBuffer : CoreModule → Members → List ℕ → Type 0
FirstBuffer shader no_members pointer = ⊥
FirstBuffer shader (member name d more) pointer = BufferFails shader name d pointer ⊎ (IsBuffer shader name d × FirstBuffer shader more pointer)

-- the words that items state
abbrev pub words_in : List Data → List ℕ
words_in ds = flat_map (λ d. option_to_list (number_of Word d)) ds

abbrev pub given_words : Option (List Data) → List ℕ
given_words None = []
given_words (Some ds) = words_in ds

abbrev pub stated_words : Option Data → List ℕ
stated_words None = []
stated_words (Some d) = given_words (items_in d)

-- the words of a variable at the start; those that lie elsewhere are given none
abbrev pub root_words : Members → Root → List ℕ
root_words members root = if is_buffer root then stated_words (member_named root.name members) else []

abbrev pub words_of : CoreModule → Members → List (List ℕ)
words_of shader members = map (root_words members) shader.roots

abbrev pub word_count : List (List ℕ) → ℕ
word_count words = sum (map (λ ws. length ws) words)

pub record WordsAre (shader : CoreModule) (members : Members) (words : List (List ℕ)) : Type 0 where
  pub each : AreBuffers shader members
  pub few : word_count words ≤ 1048576
  pub are : words ≡ words_of shader members

-- too many words together, where each buffer by itself is right
pub record AreMany (shader : CoreModule) (members : Members) (pointer : List ℕ) : Type 0 where
  pub each : AreBuffers shader members
  pub many : 1048576 < word_count (words_of shader members)
  pub at : pointer ≡ codes "/buffers"

abbrev pub WordsFail : CoreModule → Members → List ℕ → Type 0
WordsFail shader members pointer = FirstBuffer shader members pointer ⊎ AreMany shader members pointer
