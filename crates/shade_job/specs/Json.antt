-- What the values of a job state: whole numbers of a range, and lists of them. The value of a text is the one that `serde_json` reads.
use Rattle.std.specs.Prelude.{◌≡◌, ℕ, ◌<◌, ◌&&◌, ◌==◌, ℤ, pos, negsuc, int_le, nat_lt, nat_le, if◌then◌else◌, Bool, true, List, [], ◌∷◌, map, length, Option, Some, None, is_some, option_and_then, option_map, slice_index_or, MatchOption}
use Rattle.serde_json.specs.Data.{Data, Items, no_items, item}
use Rattle.serde_json.specs.Find.{as_number, as_u64, as_i64, as_array}
use Rattle.shade_values.specs.Numbers.{word}
use Rattle.shade_job.specs.declared.numbers.NumberRange.{NumberRange}
use Rattle.shade_job.specs.declared.numbers.NumberRange.TheVariants.{Between, Below, Word}
use Rattle.shade_job.specs.Pointers.{item_pointer}

-- ---- numbers

-- the whole number that a value is, where it is written as one, is not below 0 and fits 64 bits
abbrev pub natural : Data → Option ℕ
natural d = option_and_then as_u64 (as_number d)

-- the whole number that a value is, where it is written as one and fits 64 bits with a sign
abbrev pub whole : Data → Option ℤ
whole d = option_and_then as_i64 (as_number d)

abbrev pub between : ℕ → ℕ → ℕ → Option ℕ
between least most n = if nat_le least n && nat_le n most then Some n else None

abbrev pub below : ℕ → ℕ → Option ℕ
below end n = if nat_lt n end then Some n else None

-- the word of a number from -2,147,483,648 to 4,294,967,295: a negative one is taken modulo 2 ^ 32
abbrev pub word_in : ℤ → Option ℕ
word_in z = if int_le (negsuc 2147483647) z && int_le z (pos 4294967295) then Some (word z) else None

-- the number that a value states, where it is one of a range
abbrev pub number_of : NumberRange → Data → Option ℕ
number_of (Between least most) d = option_and_then (between least most) (natural d)
number_of (Below end) d = option_and_then (below end) (natural d)
number_of Word d = option_and_then word_in (whole d)

-- ---- lists

abbrev pub list_of : Items → List Data
list_of no_items = []
list_of (item d ds) = d ∷ list_of ds

-- the items of a list
abbrev pub items_in : Data → Option (List Data)
items_in d = option_map list_of (as_array d)

abbrev pub sized_by : (ℕ → Bool) → Option (List Data) → Option (List Data)
sized_by fits None = None
sized_by fits (Some ds) = if fits (length ds) then Some ds else None

-- the items of a list that has a right number of them
abbrev pub sized : (ℕ → Bool) → Data → Option (List Data)
sized fits d = sized_by fits (items_in d)

-- what items state, each by a range of its own
abbrev pub by_ranges : List NumberRange → List Data → List (Option ℕ)
by_ranges [] ds = []
by_ranges (r ∷ rs) [] = []
by_ranges (r ∷ rs) (d ∷ ds) = number_of r d ∷ by_ranges rs ds

-- what items state, all by one range
abbrev pub by_range : NumberRange → List Data → List (Option ℕ)
by_range r ds = map (number_of r) ds

-- the first of some items that states nothing
pub record IsFirstNone {A : Type 0} (stated : List (Option A)) (i : ℕ) : Type 0 where
  pub within : i < length stated
  pub here : slice_index_or stated i None ≡ None
  pub before : (k : ℕ) → k < i → is_some (slice_index_or stated k None) ≡ true

-- the pointer to the first of some items that states nothing, where base is the pointer to their list
pub record ItemFails {A : Type 0} (base : List ℕ) (stated : List (Option A)) (pointer : List ℕ) : Type 0 where
  pub index : ℕ
  pub first : IsFirstNone stated index
  pub is : pointer ≡ item_pointer base index

-- ds, where there are any, state these parts one by one
abbrev pub PartsAre : {A : Type 0} → (List Data → List (Option A)) → Option (List Data) → List A → Type 0
PartsAre stated items parts = MatchOption items ⊥ (λ ds. stated ds ≡ map (λ part. Some part) parts)

-- there is no list of a right number of items, or one of them states nothing
abbrev pub PartsFail : {A : Type 0} → (List Data → List (Option A)) → List ℕ → Option (List Data) → List ℕ → Type 0
PartsFail stated base items pointer = MatchOption items (pointer ≡ base) (λ ds. ItemFails base (stated ds) pointer)

-- a list of as many numbers as there are ranges, each of its own
abbrev pub NumbersAre : List NumberRange → Data → List ℕ → Type 0
NumbersAre ranges d numbers = PartsAre (by_ranges ranges) (sized (λ n. n == length ranges) d) numbers

abbrev pub NumbersFail : List NumberRange → List ℕ → Data → List ℕ → Type 0
NumbersFail ranges base d pointer = PartsFail (by_ranges ranges) base (sized (λ n. n == length ranges) d) pointer
