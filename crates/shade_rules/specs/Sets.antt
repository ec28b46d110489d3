-- On the way to the proof: sets of numbers, and sets of what is read and written.
use Rattle.std.specs.Prelude.{◌≡◌, ℕ, ◌/◌, ◌%◌, ◌==◌, ◌≤◌, ◌⊎◌, Bool, true, List, length, slice_index_or}
use Rattle.std.specs.Int.{bit_at}
use Rattle.shade_rules.specs.declared.number_set.NumberSet.{NumberSet}
use Rattle.shade_rules.specs.declared.usage.Row.{Row}
use Rattle.shade_rules.specs.declared.usage.Seen.{Seen}
use Rattle.shade_rules.specs.declared.usage.Seen.TheVariants.{Parameter, Variable}
use Rattle.shade_rules.specs.declared.usage.SeenSet.{SeenSet}
use Rattle.shade_rules.specs.declared.usage.UsageKind.{UsageKind}
use Rattle.shade_rules.specs.declared.usage.UsageKind.TheVariants.{Read, Write}
use Rattle.shade_rules.specs.Usages.{Usage}

-- a word of a set; one that is not there has no bits
abbrev pub word_at : List ℕ → ℕ → ℕ
word_at words k = slice_index_or words k 0

-- whether a number is in a set with 64 to a word
abbrev pub has_number : List ℕ → ℕ → Bool
has_number words n = bit_at (word_at words (n / 64)) (n % 64) == 1

abbrev pub HasNumber : List ℕ → ℕ → Type 0
HasNumber words n = has_number words n ≡ true

abbrev pub IsIn : NumberSet → ℕ → Type 0
IsIn set n = HasNumber set.words.items n

-- whether something is read, or whether it is written
abbrev pub has_seen : SeenSet → Seen → Bool
has_seen set (Parameter i) = has_number set.parameters.words.items i
has_seen set (Variable r) = has_number set.variables.words.items r

abbrev pub HasSeen : SeenSet → Seen → Type 0
HasSeen set seen = has_seen set seen ≡ true

abbrev pub has : Row → UsageKind → Seen → Bool
has row Read seen = has_seen row.read seen
has row Write seen = has_seen row.written seen

abbrev pub HasUsage : Row → Usage → Type 0
HasUsage row u = has row u.kind u.target ≡ true

-- a set has more than before, exactly this
pub record Gains (X : Type 0) (Old New More : X → Type 0) : Type 0 where
  pub from : (x : X) → New x → Old x ⊎ More x
  pub keeps : (x : X) → Old x → New x
  pub adds : (x : X) → More x → New x

abbrev pub AddsNumbers : List ℕ → List ℕ → (ℕ → Type 0) → Type 0
AddsNumbers old new More = Gains ℕ (HasNumber old) (HasNumber new) More

abbrev pub SetAdds : NumberSet → NumberSet → (ℕ → Type 0) → Type 0
SetAdds old new More = AddsNumbers old.words.items new.words.items More

abbrev pub AddsSeen : SeenSet → SeenSet → (Seen → Type 0) → Type 0
AddsSeen old new More = Gains Seen (HasSeen old) (HasSeen new) More

abbrev pub Adds : Row → Row → (Usage → Type 0) → Type 0
Adds old new More = Gains Usage (HasUsage old) (HasUsage new) More

-- at least so many words, and the same numbers
pub record IsGrown (old : List ℕ) (count : ℕ) (new : List ℕ) : Type 0 where
  pub long : count ≤ length new
  pub same : (k : ℕ) → word_at new k ≡ word_at old k
