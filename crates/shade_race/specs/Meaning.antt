-- What the recorded races are, said of all pairs of accesses.
use Rattle.std.specs.Prelude.{◌≡◌, ◌⊎◌, ℕ, zero, suc, ◌<◌, ◌≤◌, true, false, List, [], ◌∷◌, None, Some}
use Rattle.shade_race.specs.declared.access.RacingPair.{RacingPair}
use Rattle.shade_race.specs.declared.access.Race.{Race}
use Rattle.shade_race.specs.Word.{Mark, collide, races, race_of, IsPast}
use Rattle.shade_race.specs.History.{Size, Event, Access, accesses, touches, act_of, Book, book_races, Stands}

pub data Among {A : Type 0} (item : A) : List A → Type 0 where
  here : {rest : List A} → Among item (item ∷ rest)
  there : {other : A} {rest : List A} → Among item rest → Among item (other ∷ rest)

-- ---- of a word's accesses

-- Two accesses that race, the first before the second, and no pair that races has a second of a lesser step, nor with that second a
-- first of a lesser step.
pub record IsLeast (past : List Mark) (f : RacingPair) : Type 0 where
  pub first : Mark
  pub second : Mark
  pub first_among : Among first past
  pub second_among : Among second past
  pub first_is : first.act ≡ f.first
  pub second_is : second.act ≡ f.second
  pub before : f.first.step < f.second.step
  pub race : races second first ≡ true
  pub least : (n m : Mark) → Among n past → Among m past → n.act.step < m.act.step → races m n ≡ true
      → (f.second.step < m.act.step) ⊎ ((f.second.step ≡ m.act.step) × (f.first.step ≤ n.act.step))

abbrev pub RecordIsLeast : Type 0
RecordIsLeast = (past : List Mark) (f : RacingPair) → IsPast past → race_of past ≡ Some f → IsLeast past f

abbrev pub NoRecordNoRace : Type 0
NoRecordNoRace = (past : List Mark) (n m : Mark) → IsPast past → race_of past ≡ None → Among n past → Among m past → n.act.step < m.act.step → races m n ≡ false

-- ---- of a history

-- Two accesses of a history race at a word of a root (WGSL, "Memory Model"): both touch it, by two lanes, in one epoch of its space, and they
-- do not both only read it, nor both by atomic steps.
pub record RaceAt (root word : ℕ) (x y : Access) : Type 0 where
  pub one : touches root word x.touch ≡ true
  pub other : touches root word y.touch ≡ true
  pub lanes : x.lane ≡ y.lane → ⊥
  pub epoch : x.epoch ≡ y.epoch
  pub kinds : collide x.touch.kind y.touch.kind ≡ true

-- Of all pairs that race at a word the one whose second access has the least step, and of those the one whose first has.
pub record IsRaceAt (root word : ℕ) (history : List Access) (f : RacingPair) : Type 0 where
  pub first : Access
  pub second : Access
  pub first_among : Among first history
  pub second_among : Among second history
  pub first_is : act_of first ≡ f.first
  pub second_is : act_of second ≡ f.second
  pub before : f.first.step < f.second.step
  pub race : RaceAt root word first second
  pub least : (x y : Access) → Among x history → Among y history → x.step < y.step → RaceAt root word x y
      → (f.second.step < y.step) ⊎ ((f.second.step ≡ y.step) × (f.first.step ≤ x.step))

-- how many words a root has, none where there is no such root
abbrev pub words_in : List Size → ℕ → ℕ
words_in [] n = 0
words_in (s ∷ sizes) zero = s.words
words_in (s ∷ sizes) (suc n) = words_in sizes n

-- by root, and then by word
abbrev pub Precedes : Race → Race → Type 0
Precedes x y = (x.root < y.root) ⊎ ((x.root ≡ y.root) × (x.word < y.word))

abbrev pub IsInOrder : List Race → Type 0
IsInOrder [] = Unit {0}
IsInOrder (x ∷ list) = ((y : Race) → Among y list → Precedes x y) × IsInOrder list

pub record HasRace (root word : ℕ) (list : List Race) : Type 0 where
  pub race : Race
  pub among : Among race list
  pub root_is : race.root ≡ root
  pub word_is : race.word ≡ word

-- A list has the races of a history: in order, of each word that any two accesses race at, and of no other, the one that comes first.
pub record AreRaces (sizes : List Size) (history : List Access) (list : List Race) : Type 0 where
  pub order : IsInOrder list
  pub all : (root word : ℕ) (x y : Access) → word < words_in sizes root → Among x history → Among y history → RaceAt root word x y → HasRace root word list
  pub within : (race : Race) → Among race list → race.word < words_in sizes race.root
  pub least : (race : Race) → Among race list → IsRaceAt race.root race.word history race.found

-- The races of a book that stands for a history are the history's.
abbrev pub RacesAreLeast : Type 0
RacesAreLeast = (sizes : List Size) (past : List Event) (book : Book) → Stands sizes past book → AreRaces sizes (accesses sizes past) (book_races book)
