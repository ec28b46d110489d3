-- What a book is told, what it is then, and which races it lists.
use Rattle.std.specs.Prelude.{◌≡◌, ℕ, zero, suc, ◌+◌, ◌<◌, Bool, true, false, ◌&&◌, ◌==◌, nat_lt, nat_le, List, [], ◌∷◌, ◌++◌, length, Option, None, Some, if◌then◌else◌}
use Rattle.shade_race.specs.declared.access.LaneAccess.{LaneAccess}
use Rattle.shade_race.specs.declared.access.RacingPair.{RacingPair}
use Rattle.shade_race.specs.declared.access.Race.{Race}
use Rattle.shade_values.specs.declared.touch.Touch.{Touch}
use Rattle.shade_values.specs.declared.types.Space.{Space}
use Rattle.shade_values.specs.declared.types.Space.TheVariants.{Function, Workgroup, Storage}
use Rattle.shade_race.specs.declared.cells.Cells.{Cells}
use Rattle.shade_race.specs.declared.epochs.Epochs.{Epochs}
use Rattle.shade_race.specs.Word.{Mark, race_of, cells_of, noted}

-- ---- the history

-- The space and the number of words of a root.
pub record Size : Type 0 where
  pub space : Space
  pub words : ℕ

abbrev pub sizes_of : List ℕ → List Space → List Size
sizes_of [] spaces = []
sizes_of (w ∷ words) [] = []
sizes_of (w ∷ words) (s ∷ spaces) = record { space = s; words = w } ∷ sizes_of words spaces

-- An access is noted, with its step and lane, or a barrier of a space is passed. The last event stands first.
pub data Event : Type 0 where
  Noted : (step lane : ℕ) → (touch : Touch) → Event
  Passed : (space : Space) → Event

abbrev pub epoch_in : Space → Epochs → ℕ
epoch_in Workgroup e = e.workgroup
epoch_in Storage e = e.storage
epoch_in _ e = 0

-- with a barrier of a space passed once more
abbrev pub raised : Space → Epochs → Epochs
raised Workgroup e = record e { workgroup = e.workgroup + 1 }
raised Storage e = record e { storage = e.storage + 1 }
raised _ e = e

-- the epochs that are reached
abbrev pub epochs_of : List Event → Epochs
epochs_of [] = record { workgroup = 0; storage = 0 }
epochs_of (Noted step lane touch ∷ past) = epochs_of past
epochs_of (Passed space ∷ past) = raised space (epochs_of past)

abbrev pub space_at : List Size → ℕ → Space
space_at [] n = Function
space_at (s ∷ sizes) zero = s.space
space_at (s ∷ sizes) (suc n) = space_at sizes n

-- An access of a history.
pub record Access : Type 0 where
  pub step : ℕ
  pub lane : ℕ
  pub touch : Touch
  pub epoch : ℕ

abbrev pub access_of : List Size → ℕ → ℕ → Touch → List Event → Access
access_of sizes step lane touch past = record { step = step; lane = lane; touch = touch; epoch = epoch_in (space_at sizes touch.root) (epochs_of past) }

-- the accesses, each in the epoch that the space of its root had reached
abbrev pub accesses : List Size → List Event → List Access
accesses sizes [] = []
accesses sizes (Noted step lane touch ∷ past) = access_of sizes step lane touch past ∷ accesses sizes past
accesses sizes (Passed space ∷ past) = accesses sizes past

abbrev pub AllAccesses : (Access → Type 0) → List Access → Type 0
AllAccesses P [] = Unit {0}
AllAccesses P (x ∷ xs) = P x × AllAccesses P xs

-- steps rise from one access to the next
abbrev pub IsStepped : List Access → Type 0
IsStepped [] = Unit {0}
IsStepped (x ∷ xs) = AllAccesses (λ y. y.step < x.step) xs × IsStepped xs

-- ---- what it says of a word

abbrev pub covers : ℕ → Touch → Bool
covers w t = nat_le t.first w && nat_lt w (t.first + t.count)

abbrev pub touches : ℕ → ℕ → Touch → Bool
touches r w t = (t.root == r) && covers w t

abbrev pub act_of : Access → LaneAccess
act_of x = record { step = x.step; lane = x.lane; kind = x.touch.kind }

abbrev pub mark_of : Access → Mark
mark_of x = record { act = act_of x; epoch = x.epoch }

abbrev pub mark_if : Bool → Mark → List Mark → List Mark
mark_if true m past = m ∷ past
mark_if false m past = past

-- the accesses of a word
abbrev pub marks_at : ℕ → ℕ → List Access → List Mark
marks_at r w [] = []
marks_at r w (x ∷ xs) = mark_if (touches r w x.touch) (mark_of x) (marks_at r w xs)

-- ---- the book of a history

pub record RootCells : Type 0 where
  pub space : Space
  pub cells : List Cells

pub record Book : Type 0 where
  pub roots : List RootCells
  pub epochs : Epochs

-- the cells of the words of a root from one on
abbrev pub row : List Access → ℕ → ℕ → ℕ → List Cells
row xs r w zero = []
row xs r w (suc n) = cells_of (marks_at r w xs) ∷ row xs r (suc w) n

abbrev pub roots_from : List Access → ℕ → List Size → List RootCells
roots_from xs r [] = []
roots_from xs r (s ∷ sizes) = record { space = s.space; cells = row xs r 0 s.words } ∷ roots_from xs (suc r) sizes

abbrev pub book_of : List Size → List Event → Book
book_of sizes past = record { roots = roots_from (accesses sizes past) 0 sizes; epochs = epochs_of past }

-- a book stands for a history
pub record Stands (sizes : List Size) (past : List Event) (book : Book) : Type 0 where
  pub steps : IsStepped (accesses sizes past)
  pub cells : book ≡ book_of sizes past

-- ---- its races

abbrev pub race_then : ℕ → ℕ → Option RacingPair → List Race → List Race
race_then r w None rest = rest
race_then r w (Some f) rest = record { root = r; word = w; found = f } ∷ rest

abbrev pub races_in : List Access → ℕ → ℕ → ℕ → List Race
races_in xs r w zero = []
races_in xs r w (suc n) = race_then r w (race_of (marks_at r w xs)) (races_in xs r (suc w) n)

abbrev pub races_from : List Access → ℕ → List Size → List Race
races_from xs r [] = []
races_from xs r (s ∷ sizes) = races_in xs r 0 s.words ++ races_from xs (suc r) sizes

-- the recorded race of each word that has one, by root and word
abbrev pub races_of : List Size → List Event → List Race
races_of sizes past = races_from (accesses sizes past) 0 sizes

-- ---- how a book changes

abbrev pub noted_words : (Cells → Cells) → Touch → ℕ → List Cells → List Cells
noted_words f t w [] = []
noted_words f t w (c ∷ cs) = (if covers w t then f c else c) ∷ noted_words f t (suc w) cs

abbrev pub noted_root : ℕ → LaneAccess → Touch → RootCells → RootCells
noted_root e a t root = record root { cells = noted_words (noted e a) t 0 root.cells }

abbrev pub changed : (RootCells → RootCells) → ℕ → List RootCells → List RootCells
changed f n [] = []
changed f zero (root ∷ roots) = f root ∷ roots
changed f (suc n) (root ∷ roots) = root ∷ changed f n roots

abbrev pub noted_book : ℕ → ℕ → Touch → Book → Book
noted_book step lane t b = record b { roots = changed (λ root. noted_root (epoch_in root.space b.epochs) (record { step = step; lane = lane; kind = t.kind }) t root) t.root b.roots }

abbrev pub passed_book : Space → Book → Book
passed_book space b = record b { epochs = raised space b.epochs }

abbrev pub word_races : ℕ → ℕ → List Cells → List Race
word_races r w [] = []
word_races r w (c ∷ cs) = race_then r w c.race (word_races r (suc w) cs)

abbrev pub root_races : ℕ → List RootCells → List Race
root_races r [] = []
root_races r (root ∷ roots) = word_races r 0 root.cells ++ root_races (suc r) roots

abbrev pub book_races : Book → List Race
book_races b = root_races 0 b.roots

abbrev pub words_at : ℕ → List RootCells → ℕ
words_at n [] = 0
words_at zero (root ∷ roots) = length root.cells
words_at (suc n) (root ∷ roots) = words_at n roots

-- ---- the laws

-- With an access noted whose step is above all before, a book that stood for a history stands for it with that access added.
abbrev pub NoteLeads : Type 0
NoteLeads = (sizes : List Size) (past : List Event) (book : Book) (step lane : ℕ) (touch : Touch) → Stands sizes past book
    → AllAccesses (λ y. y.step < step) (accesses sizes past) → Stands sizes (Noted step lane touch ∷ past) (noted_book step lane touch book)

abbrev pub BarrierLeads : Type 0
BarrierLeads = (sizes : List Size) (past : List Event) (book : Book) (space : Space) → Stands sizes past book → Stands sizes (Passed space ∷ past) (passed_book space book)

abbrev pub RacesTell : Type 0
RacesTell = (sizes : List Size) (past : List Event) (book : Book) → Stands sizes past book → book_races book ≡ races_of sizes past
