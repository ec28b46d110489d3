-- Memory as words by root, pieces of it, and barriers of two spaces.
use Rattle.std.specs.Prelude.{ℕ, zero, suc, ◌+◌, Bool, true, false, not, ◌&&◌, ◌==◌, nat_lt, nat_le, List, [], ◌∷◌, Option, None, Some, take, drop, slice_get, slice_set}
use Rattle.shade_schedules.specs.System.{Request, System}

pub data Space : Type 0 where
  Workgroup : Space
  Storage : Space
  Uniform : Space

-- so many words of a root, from one on
pub record Spot : Type 0 where
  pub root : ℕ
  pub first : ℕ
  pub count : ℕ

-- What a lane waits at: the space of the barrier, the instance, and the piece that is read at the release, if one is.
pub record Site : Type 0 where
  pub space : Space
  pub instance : List ℕ
  pub spot : Option Spot

pub record Epochs : Type 0 where
  pub workgroup : ℕ
  pub storage : ℕ

-- a word of a root
pub record Address : Type 0 where
  pub root : ℕ
  pub word : ℕ

abbrev pub words_by : Option (List ℕ) → List ℕ
words_by None = []
words_by (Some words) = words

-- the words of a root
abbrev pub words_of : List (List ℕ) → ℕ → List ℕ
words_of memory root = words_by (slice_get memory root)

abbrev pub word_at : List (List ℕ) → Address → Option ℕ
word_at memory a = slice_get (words_of memory a.root) a.word

abbrev pub covers : Spot → Address → Bool
covers s a = (s.root == a.root) && (nat_le s.first a.word && nat_lt a.word (s.first + s.count))

abbrev pub read : List (List ℕ) → Spot → List ℕ
read memory s = take s.count (drop s.first (words_of memory s.root))

abbrev pub over : Option ℕ → ℕ → ℕ
over None word = word
over (Some new) word = new

-- words with new ones from a place on; where there is no new one, as in padding, the word stays
abbrev pub put : ℕ → List (Option ℕ) → List ℕ → List ℕ
put n new [] = []
put (suc n) new (word ∷ words) = word ∷ put n new words
put zero [] (word ∷ words) = word ∷ words
put zero (one ∷ new) (word ∷ words) = over one word ∷ put zero new words

abbrev pub written : List (List ℕ) → Spot → List (Option ℕ) → List (List ℕ)
written memory s new = slice_set memory s.root (put s.first (take s.count new) (words_of memory s.root))

-- ---- barriers

abbrev pub same_space : Space → Space → Bool
same_space Workgroup Workgroup = true
same_space Storage Storage = true
same_space Uniform Uniform = true
same_space _ _ = false

abbrev pub same_words : List ℕ → List ℕ → Bool
same_words [] [] = true
same_words [] (y ∷ ys) = false
same_words (x ∷ xs) [] = false
same_words (x ∷ xs) (y ∷ ys) = (x == y) && same_words xs ys

abbrev pub same_spot : Option Spot → Option Spot → Bool
same_spot None None = true
same_spot None (Some t) = false
same_spot (Some s) None = false
same_spot (Some s) (Some t) = (s.root == t.root) && ((s.first == t.first) && (s.count == t.count))

-- two waits at different instances, or for different pieces
abbrev pub unlike_sites : Site → Site → Bool
unlike_sites a b = not (same_space a.space b.space && (same_words a.instance b.instance && same_spot a.spot b.spot))

-- with a barrier of a space passed once more
abbrev pub raised : Space → Epochs → Epochs
raised Workgroup e = record { workgroup = e.workgroup + 1; storage = e.storage }
raised Storage e = record { workgroup = e.workgroup; storage = e.storage + 1 }
raised Uniform e = e

abbrev pub epoch_in : Space → Epochs → ℕ
epoch_in Workgroup e = e.workgroup
epoch_in Storage e = e.storage
epoch_in Uniform e = 0

abbrev pub space_by : Option Space → Space
space_by None = Uniform
space_by (Some space) = space

-- the space of a root
abbrev pub space_of : List Space → ℕ → Space
space_of spaces root = space_by (slice_get spaces root)

-- Lanes of any kind over such memory: what a lane's next step asks, the lane after it, whether it is over, and the lane after a release.
-- Reads of uniform memory are not noted.
abbrev pub over_words :
    (State : Type 0)
    (does : State → Request Spot (List (Option ℕ)) Site)
    (after : State → List ℕ → State)
    (is_over : State → Bool)
    (resumed : Site → State → List ℕ → State)
    (spaces : List Space)
    → System
over_words State does after is_over resumed spaces = record {
  State = State;
  Memory = List (List ℕ);
  Address = Address;
  Word = Option ℕ;
  Spot = Spot;
  Data = List (Option ℕ);
  Answer = List ℕ;
  Site = Site;
  Instance = List ℕ;
  Epochs = Epochs;
  does = does;
  after = after;
  is_over = is_over;
  resumed = resumed;
  word_at = word_at;
  covers = covers;
  read = read;
  written = written;
  nothing = [];
  is_fixed = λ s. same_space (space_of spaces s.root) Uniform;
  instance_of = λ site. site.instance;
  unlike_sites = unlike_sites;
  loaded = λ site. site.spot;
  raised = λ site e. raised site.space e;
  epoch_at = λ e a. epoch_in (space_of spaces a.root) e;
}
