-- Rules: the lanes of a run as lanes that share memory, of which the laws of schedules are said.
use Rattle.std.specs.Prelude.{ℕ, ◌+◌, Bool, true, false, not, ◌==◌, ◌&&◌, List, [], ◌∷◌, Option, Some, None, slice_get}
use Rattle.shade_schedules.specs.System.{System}
use Rattle.shade_values.specs.declared.types.Space.{Space}
use Rattle.shade_values.specs.declared.types.Space.TheVariants as space
use Rattle.shade_words.specs.Words.{is_among}
use Rattle.shade_spots.specs.Changes.{Change}
use Rattle.shade_spots.specs.Memory.{Memory, words_of, read, written}
use Rattle.shade_spots.specs.Roots.{space_of}
use Rattle.shade_spots.specs.Spots.{Piece}
use Rattle.shade_frames.specs.Frames.{Setting}
use Rattle.shade_frames.specs.Lane.{Lane, Site, request, after, resumed}
use Rattle.shade_frames.specs.Events.{has_ended}

-- a word of a variable
pub record Address : Type 0 where
  pub root : ℕ
  pub word : ℕ

abbrev pub word_at : Memory → Address → Option ℕ
word_at memory a = slice_get (words_of memory a.root) a.word

abbrev pub covers : Piece → Address → Bool
covers p a = (p.root == a.root) && is_among p.first (p.count) a.word

-- how often barriers of each of two spaces were passed
pub record Epochs : Type 0 where
  pub workgroup : ℕ
  pub storage : ℕ

abbrev pub raised : Space → Epochs → Epochs
raised space.Workgroup e = record e { workgroup = e.workgroup + 1 }
raised space.Storage e = record e { storage = e.storage + 1 }
raised _ e = e

abbrev pub epoch_in : Option Space → Epochs → ℕ
epoch_in (Some space.Workgroup) e = e.workgroup
epoch_in (Some space.Storage) e = e.storage
epoch_in _ e = 0

abbrev pub is_uniform : Option Space → Bool
is_uniform (Some space.Uniform) = true
is_uniform _ = false

abbrev pub same_words : List ℕ → List ℕ → Bool
same_words [] [] = true
same_words (x ∷ xs) (y ∷ ys) = (x == y) && same_words xs ys
same_words _ _ = false

abbrev pub same_piece : Option Piece → Option Piece → Bool
same_piece None None = true
same_piece (Some p) (Some q) = (p.root == q.root) && ((p.first == q.first) && (p.count == q.count))
same_piece _ _ = false

abbrev pub same_space : Space → Space → Bool
same_space space.Function space.Function = true
same_space space.Private space.Private = true
same_space space.Workgroup space.Workgroup = true
same_space space.Uniform space.Uniform = true
same_space space.Storage space.Storage = true
same_space _ _ = false

-- Two waits are unlike where their instances differ, or what uniform loads read there. (The instance tells the statement, and so the space too.)
abbrev pub unlike_sites : Site → Site → Bool
unlike_sites a b =
    not (same_words a.instance b.instance && (same_piece a.piece b.piece
    && ((a.function == b.function) && ((a.number == b.number) && same_space a.space b.space))))

abbrev pub lanes_of : Setting → System
lanes_of s = record {
  State = Lane;
  Memory = Memory;
  Address = Address;
  Word = Option ℕ;
  Spot = Piece;
  Data = Change;
  Answer = List ℕ;
  Site = Site;
  Instance = List ℕ;
  Epochs = Epochs;
  does = request s;
  after = after s;
  is_over = has_ended;
  resumed = resumed s;
  word_at = word_at;
  covers = covers;
  read = read;
  written = written;
  nothing = [];
  is_fixed = λ p. is_uniform (space_of s.shader p.root);
  instance_of = λ site. site.instance;
  unlike_sites = unlike_sites;
  loaded = λ site. site.piece;
  raised = λ site e. raised site.space e;
  epoch_at = λ e a. epoch_in (space_of s.shader a.root) e;
}
