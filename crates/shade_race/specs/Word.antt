-- The race that is recorded of a word, and what is kept of the word's accesses to find it.
use Rattle.std.specs.Prelude.{◌≡◌, ℕ, ◌<◌, ◌≤◌, Bool, true, false, not, ◌&&◌, ◌==◌, nat_lt, List, [], ◌∷◌, Option, None, Some, if◌then◌else◌}
use Rattle.shade_values.specs.declared.touch.TouchKind.{TouchKind}
use Rattle.shade_values.specs.declared.touch.TouchKind.TheVariants.{Read, Write, Atomic}
use Rattle.shade_race.specs.declared.access.LaneAccess.{LaneAccess}
use Rattle.shade_race.specs.declared.access.RacingPair.{RacingPair}
use Rattle.shade_race.specs.declared.cells.Firsts.{Firsts}
use Rattle.shade_race.specs.declared.cells.Cells.{Cells}

-- ---- the definition

-- An access to a word in an epoch of its space. The accesses of a word stand with the last one first.
pub record Mark : Type 0 where
  pub act : LaneAccess
  pub epoch : ℕ

abbrev pub same_kind : TouchKind → TouchKind → Bool
same_kind Read Read = true
same_kind Write Write = true
same_kind Atomic Atomic = true
same_kind _ _ = false

-- not both only read, nor both are atomic
abbrev pub collide : TouchKind → TouchKind → Bool
collide Read Read = false
collide Atomic Atomic = false
collide _ _ = true

-- two accesses of one word race
abbrev pub races : Mark → Mark → Bool
races m n = not (n.act.lane == m.act.lane) && ((n.epoch == m.epoch) && collide n.act.kind m.act.kind)

abbrev pub or_else : {A : Type 0} → Option A → Option A → Option A
or_else (Some x) other = Some x
or_else None other = other

abbrev pub when : Bool → LaneAccess → Option LaneAccess
when true x = Some x
when false x = None

-- the first of the accesses that are so
abbrev pub first_of : (Mark → Bool) → List Mark → Option LaneAccess
first_of p [] = None
first_of p (m ∷ past) = or_else (first_of p past) (when (p m) m.act)

abbrev pub pair : Option LaneAccess → LaneAccess → Option RacingPair
pair None second = None
pair (Some x) second = Some (record { first = x; second = second })

-- The recorded race: of the pairs that race the one whose second access comes first, and of those the one whose first does.
abbrev pub race_of : List Mark → Option RacingPair
race_of [] = None
race_of (m ∷ past) = or_else (race_of past) (pair (first_of (races m) past) m.act)

-- the epoch of the last access
abbrev pub last_epoch : List Mark → ℕ
last_epoch [] = 0
last_epoch (m ∷ past) = m.epoch

abbrev pub is_of : ℕ → TouchKind → Mark → Bool
is_of e k m = (m.epoch == e) && same_kind m.act.kind k

abbrev pub is_other : ℕ → TouchKind → ℕ → Mark → Bool
is_other e k lane m = is_of e k m && not (m.act.lane == lane)

abbrev pub other_than : ℕ → TouchKind → Option LaneAccess → List Mark → Option LaneAccess
other_than e k None past = None
other_than e k (Some x) past = first_of (is_other e k x.lane) past

-- of the accesses of a kind in an epoch the first, and the first by another lane
abbrev pub firsts_of : ℕ → TouchKind → List Mark → Firsts
firsts_of e k past = record { first = first_of (is_of e k) past; other = other_than e k (first_of (is_of e k) past) past }

abbrev pub cells_in : ℕ → List Mark → Cells
cells_in e past = record { race = race_of past; epoch = e; reads = firsts_of e Read past; writes = firsts_of e Write past; atomics = firsts_of e Atomic past }

-- the cells of a word, as its accesses give them
abbrev pub cells_of : List Mark → Cells
cells_of past = cells_in (last_epoch past) past

-- ---- how they change

abbrev pub pick_from : Option LaneAccess → Option LaneAccess → LaneAccess → Option LaneAccess
pick_from None other a = None
pick_from (Some x) other a = if x.lane == a.lane then other else Some x

abbrev pub pick : LaneAccess → Firsts → Option LaneAccess
pick a f = pick_from f.first f.other a

abbrev pub earlier : Option LaneAccess → Option LaneAccess → Option LaneAccess
earlier None other = other
earlier (Some x) None = Some x
earlier (Some x) (Some y) = if nat_lt x.step y.step then Some x else Some y

abbrev pub rival_by : TouchKind → LaneAccess → Cells → Option LaneAccess
rival_by Read a c = earlier (pick a c.writes) (pick a c.atomics)
rival_by Write a c = earlier (pick a c.reads) (earlier (pick a c.writes) (pick a c.atomics))
rival_by Atomic a c = earlier (pick a c.reads) (pick a c.writes)

-- the first of the accesses kept with which one races
abbrev pub rival : LaneAccess → Cells → Option LaneAccess
rival a c = rival_by a.kind a c

abbrev pub noted_by : Option LaneAccess → Option LaneAccess → LaneAccess → Firsts
noted_by None other a = record { first = Some a; other = None }
noted_by (Some x) other a = record { first = Some x; other = if x.lane == a.lane then other else or_else other (Some a) }

abbrev pub noted_first : LaneAccess → Firsts → Firsts
noted_first a f = noted_by f.first f.other a

-- nothing of an older epoch
abbrev pub fresh : ℕ → Cells → Cells
fresh e c = if c.epoch == e then c else record { race = c.race; epoch = e; reads = record { first = None; other = None }; writes = record { first = None; other = None }; atomics = record { first = None; other = None } }

abbrev pub kept_by : TouchKind → LaneAccess → Cells → Cells
kept_by Read a c = record c { reads = noted_first a c.reads }
kept_by Write a c = record c { writes = noted_first a c.writes }
kept_by Atomic a c = record c { atomics = noted_first a c.atomics }

abbrev pub kept : LaneAccess → Cells → Cells
kept a c = kept_by a.kind a c

abbrev pub raced : LaneAccess → Cells → Option RacingPair
raced a c = or_else c.race (pair (rival a c) a)

-- the cells with an access in an epoch
abbrev pub noted : ℕ → LaneAccess → Cells → Cells
noted e a c = record (kept a (fresh e c)) { race = raced a (fresh e c) }

-- ---- the law of a word

abbrev pub AllMarks : (Mark → Type 0) → List Mark → Type 0
AllMarks P [] = Unit {0}
AllMarks P (m ∷ past) = P m × AllMarks P past

-- steps rise from one access to the next, and epochs do not fall
abbrev pub IsPast : List Mark → Type 0
IsPast [] = Unit {0}
IsPast (m ∷ past) = AllMarks (λ n. (n.act.step < m.act.step) × (n.epoch ≤ m.epoch)) past × IsPast past

-- Where steps rise and epochs do not fall, the cells of a word after one more access are those before with that access noted.
abbrev pub CellsFollow : Type 0
CellsFollow = (m : Mark) (past : List Mark) → IsPast (m ∷ past) → noted m.epoch m.act (cells_of past) ≡ cells_of (m ∷ past)

-- Six cells suffice: the first access of a word with which an access races is the least of those that are kept.
abbrev pub SixSuffice : Type 0
SixSuffice = (m : Mark) (past : List Mark) → IsPast (m ∷ past) → rival m.act (fresh m.epoch (cells_of past)) ≡ first_of (races m) past

-- In the present epoch of its space, a word's cells with nothing of an older epoch are the firsts of that epoch.
abbrev pub PresentTells : Type 0
PresentTells = (e : ℕ) (past : List Mark) → IsPast past → last_epoch past ≤ e → fresh e (cells_of past) ≡ cells_in e past
