-- Rules: what a step tells of itself: the one access to shared memory, if it made one, and whether the lane came to wait or ended.
use Rattle.std.specs.Prelude.{ℕ, Bool, List, [], Option, Some, None}
use Rattle.shade_schedules.specs.System.{Works, Reads, Writes, Changes, Waits}
use Rattle.shade_values.specs.declared.types.Space.{Space}
use Rattle.shade_values.specs.declared.types.Space.TheVariants as space
use Rattle.shade_values.specs.declared.touch.Touch.{Touch}
use Rattle.shade_values.specs.declared.touch.TouchKind.{TouchKind}
use Rattle.shade_values.specs.declared.touch.TouchKind.TheVariants as kind
use Rattle.shade_spots.specs.Memory.{Memory, read, written}
use Rattle.shade_spots.specs.Roots.{space_of}
use Rattle.shade_spots.specs.Spots.{Piece}
use Rattle.shade_frames.specs.Control.{is_over}
use Rattle.shade_frames.specs.Frames.{Setting}
use Rattle.shade_frames.specs.Lane.{Lane, Site, Asked, request, after}

abbrev pub touch_of : Piece → TouchKind → Touch
touch_of p how = record { root = p.root; first = p.first; count = p.count; kind = how }

-- a read is told but where no lane can write
abbrev pub read_touch : Option Space → Piece → Option Touch
read_touch (Some space.Uniform) p = None
read_touch _ p = Some (touch_of p kind.Read)

-- The access of a step: all words from the first to the last of what it reads or writes, those between parts too. (What a uniform load reads
-- at a release is no access of a lane.)
abbrev pub touched : Setting → Asked → Option Touch
touched s Works = None
touched s (Reads p) = read_touch (space_of s.shader p.root) p
touched s (Writes p change) = Some (touch_of p kind.Write)
touched s (Changes p change) = Some (touch_of p kind.Atomic)
touched s (Waits site) = None

-- the words that a step reads
abbrev pub answered : Memory → Asked → List ℕ
answered memory Works = []
answered memory (Reads p) = read memory p
answered memory (Writes p change) = []
answered memory (Changes p change) = read memory p
answered memory (Waits site) = []

-- the memory after a step
abbrev pub stored : Memory → Asked → Memory
stored memory Works = memory
stored memory (Reads p) = memory
stored memory (Writes p change) = written memory p change
stored memory (Changes p change) = written memory p change
stored memory (Waits site) = memory

-- a lane after a step over a memory
abbrev pub stepped : Setting → Memory → Lane → Lane
stepped s memory lane = after s lane (answered memory (request s lane))

abbrev pub site_in : Asked → Option Site
site_in (Waits site) = Some site
site_in _ = None

-- what the lane comes to wait at by its next step
abbrev pub next_site : Setting → Lane → Option Site
next_site s lane = site_in (request s lane)

-- whether the lane has ended
abbrev pub has_ended : Lane → Bool
has_ended lane = is_over lane.place
