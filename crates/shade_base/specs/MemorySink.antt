use Rattle.std.specs.Prelude.{ℕ, ◌-◌, ◌≤◌, Bool, true, List, ◌++◌, length, take, min, nat_lt, is_some, unwrap_or, if◌then◌else◌, Option, ◌==◌, find, IsNone}
use Rattle.std.specs.Option.{option_map}
use Rattle.shade_base.specs.Counter.{one_more}

-- What a sink in memory holds, the room that it has, the numbers of the calls that fail with the bytes that they take,
-- how many calls there were, and how many of them failed.
pub record SinkState : Type 0 where
  pub bytes : List ℕ
  pub room : ℕ
  pub failing : List (ℕ × ℕ)
  pub calls : ℕ
  pub faults : ℕ

-- how many bytes the call of this number is to take before it fails; of entries for one call the first counts
abbrev pub failing_count : List (ℕ × ℕ) → ℕ → Option ℕ
failing_count failing call = option_map (λ entry. entry.1) (find (λ entry. entry.0 == call) failing)

-- the room that is left
abbrev pub free_of : SinkState → ℕ
free_of s = s.room - length s.bytes

-- how many bytes of a piece the next call takes
abbrev pub count_of : SinkState → List ℕ → ℕ
count_of s piece = min (min (unwrap_or (failing_count s.failing s.calls) (free_of s)) (free_of s)) (length piece)

-- the next call takes the whole piece and does not fail
abbrev pub TakesAll : SinkState → List ℕ → Type 0
TakesAll s piece = IsNone (failing_count s.failing s.calls) × (length piece ≤ free_of s)

-- the next call fails: it is to, or the piece does not fit
abbrev pub fails_at : SinkState → List ℕ → Bool
fails_at s piece = if is_some (failing_count s.failing s.calls) then true else nat_lt (free_of s) (length piece)

-- the sink after the next call
abbrev pub after_write : SinkState → List ℕ → SinkState
after_write s piece =
    record {
      bytes = s.bytes ++ take (count_of s piece) piece;
      room = s.room;
      failing = s.failing;
      calls = one_more s.calls;
      faults = if fails_at s piece then one_more s.faults else s.faults;
    }
