-- What was written of an answer.
use Rattle.std.specs.Prelude.{◌≡◌, ℕ, ◌≤◌, List, length, take}
use Rattle.shade_base.specs.Counter.{one_more}
use Rattle.shade_base.specs.Sink.{with_piece}
use Rattle.shade_files.specs.Changes.{SinkChange}

-- a status, and the text that goes with it
pub record Answer : Type 0 where
  pub status : ℕ
  pub text : List ℕ

-- The text of an answer was written by one call: whole, and the status is that of the answer; or the write failed after a beginning of
-- the text, was counted as a fault, and the status is 6.
pub data IsWritten (answer : Answer) (sink : SinkChange) (status : ℕ) : Type 0 where
  whole : status ≡ answer.status → sink.taken' ≡ with_piece sink.taken answer.text → sink.faults' ≡ sink.faults → IsWritten answer sink status
  cut : (n : ℕ) → n ≤ length answer.text → status ≡ 6 → sink.taken' ≡ with_piece sink.taken (take n answer.text) → sink.faults' ≡ one_more sink.faults → IsWritten answer sink status
