-- What a call of the program's top call did: what it read, what it wrote, and why it ended as it did.
use Rattle.std.specs.Prelude.{◌≡◌, ℕ, List, Option, Some}
use Rattle.shade_files.specs.Changes.{ShelfChange, SinkChange}
use Rattle.shade_files.specs.Reads.{AreReads}
use Rattle.shade_files.specs.Writes.{Answer, IsWritten}
use Rattle.shade_top.specs.Answer.{IsAnswer, MayRead}
use Rattle.shade_top.specs.Causes.{HasCause}
use Rattle.shade_top.specs.Request.{Request, request_of, files_of}

-- The answer to the words and to what was read was written; or memory ran out on the way to the answer to words that fit a form,
-- nothing was written, and the status is 7.
pub data Ends (words : List (List ℕ)) (reads : List (Option (List ℕ))) (sink : SinkChange) (status : ℕ) : Type 0 where
  written : {answer : Answer} → IsAnswer words reads answer → IsWritten answer sink status → Ends words reads sink status
  no_memory : {request : Request} → request_of words ≡ Some request → MayRead request reads → status ≡ 7 → sink.taken' ≡ sink.taken → sink.faults' ≡ sink.faults → Ends words reads sink status

-- A call for these words read some of the files that they name and ended with this status, for its cause.
pub record Serves (words : List (List ℕ)) (shelf : ShelfChange) (sink : SinkChange) (status : ℕ) : Type 0 where
  pub reads : List (Option (List ℕ))
  pub given : AreReads shelf.texts (files_of words) reads shelf.failed shelf.failed'
  pub ends : Ends words reads sink status
  pub cause : HasCause words reads shelf sink status
