-- A law of jobs.
use Rattle.std.specs.Prelude.{◌≡◌, ℕ, ◌<◌, ◌^◌, List}
use Rattle.shade_job.specs.Steps.{States}

-- Some bytes state one list of steps at most, for a workgroup of fewer than 2^32 lanes.
abbrev pub OneJob : Type 0
OneJob = (lanes : ℕ) (bytes one other : List ℕ) → lanes < 2 ^ 32 → States lanes bytes one → States lanes bytes other → one ≡ other
