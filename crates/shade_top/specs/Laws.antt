-- Laws of the answer and of calls.
use Rattle.std.specs.Prelude.{◌≡◌, ◌≢◌, ℕ, List, [], ◌∷◌, Option, Some}
use Rattle.shade_base.specs.declared.severity.Severity.TheVariants.{Error}
use Rattle.shade_base.specs.Counter.{Rose}
use Rattle.shade_base.specs.Sink.{with_piece}
use Rattle.shade_core.specs.declared.module.CoreModule.{CoreModule}
use Rattle.shade_verdict.specs.declared.violation.Violation.{Violation}
use Rattle.shade_verdict.specs.Violations.{AreViolations}
use Rattle.shade_report.specs.CheckReport.{count_of}
use Rattle.shade_job.specs.Steps.{States}
use Rattle.shade_orders.specs.Orders.{Agrees, HasEnded}
use Rattle.shade_files.specs.Changes.{ShelfChange, SinkChange}
use Rattle.shade_files.specs.Writes.{Answer}
use Rattle.shade_top.specs.Answer.{IsAnswer, NoJob, Runs, lanes_of, outcome, verdict}
use Rattle.shade_top.specs.Answer.{ran as machine_after}
use Rattle.shade_top.specs.Causes.{IsExact, JobRead, Refuses, ShaderRead}
use Rattle.shade_top.specs.Request.{Request, Check, Run, request_of}
use Rattle.shade_top.specs.Serves.{Serves}
use Rattle.shade_top.specs.Text.{IsModuleOf}

-- The answer is a function of the words and of what was read.
abbrev pub OneAnswer : Type 0
OneAnswer = (words : List (List ℕ)) (reads : List (Option (List ℕ))) (one other : Answer) → IsAnswer words reads one → IsAnswer words reads other → one ≡ other

-- Each status of an answer comes exactly where its cause holds.
abbrev pub ExactStatuses : Type 0
ExactStatuses = (words : List (List ℕ)) (reads : List (Option (List ℕ))) (answer : Answer) → IsAnswer words reads answer → IsExact words reads answer

-- The answer to a request in whose way nothing stands: the verdict on the module that the shader stands for; or, of a run whose shader has no
-- error, the outcome of the steps that its job states.
pub data IsDue : Request → List (Option (List ℕ)) → Answer → Type 0 where
  judged : {file bytes : List ℕ} {shader : CoreModule} {violations : List Violation} → IsModuleOf bytes shader → AreViolations shader.functions violations → IsDue (Check file) (Some bytes ∷ []) (verdict shader.functions violations)
  rejected : {file job bytes : List ℕ} {shader : CoreModule} {violations : List Violation} → IsModuleOf bytes shader → AreViolations shader.functions violations → count_of Error violations ≢ 0
      → IsDue (Run file job) (Some bytes ∷ []) (verdict shader.functions violations)
  ran : {file job bytes lines steps : List ℕ} {shader : CoreModule} → Runs bytes shader → States (lanes_of shader) lines steps → IsDue (Run file job) (Some bytes ∷ Some lines ∷ []) (outcome shader (machine_after shader steps))

-- The answer that is due was written whole, and the status is its own; or memory ran out and nothing was written.
pub data Completes (request : Request) (reads : List (Option (List ℕ))) (sink : SinkChange) (status : ℕ) : Type 0 where
  given : {answer : Answer} → IsDue request reads answer → status ≡ answer.status → sink.taken' ≡ with_piece sink.taken answer.text → Completes request reads sink status
  no_memory : status ≡ 7 → sink.taken' ≡ sink.taken → Completes request reads sink status

-- Where the words fit a form, no read failed and no write did, the shader's text is not refused and its job, if it is read, is one, a call gives
-- the answer that is due, or runs out of memory. So a check ends with 0, 1 or 7, and a run with 0, 1, 8, 9 or 7.
abbrev pub Completeness : Type 0
Completeness =
    (words : List (List ℕ)) (request : Request) (shelf : ShelfChange) (sink : SinkChange) (status : ℕ)
    → (call : Serves words shelf sink status)
    → request_of words ≡ Some request
    → shelf.failed' ≡ shelf.failed
    → (Rose sink.faults sink.faults' → ⊥)
    → (ShaderRead Refuses call.reads → ⊥)
    → (JobRead NoJob call.reads → ⊥)
    → Completes request call.reads sink status

-- Where the run of an accepted shader ended under some lane steps, it diverges under none, and all under which it ends release the same
-- instances in the same order and leave the same words.
abbrev pub JobsAgree : Type 0
JobsAgree = (bytes : List ℕ) (shader : CoreModule) (one other : List ℕ) → Runs bytes shader → HasEnded (machine_after shader one) → Agrees (machine_after shader one) (machine_after shader other)
