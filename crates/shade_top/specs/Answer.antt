-- What the program answers to its words: a status and a text.
use Rattle.std.specs.Prelude.{◌≡◌, ◌≢◌, ℕ, ◌==◌, List, [], ◌∷◌, ◌++◌, length, if◌then◌else◌, Option, None, Some, codes}
use Rattle.shade_base.specs.declared.severity.Severity.TheVariants.{Error}
use Rattle.shade_core.specs.declared.module.CoreModule.{CoreModule}
use Rattle.shade_core.specs.declared.module.CoreFunction.{CoreFunction}
use Rattle.shade_verdict.specs.declared.violation.Violation.{Violation}
use Rattle.shade_verdict.specs.Violations.{AreViolations}
use Rattle.shade_report.specs.declared.refusal.Refusal.{Refusal}
use Rattle.shade_report.specs.CheckReport.{count_of, check_report}
use Rattle.shade_report.specs.Refusals.{job_refusal_line, refusal_line}
use Rattle.shade_report.specs.RunReport.{run_report}
use Rattle.shade_mem.specs.declared.inputs.Inputs.{Inputs}
use Rattle.shade_group.specs.declared.event.RunEnd.{RunEnd}
use Rattle.shade_group.specs.declared.event.RunEnd.TheVariants as run_end
use Rattle.shade_group.specs.Group.{Machine, begin, run, run_end_of}
use Rattle.shade_job.specs.Steps.{States}
use Rattle.shade_files.specs.Writes.{Answer}
use Rattle.shade_top.specs.Request.{Request, Check, Run, request_of}
use Rattle.shade_top.specs.Text.{IsModuleOf, IsRefused}

abbrev pub bad_words : Answer
bad_words = record { status = 3; text = codes "bad words\n" }

abbrev pub fault_read : List ℕ → Answer
fault_read name = record { status = 5; text = (codes "fault read " ++ name) ++ codes "\n" }

-- ---- checks

abbrev pub refusal : Refusal → Answer
refusal why = record { status = 2; text = refusal_line why }

-- 1 where a violation is an error
abbrev pub verdict_status : List Violation → ℕ
verdict_status violations = if count_of Error violations == 0 then 0 else 1

abbrev pub verdict : List CoreFunction → List Violation → Answer
verdict functions violations = record { status = verdict_status violations; text = check_report functions violations }

-- The answer to a text: why it is refused, or the verdict on the module that it stands for.
pub data IsChecked (bytes : List ℕ) : Answer → Type 0 where
  refused : (why : Refusal) → IsRefused bytes why → IsChecked bytes (refusal why)
  judged : {checked : CoreModule} {violations : List Violation} → IsModuleOf bytes checked → AreViolations checked.functions violations → IsChecked bytes (verdict checked.functions violations)

-- ---- runs

-- A text that is run: it stands for this module, none of whose violations is an error.
pub record Runs (bytes : List ℕ) (shader : CoreModule) : Type 0 where
  pub is : IsModuleOf bytes shader
  pub violations : List Violation
  pub are : AreViolations shader.functions violations
  pub no_errors : count_of Error violations ≡ 0

-- what a run is handed: the first function is its entry, there is one workgroup, and there are no buffers
abbrev pub inputs : Inputs
inputs = record { entry = 0; groups = 1 ∷ 1 ∷ 1 ∷ []; group = 0 ∷ 0 ∷ 0 ∷ []; words = [] }

-- the number of lanes of a run
abbrev pub lanes_of : CoreModule → ℕ
lanes_of shader = length (begin shader inputs).members

-- the machine after a list of lane steps
abbrev pub ran : CoreModule → List ℕ → Machine
ran shader steps = run (begin shader inputs) steps

abbrev pub run_status : RunEnd → ℕ
run_status run_end.Ended = 0
run_status (run_end.Diverged one other) = 8
run_status run_end.Running = 9

-- the report of a run, with 0 where every lane ended, 8 where it diverged, and 9 where it still runs
abbrev pub outcome : CoreModule → Machine → Answer
outcome shader m = record { status = run_status (run_end_of m); text = run_report shader.functions m }

abbrev pub refused_job : Answer
refused_job = record { status = 4; text = job_refusal_line }

-- the bytes state no list of steps
abbrev pub NoJob : CoreModule → List ℕ → Type 0
NoJob shader bytes = (steps : List ℕ) → States (lanes_of shader) bytes steps → ⊥

-- The answer to a job: the outcome of the run that it states, or that it states none.
pub data IsRan (shader : CoreModule) (bytes : List ℕ) : Answer → Type 0 where
  no_job : NoJob shader bytes → IsRan shader bytes refused_job
  job : {steps : List ℕ} → States (lanes_of shader) bytes steps → IsRan shader bytes (outcome shader (ran shader steps))

-- ---- requests

-- The answer to a request, by what its reads gave, in order: the first bytes of a file, or nothing where the read failed. A job is read
-- only where a check of the shader gives 0.
pub data IsAnswerTo : Request → List (Option (List ℕ)) → Answer → Type 0 where
  check_unread : {file : List ℕ} → IsAnswerTo (Check file) (None ∷ []) (fault_read file)
  checked : {file bytes : List ℕ} {answer : Answer} → IsChecked bytes answer → IsAnswerTo (Check file) (Some bytes ∷ []) answer
  run_unread : {file job : List ℕ} → IsAnswerTo (Run file job) (None ∷ []) (fault_read file)
  stopped : {file job bytes : List ℕ} {answer : Answer} → IsChecked bytes answer → answer.status ≢ 0 → IsAnswerTo (Run file job) (Some bytes ∷ []) answer
  job_unread : {file job bytes : List ℕ} {shader : CoreModule} → Runs bytes shader → IsAnswerTo (Run file job) (Some bytes ∷ None ∷ []) (fault_read job)
  run_ : {file job bytes steps : List ℕ} {shader : CoreModule} {answer : Answer} → Runs bytes shader → IsRan shader steps answer → IsAnswerTo (Run file job) (Some bytes ∷ Some steps ∷ []) answer

-- The reads that a call for a request may have made where memory ran out: none, that of the shader, or those of the shader and of the job,
-- and the latter only where the shader runs.
pub data MayRead : Request → List (Option (List ℕ)) → Type 0 where
  nothing_read : {request : Request} → MayRead request []
  shader_read : {request : Request} {read : Option (List ℕ)} → MayRead request (read ∷ [])
  job_read : {file job bytes : List ℕ} {read : Option (List ℕ)} {shader : CoreModule} → Runs bytes shader → MayRead (Run file job) (Some bytes ∷ read ∷ [])

-- The answer to the words, by what the reads of the files that they name gave.
pub data IsAnswer (words : List (List ℕ)) (reads : List (Option (List ℕ))) : Answer → Type 0 where
  no_form : request_of words ≡ None → reads ≡ [] → IsAnswer words reads bad_words
  answered : {request : Request} {answer : Answer} → request_of words ≡ Some request → IsAnswerTo request reads answer → IsAnswer words reads answer
