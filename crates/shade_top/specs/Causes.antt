-- Why a call ends as it does: what each status says of the words, of what was read and of what was written.
use Rattle.std.specs.Prelude.{◌≡◌, ◌≢◌, ◌↔◌, ◌⊎◌, ℕ, ◌<◌, List, [], ◌∷◌, Option, None, Some}
use Rattle.shade_base.specs.declared.severity.Severity.TheVariants.{Error}
use Rattle.shade_base.specs.Counter.{Rose}
use Rattle.shade_base.specs.Shelf.{faults_of}
use Rattle.shade_base.specs.Sink.{with_piece}
use Rattle.shade_core.specs.declared.module.CoreModule.{CoreModule}
use Rattle.shade_verdict.specs.declared.violation.Violation.{Violation}
use Rattle.shade_verdict.specs.Violations.{AreViolations}
use Rattle.shade_report.specs.declared.refusal.Refusal.{Refusal}
use Rattle.shade_report.specs.CheckReport.{count_of}
use Rattle.shade_report.specs.Refusals.{refusal_line}
use Rattle.shade_group.specs.declared.event.RunEnd.TheVariants as run_end
use Rattle.shade_group.specs.Group.{run_end_of}
use Rattle.shade_job.specs.Steps.{States}
use Rattle.shade_files.specs.Changes.{ShelfChange, SinkChange}
use Rattle.shade_files.specs.Reads.{File}
use Rattle.shade_files.specs.Writes.{Answer}
use Rattle.shade_top.specs.Answer.{NoJob, Runs, fault_read, lanes_of, ran}
use Rattle.shade_top.specs.Request.{Request, Check, Run, request_of, files_of}
use Rattle.shade_top.specs.Text.{IsModuleOf, IsRefused}

-- ---- causes

-- The text stands for a module with a violation that is an error.
pub record Rejects (bytes : List ℕ) : Type 0 where
  pub shader : CoreModule
  pub is : IsModuleOf bytes shader
  pub violations : List Violation
  pub are : AreViolations shader.functions violations
  pub errors : count_of Error violations ≢ 0

-- Some layer refuses the text.
abbrev pub Refuses : List ℕ → Type 0
Refuses bytes = (why : Refusal) × IsRefused bytes why

-- Some layer refuses the text, and its line was written.
pub record RefusesAloud (sink : SinkChange) (bytes : List ℕ) : Type 0 where
  pub why : Refusal
  pub is : IsRefused bytes why
  pub told : sink.taken' ≡ with_piece sink.taken (refusal_line why)

-- Every lane ended under the steps that the job states.
abbrev pub Finishes : CoreModule → List ℕ → Type 0
Finishes shader job = (steps : List ℕ) × States (lanes_of shader) job steps × (run_end_of (ran shader steps) ≡ run_end.Ended)

-- The machine diverged under them.
abbrev pub Diverges : CoreModule → List ℕ → Type 0
Diverges shader job = (steps : List ℕ) × States (lanes_of shader) job steps × ((ran shader steps).diverged ≢ None)

-- The machine still runs after them.
abbrev pub Spends : CoreModule → List ℕ → Type 0
Spends shader job = (steps : List ℕ) × States (lanes_of shader) job steps × (run_end_of (ran shader steps) ≡ run_end.Running)

-- ---- what was read

-- The shader was read, and of its bytes something holds.
abbrev pub ShaderRead : (List ℕ → Type 0) → List (Option (List ℕ)) → Type 0
ShaderRead Holds (Some bytes ∷ reads) = Holds bytes
ShaderRead Holds _ = ⊥

-- The shader runs, its job was read, and of the module and the bytes of the job something holds.
abbrev pub JobRead : (CoreModule → List ℕ → Type 0) → List (Option (List ℕ)) → Type 0
JobRead Holds (Some bytes ∷ Some job ∷ []) = (shader : CoreModule) × Runs bytes shader × Holds shader job
JobRead Holds _ = ⊥

-- the first file whose read failed
abbrev pub unread_file : List File → List (Option (List ℕ)) → Option File
unread_file (file ∷ files) (None ∷ reads) = Some file
unread_file (file ∷ files) (Some bytes ∷ reads) = unread_file files reads
unread_file _ _ = None

-- A read failed: the count of faults of the file's name rose, and the name was written.
pub record Unread (words : List (List ℕ)) (reads : List (Option (List ℕ))) (shelf : ShelfChange) (sink : SinkChange) : Type 0 where
  pub file : File
  pub is : unread_file (files_of words) reads ≡ Some file
  pub rose : faults_of file.name shelf.failed < faults_of file.name shelf.failed'
  pub told : sink.taken' ≡ with_piece sink.taken (fault_read file.name).text

-- A check accepts the shader; a run of it ends.
abbrev pub Succeeds : Option Request → List (Option (List ℕ)) → Type 0
Succeeds None reads = ⊥
Succeeds (Some (Check file)) reads = ShaderRead (λ bytes. (shader : CoreModule) × Runs bytes shader) reads
Succeeds (Some (Run file job)) reads = JobRead Finishes reads

-- ---- statuses

-- The status of a call has its cause. A shader that runs today never diverges, so 8 has none.
pub record HasCause (words : List (List ℕ)) (reads : List (Option (List ℕ))) (shelf : ShelfChange) (sink : SinkChange) (status : ℕ) : Type 0 where
  pub rejected : status ≡ 1 → ShaderRead Rejects reads
  pub refused : status ≡ 2 → ShaderRead (RefusesAloud sink) reads
  pub bad_words : status ≡ 3 → request_of words ≡ None
  pub no_form : request_of words ≡ None → (status ≡ 3) ⊎ (status ≡ 6)
  pub bad_job : status ≡ 4 → JobRead NoJob reads
  pub unread : status ≡ 5 → Unread words reads shelf sink
  pub unwritten : status ≡ 6 → Rose sink.faults sink.faults'
  pub converges : status ≢ 8
  pub spent : status ≡ 9 → JobRead Spends reads

-- The status of an answer comes exactly where its cause holds.
pub record IsExact (words : List (List ℕ)) (reads : List (Option (List ℕ))) (answer : Answer) : Type 0 where
  pub succeeds : (answer.status ≡ 0) ↔ Succeeds (request_of words) reads
  pub rejected : (answer.status ≡ 1) ↔ ShaderRead Rejects reads
  pub refused : (answer.status ≡ 2) ↔ ShaderRead Refuses reads
  pub bad_words : (answer.status ≡ 3) ↔ (request_of words ≡ None)
  pub bad_job : (answer.status ≡ 4) ↔ JobRead NoJob reads
  pub unread : (answer.status ≡ 5) ↔ (unread_file (files_of words) reads ≢ None)
  pub diverged : (answer.status ≡ 8) ↔ JobRead Diverges reads
  pub spent : (answer.status ≡ 9) ↔ JobRead Spends reads
