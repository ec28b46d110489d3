-- What a request led to: the files that were read, and the answer to what they gave.
use Rattle.std.proofs.Common.{◌≡◌, ◌≢◌, refl, sym, subst, ℕ, zero, suc, ◌≤◌, ◌==◌, if◌then◌else◌, Bool, true, false, List, [], ◌∷◌, Option, None, Some, Vec, Global, arith}
use Rattle.std.specs.Prelude.{IfOk, IsErr, Result, Ok, Err}
use Rattle.std.specs.Option.{option_map}
use Rattle.std.proofs.lemmas.Bool.Decides.{nat_tests}
use Rattle.shade_base.specs.declared.severity.Severity.TheVariants.{Error}
use Rattle.shade_core.specs.declared.module.CoreModule.{CoreModule}
use Rattle.shade_report.specs.declared.refusal.Refusal.{Refusal}
use Rattle.shade_report.specs.CheckReport.{count_of}
use Rattle.shade_verdict.specs.declared.violation.Violation.{Violation}
use Rattle.shade_verdict.specs.Violations.{AreViolations}
use Rattle.shade_files.specs.Changes.{ShelfChange}
use Rattle.shade_files.specs.Reads.{File, AreReads}
use Rattle.shade_files.specs.Writes.{Answer}
use Rattle.shade_top.specs.Answer.{IsAnswerTo, check_unread, checked, run_unread, stopped, job_unread, run_, IsChecked, refused, judged, IsRan, nothing_read, shader_read, job_read, Runs, fault_read, refusal, verdict}
use Rattle.shade_top.specs.Report.{Outcome, RunOutcome, answer_of}
use Rattle.shade_top.specs.Request.{Request, Check, Run, files, shader_file, job_file}
use Rattle.shade_top.specs.Text.{IsModuleOf, IsRefused}
use Rattle.shade_top.specs.declared.report.Report.{Report}

-- ---- results

-- what holds of each report holds of a result that has it
if_ok : {T E : Type 0} {P Q : T → Type 0} → ((t : T) → P t → Q t) → (result : Result T E) → IfOk result P → IfOk result Q
if_ok turn (Ok t) p = turn t p
if_ok turn (Err e) p = tt

-- nothing is asked of a result that is an error
of_error : {T E : Type 0} (P : T → Type 0) (result : Result T E) → IsErr result → IfOk result P
of_error P (Ok t) is = absurd (cc)
of_error P (Err e) is = tt

-- ---- a text

-- a refusal is an answer
pub refused_checked : {E : Type 0} (result : Result Report E) (bytes : List ℕ) (why : Refusal) → IsRefused bytes why → IfOk result (λ report. answer_of report ≡ refusal why) → IfOk result (λ report. IsChecked bytes (answer_of report))
refused_checked result bytes why is = if_ok (λ report told. subst (IsChecked bytes) (sym told) (refused why is)) result

-- so is the verdict on the module that a text stands for
pub verdict_checked : {E : Type 0} (result : Result Report E) (bytes : List ℕ) (shader : CoreModule) (vs : List Violation) → IsModuleOf bytes shader → AreViolations shader.functions vs
    → IfOk result (λ report. answer_of report ≡ verdict shader.functions vs) → IfOk result (λ report. IsChecked bytes (answer_of report))
verdict_checked result bytes shader vs of are = if_ok (λ report told. subst (IsChecked bytes) (sym told) (judged of are)) result

-- ---- a run whose shader is read

module _ {E : Type 0} (result : Result Report E) (shelf : ShelfChange) (bytes job : List ℕ) where
  -- nothing more was read, and memory ran out
  pub run_stops : IsErr result → shelf.failed' ≡ shelf.failed → RunOutcome shelf bytes job result
  run_stops is same = record { reads = []; given = same; may = λ file. shader_read; answered = λ file. of_error _ result is }

  -- nothing more was read, and the answer is that of a check which does not accept the text
  stops_with : (wanted : Answer) → IsChecked bytes wanted → wanted.status ≢ 0 → shelf.failed' ≡ shelf.failed → IfOk result (λ report. answer_of report ≡ wanted) → RunOutcome shelf bytes job result
  stops_with wanted is other same told = record {
    reads = [];
    given = same;
    may = λ file. shader_read;
    answered = λ file. if_ok (λ report e. subst (IsAnswerTo (Run file job) (Some bytes ∷ [])) (sym e) (stopped is other)) result told;
  }

  pub run_refused : (why : Refusal) → IsRefused bytes why → shelf.failed' ≡ shelf.failed → IfOk result (λ report. answer_of report ≡ refusal why) → RunOutcome shelf bytes job result
  run_refused why is = stops_with (refusal why) (refused why is) (λ e. cc)

  pub run_rejected : (shader : CoreModule) (vs : List Violation) → 1 ≤ count_of Error vs → IsModuleOf bytes shader → AreViolations shader.functions vs → shelf.failed' ≡ shelf.failed → IfOk result (λ report. answer_of report ≡ verdict shader.functions vs) → RunOutcome shelf bytes job result
  run_rejected shader vs some of are = stops_with (verdict shader.functions vs) (judged of are) (not_zero (count_of Error vs) some) where
    by : (none : Bool) → none ≡ false → ◌≡◌ {A = ℕ} (if none then 0 else 1) 0 → ⊥
    by true off e = cc
    by false off e = cc

    not_zero : (count : ℕ) → 1 ≤ count → ◌≡◌ {A = ℕ} (if count == 0 then 0 else 1) 0 → ⊥
    not_zero count more = by (count == 0) (grind (arith, nat_tests))

  -- the job was read, or its read failed
  pub run_by_job : (shader : CoreModule) (steps : List ℕ) → Runs bytes shader → AreReads shelf.texts (job_file job ∷ []) (Some steps ∷ []) shelf.failed shelf.failed' → IfOk result (λ report. IsRan shader steps (answer_of report)) → RunOutcome shelf bytes job result
  run_by_job shader steps runs given ran = record {
    reads = Some steps ∷ [];
    given = given;
    may = λ file. job_read runs;
    answered = λ file. if_ok (λ report r. run_ runs r) result ran;
  }

  pub run_job_unread : (shader : CoreModule) → Runs bytes shader → AreReads shelf.texts (job_file job ∷ []) (None ∷ []) shelf.failed shelf.failed' → IfOk result (λ report. answer_of report ≡ fault_read job) → RunOutcome shelf bytes job result
  run_job_unread shader runs given told = record {
    reads = None ∷ [];
    given = given;
    may = λ file. job_read runs;
    answered = λ file. if_ok (λ report e. subst (IsAnswerTo (Run file job) (Some bytes ∷ None ∷ [])) (sym e) (job_unread runs)) result told;
  }

-- a module without an error runs
pub no_error_runs : (bytes : List ℕ) (shader : CoreModule) (vs : List Violation) → (1 ≤ count_of Error vs → ⊥) → IsModuleOf bytes shader → AreViolations shader.functions vs → Runs bytes shader
no_error_runs bytes shader vs none of are = record { is = of; violations = vs; are = are; no_errors = zero_ (count_of Error vs) none } where
  zero_ : (count : ℕ) → (1 ≤ count → ⊥) → count ≡ 0
  zero_ zero empty = refl
  zero_ (suc count) empty = absurd (empty (omega arith))

-- ---- a request

module _ {E : Type 0} (result : Result Report E) (texts : Option (List ℕ → Option (List ℕ))) (before now : List (List ℕ)) (request : Request) (file : List ℕ) where
  -- the shelf of the call
  abbrev Shelf : ShelfChange
  Shelf = record { texts = texts; failed = before; failed' = now }

  -- memory ran out at the first read
  pub nothing_outcome : IsErr result → now ≡ before → Outcome Shelf request result
  nothing_outcome is same = record { reads = []; given = none_read (files request); may = nothing_read; answered = of_error _ result is } where
    none_read : (fs : List File) → AreReads texts fs [] before now
    none_read [] = same
    none_read (f ∷ fs) = same

  pub check_outcome : request ≡ Check file → (bytes : List ℕ) → AreReads texts (shader_file file ∷ []) (Some bytes ∷ []) before now → IfOk result (λ report. IsChecked bytes (answer_of report)) → Outcome Shelf request result
  check_outcome asked bytes given is = subst (λ (q : Request). Outcome Shelf q result) (sym asked) (record { reads = Some bytes ∷ []; given = given; may = shader_read; answered = if_ok (λ report c. checked c) result is })

  pub check_unread_outcome : request ≡ Check file → AreReads texts (shader_file file ∷ []) (None ∷ []) before now → IfOk result (λ report. answer_of report ≡ fault_read file) → Outcome Shelf request result
  check_unread_outcome asked given told =
      subst (λ (q : Request). Outcome Shelf q result) (sym asked) (record { reads = None ∷ []; given = given; may = shader_read; answered = if_ok (λ report e. subst (IsAnswerTo (Check file) (None ∷ [])) (sym e) check_unread) result told })

  pub run_unread_outcome : (job : List ℕ) → request ≡ Run file job → AreReads texts (shader_file file ∷ []) (None ∷ []) before now → IfOk result (λ report. answer_of report ≡ fault_read file) → Outcome Shelf request result
  run_unread_outcome job asked given told =
      subst (λ (q : Request). Outcome Shelf q result) (sym asked) (record { reads = None ∷ []; given = given; may = shader_read; answered = if_ok (λ report e. subst (IsAnswerTo (Run file job) (None ∷ [])) (sym e) run_unread) result told })

  -- the shader was read, and then what a run reads
  pub run_outcome : (mid : List (List ℕ)) (job bytes : List ℕ) → request ≡ Run file job → AreReads texts (shader_file file ∷ []) (Some bytes ∷ []) before mid → RunOutcome (record { texts = texts; failed = mid; failed' = now }) bytes job result → Outcome Shelf request result
  run_outcome mid job bytes asked given o =
      subst (λ (q : Request). Outcome Shelf q result) (sym asked) (record { reads = Some bytes ∷ o.reads; given = (given.0, subst (λ names. AreReads texts (job_file job ∷ []) o.reads names now) given.1 o.given); may = o.may file; answered = o.answered file })

-- what a read gave, known
pub read_as : (texts : Option (List ℕ → Option (List ℕ))) (file : File) (before now : List (List ℕ)) (read wanted : Option (Vec ℕ Global)) → read ≡ wanted
    → AreReads texts (file ∷ []) (option_map (λ bytes. bytes.items) read ∷ []) before now → AreReads texts (file ∷ []) (option_map (λ bytes. bytes.items) wanted ∷ []) before now
read_as texts file before now read wanted is = subst (λ (r : Option (Vec ℕ Global)). AreReads texts (file ∷ []) (option_map (λ bytes. bytes.items) r ∷ []) before now) is
