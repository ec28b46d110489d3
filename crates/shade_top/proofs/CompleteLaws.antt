-- Words that fit a form are answered.
use Rattle.std.proofs.Common.{◌≡◌, ◌≢◌, ◌<◌, ◌∙◌, refl, sym, ap, subst, ℕ, List, [], ◌∷◌, Option, None, Some, arith}
use Rattle.shade_base.specs.declared.severity.Severity.TheVariants.{Error}
use Rattle.shade_base.specs.Counter.{Rose}
use Rattle.shade_base.specs.Shelf.{faults_of}
use Rattle.shade_core.specs.declared.module.CoreModule.{CoreModule}
use Rattle.shade_report.specs.CheckReport.{count_of}
use Rattle.shade_files.specs.Changes.{ShelfChange, SinkChange}
use Rattle.shade_files.specs.Writes.{Answer, whole, cut}
use Rattle.shade_top.specs.Answer.{IsAnswer, no_form, answered, IsAnswerTo, check_unread, checked, run_unread, stopped, job_unread, run_, IsChecked, refused, IsRan, no_job, job, NoJob, Runs}
use Rattle.shade_top.specs.Answer.{judged as judged_}
use Rattle.shade_top.specs.Causes.{HasCause, JobRead, Refuses, ShaderRead, Unread}
use Rattle.shade_top.specs.Laws.{IsDue, judged, rejected, ran, Completes, given, no_memory, Completeness}
use Rattle.shade_top.specs.Request.{Request, Check, Run, request_of}
use Rattle.shade_top.specs.Serves.{Ends, written}
use Rattle.shade_top.specs.Serves.{no_memory as no_memory_}
use Rattle.shade_top.proofs.CauseLaws.{none_status}

-- a check of a text that is not refused
check_due : {file bytes : List ℕ} {answer : Answer} → (Refuses bytes → ⊥) → IsChecked bytes answer → IsDue (Check file) (Some bytes ∷ []) answer
check_due not_refused (refused why h) = absurd (not_refused (why, h))
check_due not_refused (judged_ is are) = judged is are

-- a check that stops a run of such a text
stop_due : {file job bytes : List ℕ} {answer : Answer} → (Refuses bytes → ⊥) → IsChecked bytes answer → answer.status ≢ 0 → IsDue (Run file job) (Some bytes ∷ []) answer
stop_due not_refused (refused why h) other = absurd (not_refused (why, h))
stop_due not_refused (judged_ {violations = violations} is are) other = rejected is are (λ none. other (none_status (count_of Error violations) none))

-- a run by a job that is one
run_due : {file job bytes lines : List ℕ} {shader : CoreModule} {answer : Answer} → Runs bytes shader → (NoJob shader lines → ⊥) → IsRan shader lines answer → IsDue (Run file job) (Some bytes ∷ Some lines ∷ []) answer
run_due runs a_job (no_job none) = absurd (a_job none)
run_due runs a_job (job states) = ran runs states

due : {request : Request} {reads : List (Option (List ℕ))} {answer : Answer} → (ShaderRead Refuses reads → ⊥) → (JobRead NoJob reads → ⊥) → answer.status ≢ 5 → IsAnswerTo request reads answer → IsDue request reads answer
due not_refused a_job not_five check_unread = absurd (not_five refl)
due not_refused a_job not_five (checked c) = check_due not_refused c
due not_refused a_job not_five run_unread = absurd (not_five refl)
due not_refused a_job not_five (stopped c other) = stop_due not_refused c other
due not_refused a_job not_five (job_unread runs) = absurd (not_five refl)
due not_refused a_job not_five (run_ {shader = shader} runs r) = run_due runs (λ none. a_job (shader, runs, none)) r

-- what is asked of a call
record Premises (words : List (List ℕ)) (reads : List (Option (List ℕ))) (shelf : ShelfChange) (sink : SinkChange) (request : Request) : Type 0 where
  asked : request_of words ≡ Some request
  no_fault : shelf.failed' ≡ shelf.failed
  no_rise : Rose sink.faults sink.faults' → ⊥
  not_refused : ShaderRead Refuses reads → ⊥
  a_job : JobRead NoJob reads → ⊥

module _ (words : List (List ℕ)) (reads : List (Option (List ℕ))) (shelf : ShelfChange) (sink : SinkChange) (status : ℕ) (cause : HasCause words reads shelf sink status) (request : Request) (p : Premises words reads shelf sink request) where
  no_unread : Unread words reads shelf sink → ⊥
  no_unread u = let rose : faults_of u.file.name shelf.failed < faults_of u.file.name shelf.failed' = u.rose in omega (arith, ap (faults_of u.file.name) p.no_fault)

  none_some : request_of words ≡ None → ⊥
  none_some none = let two : None ≡ Some request = sym none ∙ p.asked in cc

  same_request : (other : Request) → request_of words ≡ Some other → other ≡ request
  same_request other is = let two : Some other ≡ Some request = sym is ∙ p.asked in cc

  answer_due : (answer : Answer) → status ≡ answer.status → IsAnswer words reads answer → IsDue request reads answer
  answer_due answer is (no_form none empty) = absurd (none_some none)
  answer_due answer is (answered {request = other} asked a) =
      subst (λ (q : Request). IsDue q reads answer) (same_request other asked) (due p.not_refused p.a_job (λ five. no_unread (cause.unread (is ∙ five))) a)

  by_end : Ends words reads sink status → Completes request reads sink status
  by_end (written {answer = answer} a (whole is told same)) = given (answer_due answer is a) is told
  by_end (written a (cut n short six told rose)) = absurd (p.no_rise (cause.unwritten six))
  by_end (no_memory_ other may seven told same) = no_memory seven told

pub completeness : Completeness
completeness words request shelf sink status call asked no_fault none not_refused a_job =
    by_end words call.reads shelf sink status call.cause request (record { asked = asked; no_fault = no_fault; no_rise = none; not_refused = not_refused; a_job = a_job }) call.ends
