-- Each status of an answer comes exactly where its cause holds.
use Rattle.std.proofs.Common.{◌≡◌, ◌≢◌, ◌∙◌, refl, sym, subst, ap, ℕ, List, [], Option, None, Some}
use Rattle.shade_base.specs.declared.severity.Severity.TheVariants.{Error}
use Rattle.shade_core.specs.declared.module.CoreModule.{CoreModule}
use Rattle.shade_report.specs.CheckReport.{count_of}
use Rattle.shade_group.specs.Group.{all_ended}
use Rattle.shade_files.specs.Reads.{File}
use Rattle.shade_files.specs.Writes.{Answer}
use Rattle.shade_top.specs.Answer.{IsAnswer, no_form, answered, IsAnswerTo, check_unread, checked, run_unread, stopped, job_unread, run_, IsChecked, refused, judged, IsRan, no_job, job, NoJob, Runs, bad_words, ran, outcome, run_status, verdict, refusal}
use Rattle.shade_top.specs.Causes.{Rejects, Refuses, Finishes, Diverges, Spends, ShaderRead, JobRead, unread_file, Succeeds, IsExact}
use Rattle.shade_top.specs.Laws.{ExactStatuses}
use Rattle.shade_top.specs.Request.{Request, files, requested, request_of, files_of}
use Rattle.shade_top.proofs.CauseLaws.{not_three, errors_status, none_status, eight_diverged, one_cause, refused_cause, four_cause, five_cause, eight_cause, nine_cause, zero_cause, Fault}

none_some : {request : Request} (asked : Option Request) → asked ≡ None → asked ≡ Some request → ⊥
none_some asked none some = let clash : None ≡ Some _ = sym none ∙ some in cc

module _ (checks : (bytes : List ℕ) (a b : Answer) → IsChecked bytes a → IsChecked bytes b → a ≡ b) (one : (request : Request) (reads : List (Option (List ℕ))) (a b : Answer) → IsAnswerTo request reads a → IsAnswerTo request reads b → a ≡ b) where
  -- an answer whose status is known gives that of every answer
  same_as : {request : Request} {reads : List (Option (List ℕ))} {answer : Answer} (other : Answer) (wanted : ℕ) → IsAnswerTo request reads answer → IsAnswerTo request reads other → other.status ≡ wanted → answer.status ≡ wanted
  same_as {request = request} {reads = reads} {answer = answer} other wanted a b is = ap (λ (x : Answer). x.status) (one request reads answer other a b) ∙ is

  -- the verdict on a shader that runs, and on one that is rejected
  runs_checked : (bytes : List ℕ) (shader : CoreModule) (r : Runs bytes shader) → IsChecked bytes (verdict shader.functions r.violations)
  runs_checked bytes shader r = judged r.is r.are

  runs_zero : (bytes : List ℕ) (shader : CoreModule) (r : Runs bytes shader) → (verdict shader.functions r.violations).status ≡ 0
  runs_zero bytes shader r = none_status (count_of Error r.violations) r.no_errors

  rejects_checked : (bytes : List ℕ) (r : Rejects bytes) → IsChecked bytes (verdict r.shader.functions r.violations)
  rejects_checked bytes r = judged r.is r.are

  rejects_one : (bytes : List ℕ) (r : Rejects bytes) → (verdict r.shader.functions r.violations).status ≡ 1
  rejects_one bytes r = errors_status (count_of Error r.violations) r.errors

  not_zero : (status wanted : ℕ) → status ≡ wanted → wanted ≢ 0 → status ≢ 0
  not_zero status wanted is other e = other (sym is ∙ e)

  -- a shader that runs has no other verdict
  runs_not : (bytes : List ℕ) (shader : CoreModule) (a : Answer) → Runs bytes shader → IsChecked bytes a → a.status ≢ 0 → ⊥
  runs_not bytes shader a r c other = other (ap (λ (x : Answer). x.status) (checks bytes a (verdict shader.functions r.violations) c (runs_checked bytes shader r)) ∙ runs_zero bytes shader r)

  one_back : {request : Request} {reads : List (Option (List ℕ))} {answer : Answer} → IsAnswerTo request reads answer → ShaderRead Rejects reads → answer.status ≡ 1
  one_back check_unread h = absurd h
  one_back (checked {file = file} {bytes = bytes} c) h = same_as (verdict h.shader.functions h.violations) 1 (checked {file = file} c) (checked (rejects_checked bytes h)) (rejects_one bytes h)
  one_back run_unread h = absurd h
  one_back (stopped {file = file} {job = name} {bytes = bytes} c other) h =
      same_as (verdict h.shader.functions h.violations) 1 (stopped {file = file} {job = name} c other) (stopped (rejects_checked bytes h) (not_zero _ 1 (rejects_one bytes h) (λ e. cc))) (rejects_one bytes h)
  one_back (job_unread {bytes = bytes} {shader = shader} r) h = absurd (runs_not bytes shader _ r (rejects_checked bytes h) (not_zero _ 1 (rejects_one bytes h) (λ e. cc)))
  one_back (run_ {bytes = bytes} {shader = shader} r x) h = absurd (runs_not bytes shader _ r (rejects_checked bytes h) (not_zero _ 1 (rejects_one bytes h) (λ e. cc)))

  two_zero : ◌≡◌ {A = ℕ} 2 0 → ⊥
  two_zero e = cc

  two_back : {request : Request} {reads : List (Option (List ℕ))} {answer : Answer} → IsAnswerTo request reads answer → ShaderRead Refuses reads → answer.status ≡ 2
  two_back check_unread h = absurd h
  two_back (checked {file = file} c) h = same_as (refusal h.0) 2 (checked {file = file} c) (checked (refused h.0 h.1)) refl
  two_back run_unread h = absurd h
  two_back (stopped {file = file} {job = name} c other) h = same_as (refusal h.0) 2 (stopped {file = file} {job = name} c other) (stopped (refused h.0 h.1) two_zero) refl
  two_back (job_unread {bytes = bytes} {shader = shader} r) h = absurd (runs_not bytes shader (refusal h.0) r (refused h.0 h.1) two_zero)
  two_back (run_ {bytes = bytes} {shader = shader} r x) h = absurd (runs_not bytes shader (refusal h.0) r (refused h.0 h.1) two_zero)

  -- what holds of a job decides the status of its answer
  module _ (Holds : CoreModule → List ℕ → Type 0) (wanted : ℕ) (decides : (shader : CoreModule) (bytes : List ℕ) → Holds shader bytes → (a : Answer) × IsRan shader bytes a × (a.status ≡ wanted)) where
    job_back : {request : Request} {reads : List (Option (List ℕ))} {answer : Answer} → IsAnswerTo request reads answer → JobRead Holds reads → answer.status ≡ wanted
    job_back check_unread h = absurd h
    job_back (checked c) h = absurd h
    job_back run_unread h = absurd h
    job_back (stopped c other) h = absurd h
    job_back (job_unread r) h = absurd h
    job_back (run_ {file = file} {job = name} {steps = steps} r x) h =
        let found : (a : Answer) × IsRan h.0 steps a × (a.status ≡ wanted) = decides h.0 steps h.2 in
        same_as found.0 wanted (run_ {file = file} {job = name} r x) (run_ h.1 found.1) found.2

  four_decides : (shader : CoreModule) (bytes : List ℕ) → NoJob shader bytes → (a : Answer) × IsRan shader bytes a × (a.status ≡ 4)
  four_decides shader bytes none = (_, no_job none, refl)

  nine_decides : (shader : CoreModule) (bytes : List ℕ) → Spends shader bytes → (a : Answer) × IsRan shader bytes a × (a.status ≡ 9)
  nine_decides shader bytes h = (outcome shader (ran shader h.0), job h.1, ap run_status h.2)

  ends_decides : (shader : CoreModule) (bytes : List ℕ) → Finishes shader bytes → (a : Answer) × IsRan shader bytes a × (a.status ≡ 0)
  ends_decides shader bytes h = (outcome shader (ran shader h.0), job h.1, ap run_status h.2)

  eight_decides : (shader : CoreModule) (bytes : List ℕ) → Diverges shader bytes → (a : Answer) × IsRan shader bytes a × (a.status ≡ 8)
  eight_decides shader bytes h = (outcome shader (ran shader h.0), job h.1, eight_diverged (ran shader h.0).diverged (all_ended (ran shader h.0).members) h.2)

  zero_back : {request : Request} {reads : List (Option (List ℕ))} {answer : Answer} → IsAnswerTo request reads answer → Succeeds (Some request) reads → answer.status ≡ 0
  zero_back check_unread h = absurd h
  zero_back (checked {file = file} {bytes = bytes} c) h = same_as (verdict h.0.functions h.1.violations) 0 (checked {file = file} c) (checked (runs_checked bytes h.0 h.1)) (runs_zero bytes h.0 h.1)
  zero_back run_unread h = absurd h
  zero_back (stopped c other) h = absurd h
  zero_back (job_unread r) h = absurd h
  zero_back (run_ {file = file} {job = name} r x) h = job_back Finishes 0 ends_decides (run_ {file = file} {job = name} r x) h

  five_back : {request : Request} {reads : List (Option (List ℕ))} {answer : Answer} → IsAnswerTo request reads answer → unread_file (files request) reads ≢ None → answer.status ≡ 5
  five_back check_unread h = refl
  five_back (checked c) h = absurd (h refl)
  five_back run_unread h = refl
  five_back (stopped c other) h = absurd (h refl)
  five_back (job_unread r) h = refl
  five_back (run_ r x) h = absurd (h refl)

  some_file : (fs : List File) (reads : List (Option (List ℕ))) (answer : Answer) → Fault fs reads answer → unread_file fs reads ≢ None
  some_file fs reads answer f none = let clash : None ≡ Some f.file = sym none ∙ f.is in cc

  -- words that fit no form
  module _ (words : List (List ℕ)) (none : request_of words ≡ None) where
    no_success : Succeeds (request_of words) [] → ⊥
    no_success h = subst (λ (q : Option Request). Succeeds q []) none h

    no_file : unread_file (files_of words) [] ≡ None
    no_file = subst (λ (q : Option Request). unread_file (requested q) [] ≡ None) (sym none) refl

  bad_exact : (words : List (List ℕ)) (reads : List (Option (List ℕ))) → request_of words ≡ None → reads ≡ [] → IsExact words reads bad_words
  bad_exact words reads none empty = subst (λ (rs : List (Option (List ℕ))). IsExact words rs bad_words) (sym empty) (record {
    succeeds = ((λ e. cc), λ h. absurd (no_success words none h));
    rejected = ((λ e. cc), λ h. absurd h);
    refused = ((λ e. cc), λ h. absurd h);
    bad_words = ((λ e. none), λ h. refl);
    bad_job = ((λ e. cc), λ h. absurd h);
    unread = ((λ e. cc), λ h. absurd (h (no_file words none)));
    diverged = ((λ e. cc), λ h. absurd h);
    spent = ((λ e. cc), λ h. absurd h);
  })

  request_exact : (words : List (List ℕ)) (reads : List (Option (List ℕ))) (answer : Answer) (request : Request) → request_of words ≡ Some request → IsAnswerTo request reads answer → IsExact words reads answer
  request_exact words reads answer request asked a = record {
    succeeds = ((λ e. subst (λ (q : Option Request). Succeeds q reads) (sym asked) (zero_cause a e)), λ h. zero_back a (subst (λ (q : Option Request). Succeeds q reads) asked h));
    rejected = ((λ e. one_cause a e), λ h. one_back a h);
    refused = ((λ e. refused_cause a e), λ h. two_back a h);
    bad_words = ((λ e. absurd (not_three a e)), λ none. absurd (none_some (request_of words) none asked));
    bad_job = ((λ e. four_cause a e), λ h. job_back NoJob 4 four_decides a h);
    unread = ((λ e. subst (λ (q : Option Request). unread_file (requested q) reads ≢ None) (sym asked) (some_file (files request) reads answer (five_cause a e))), λ h. five_back a (subst (λ (q : Option Request). unread_file (requested q) reads ≢ None) asked h));
    diverged = ((λ e. eight_cause a e), λ h. job_back Diverges 8 eight_decides a h);
    spent = ((λ e. nine_cause a e), λ h. job_back Spends 9 nine_decides a h);
  }

  exact_by : {words : List (List ℕ)} {reads : List (Option (List ℕ))} {answer : Answer} → IsAnswer words reads answer → IsExact words reads answer
  exact_by {words = words} {reads = reads} (no_form none empty) = bad_exact words reads none empty
  exact_by {words = words} {reads = reads} (answered {request = request} {answer = answer} asked a) = request_exact words reads answer request asked a

  pub exact_statuses : ExactStatuses
  exact_statuses words reads answer a = exact_by a
