-- Why an answer has its status: each status has its cause.
use Rattle.std.proofs.Common.{◌≡◌, ◌≢◌, ◌<◌, ◌∙◌, refl, sym, subst, ap, ℕ, ◌+◌, ◌≤◌, ◌==◌, if◌then◌else◌, Bool, true, false, cond, List, [], ◌∷◌, ◌++◌, length, Option, None, Some, codes, arith}
use Rattle.std.specs.Prelude.{count_by}
use Rattle.std.specs.List.{flat_map}
use Rattle.std.specs.Fmt.{decimal}
use Rattle.std.specs.Str.{bytes_eq}
use Rattle.std.proofs.lemmas.Bool.Decides.{nat_tests}
use Rattle.std.proofs.lemmas.List.{length-append}
use Rattle.std.proofs.lemmas.List.Sums.{sum_by-append}
use Rattle.shade_base.specs.declared.place.Place.{Place}
use Rattle.shade_base.specs.declared.severity.Severity.TheVariants.{Error, Warning, Info}
use Rattle.shade_base.specs.Shelf.{faults_of}
use Rattle.shade_base.proofs.FaultLemmas.{faults_of-push}
use Rattle.shade_core.specs.declared.module.CoreModule.{CoreModule}
use Rattle.shade_report.specs.declared.refusal.Refusal.{Refusal}
use Rattle.shade_report.specs.declared.refusal.Refusal.TheVariants.{TooLong, Utf8, Lex, Unexpected, TooDeep, NotYet}
use Rattle.shade_report.specs.CheckReport.{count_of, counts_text, violation_text}
use Rattle.shade_report.specs.Refusals.{line_at, problem_name, refusal_line}
use Rattle.shade_report.specs.RunReport.{run_line, lane_lines, released_line, release_lines, end_word}
use Rattle.shade_group.specs.declared.event.RunEnd.{RunEnd}
use Rattle.shade_group.specs.declared.event.RunEnd.TheVariants as run_end
use Rattle.shade_group.specs.Group.{Machine, run_end_of, end_by, all_ended}
use Rattle.shade_files.specs.Reads.{File, AreReads}
use Rattle.shade_files.specs.Writes.{Answer}
use Rattle.shade_top.specs.Answer.{IsAnswer, no_form, answered, IsAnswerTo, check_unread, checked, run_unread, stopped, job_unread, run_, IsChecked, refused, judged, IsRan, no_job, job, NoJob, Runs, fault_read, ran, outcome, run_status}
use Rattle.shade_top.specs.Causes.{Rejects, Refuses, Finishes, Diverges, Spends, ShaderRead, JobRead, unread_file, Succeeds}
use Rattle.shade_top.specs.Request.{Request, files, shader_file, job_file}

pub clash : {A : Type 0} (status one other : ℕ) → status ≡ one → status ≡ other → one ≢ other → A
clash status one other is also apart = absurd (apart (sym is ∙ also))

-- ---- the statuses of answers, and that each answer has a text

pub data Known : ℕ → Type 0 where
  zero_ : Known 0
  one_ : Known 1
  two_ : Known 2
  three_ : Known 3
  four_ : Known 4
  five_ : Known 5
  eight_ : Known 8
  nine_ : Known 9

-- what a writer must know of an answer
pub record Fits (status : ℕ) (text : List ℕ) : Type 0 where
  pub some : 1 ≤ length text
  pub known : Known status

some_byte : (byte : ℕ) (bytes : List ℕ) → 1 ≤ length (byte ∷ bytes)
some_byte byte bytes = omega arith

verdict_fits_by : (no_errors : Bool) (rest more : List ℕ) → Fits (if no_errors then 0 else 1) (((if no_errors then codes "accepted" else codes "rejected") ++ rest) ++ more)
verdict_fits_by true rest more = record { some = some_byte 97 ((codes "ccepted" ++ rest) ++ more); known = zero_ }
verdict_fits_by false rest more = record { some = some_byte 114 ((codes "ejected" ++ rest) ++ more); known = one_ }

line_at_some : (layer : List ℕ) (place : Place) (name : List ℕ) → 1 ≤ length (line_at layer place name)
line_at_some layer place name = some_byte 114 ((codes "efused " ++ layer) ++ ((codes " " ++ decimal place.line) ++ ((codes ":" ++ decimal place.column) ++ ((codes " " ++ name) ++ codes "\n"))))

some_line : (why : Refusal) → 1 ≤ length (refusal_line why)
some_line TooLong = some_byte 114 (codes "efused length\n")
some_line (Utf8 offset) = some_byte 114 ((codes "efused utf8 " ++ decimal offset) ++ codes "\n")
some_line (Lex problem place) = line_at_some (codes "lex") place (problem_name problem)
some_line (Unexpected place) = line_at_some (codes "syntax") place (codes "Unexpected")
some_line (TooDeep place) = line_at_some (codes "syntax") place (codes "TooDeep")
some_line (NotYet offset) = some_byte 114 ((codes "efused notyet " ++ decimal offset) ++ codes "\n")

checked_fits : {bytes : List ℕ} {answer : Answer} → IsChecked bytes answer → Fits answer.status answer.text
checked_fits (refused why h) = record { some = some_line why; known = two_ }
checked_fits (judged {checked = shader} {violations = violations} of are) =
    verdict_fits_by (count_of Error violations == 0) (counts_text (count_of Error violations) (count_of Warning violations) (count_of Info violations)) (flat_map (violation_text shader.functions) violations)

fault_fits : (name : List ℕ) → Fits 5 (fault_read name).text
fault_fits name = record { some = some_byte 102 ((codes "ault read " ++ name) ++ codes "\n"); known = five_ }

run_fits_by : (end : RunEnd) (text : List ℕ) → 1 ≤ length text → Fits (run_status end) text
run_fits_by run_end.Ended text some = record { some = some; known = zero_ }
run_fits_by (run_end.Diverged one other) text some = record { some = some; known = eight_ }
run_fits_by run_end.Running text some = record { some = some; known = nine_ }

front_some : (xs ys : List ℕ) → 1 ≤ length xs → 1 ≤ length (xs ++ ys)
front_some xs ys some = let is : length (xs ++ ys) ≡ length xs + length ys = length-append xs ys in omega arith

line_some : (m : Machine) → 1 ≤ length (run_line m)
line_some m = some_byte 114 ((codes "un " ++ end_word (run_end_of m)) ++ ((codes " steps " ++ decimal m.steps) ++ ((codes " stutters " ++ decimal m.stutters) ++ codes "\n")))

outcome_fits : (shader : CoreModule) (m : Machine) → Fits (outcome shader m).status (outcome shader m).text
outcome_fits shader m = run_fits_by (run_end_of m) (outcome shader m).text (front_some (lanes ++ releases) (codes "races 0\n") (front_some lanes releases (front_some first (released_line m) (front_some (run_line m) stopped (line_some m))))) where
  stopped : List ℕ
  stopped = lane_lines shader.functions m (run_end_of m)

  first : List ℕ
  first = run_line m ++ stopped

  lanes : List ℕ
  lanes = first ++ released_line m

  releases : List ℕ
  releases = release_lines shader.functions 0 m.released

ran_fits : {shader : CoreModule} {bytes : List ℕ} {answer : Answer} → IsRan shader bytes answer → Fits answer.status answer.text
ran_fits (no_job none) = record { some = some_byte 114 (codes "efused job / J1\n"); known = four_ }
ran_fits {shader = shader} (job {steps = steps} states) = outcome_fits shader (ran shader steps)

pub answer_fits : {request : Request} {reads : List (Option (List ℕ))} {answer : Answer} → IsAnswerTo request reads answer → Fits answer.status answer.text
answer_fits (check_unread {file = file}) = fault_fits file
answer_fits (checked c) = checked_fits c
answer_fits (run_unread {file = file}) = fault_fits file
answer_fits (stopped c not_zero) = checked_fits c
answer_fits (job_unread {job = name} runs) = fault_fits name
answer_fits (run_ runs r) = ran_fits r

pub words_known : {words : List (List ℕ)} {reads : List (Option (List ℕ))} {answer : Answer} → IsAnswer words reads answer → Known answer.status
words_known (no_form is none) = three_
words_known (answered is a) = (answer_fits a).known

pub not_six : (status : ℕ) → Known status → status ≡ 6 → ⊥
not_six _ zero_ e = cc
not_six _ one_ e = cc
not_six _ two_ e = cc
not_six _ three_ e = cc
not_six _ four_ e = cc
not_six _ five_ e = cc
not_six _ eight_ e = cc
not_six _ nine_ e = cc

-- ---- the statuses of parts

-- the status of a verdict
pub errors_status : (count : ℕ) → count ≢ 0 → ◌≡◌ {A = ℕ} (if count == 0 then 0 else 1) 1
errors_status count some = by (count == 0) (grind (arith, nat_tests)) where
  by : (none : Bool) → none ≡ false → ◌≡◌ {A = ℕ} (if none then 0 else 1) 1
  by true off = absurd (cc)
  by false off = refl

some_errors : (count : ℕ) → ◌≡◌ {A = ℕ} (if count == 0 then 0 else 1) 1 → count ≢ 0
some_errors count is none = no_error (subst (λ n. ◌≡◌ {A = ℕ} (if n == 0 then 0 else 1) 1) none is) where
  no_error : ◌≡◌ {A = ℕ} 0 1 → ⊥
  no_error e = cc

pub no_errors : (count : ℕ) → ◌≡◌ {A = ℕ} (if count == 0 then 0 else 1) 0 → count ≡ 0
no_errors count is = let none : (count == 0) ≡ true = by (count == 0) is in grind (arith, nat_tests) where
  by : (none : Bool) → ◌≡◌ {A = ℕ} (if none then 0 else 1) 0 → none ≡ true
  by true e = refl
  by false e = absurd (cc)

pub none_status : (count : ℕ) → count ≡ 0 → ◌≡◌ {A = ℕ} (if count == 0 then 0 else 1) 0
none_status count none = subst (λ n. ◌≡◌ {A = ℕ} (if n == 0 then 0 else 1) 0) (sym none) refl

-- no verdict has a status above 1
verdict_early : (none : Bool) (wanted : ℕ) → 2 ≤ wanted → (if none then 0 else 1) ≡ wanted → ⊥
verdict_early true wanted late e = omega (arith, e)
verdict_early false wanted late e = omega (arith, e)

-- no check has a status above 2
checked_early : {bytes : List ℕ} {answer : Answer} (wanted : ℕ) → 3 ≤ wanted → IsChecked bytes answer → answer.status ≡ wanted → ⊥
checked_early wanted late (refused why h) e = omega (arith, e)
checked_early wanted late (judged {violations = vs} of are) e = verdict_early (count_of Error vs == 0) wanted (omega arith) e

-- the status of a run
ended_zero : (end : RunEnd) → run_status end ≡ 0 → end ≡ run_end.Ended
ended_zero run_end.Ended e = refl
ended_zero (run_end.Diverged one other) e = absurd (cc)
ended_zero run_end.Running e = absurd (cc)

running_nine : (end : RunEnd) → run_status end ≡ 9 → end ≡ run_end.Running
running_nine run_end.Ended e = absurd (cc)
running_nine (run_end.Diverged one other) e = absurd (cc)
running_nine run_end.Running e = refl

diverged_eight : (diverged : Option (ℕ × ℕ)) (over : Bool) → run_status (end_by diverged over) ≡ 8 → diverged ≢ None
diverged_eight None true e none = cc
diverged_eight None false e none = cc
diverged_eight (Some pair) over e none = cc

pub eight_diverged : (diverged : Option (ℕ × ℕ)) (over : Bool) → diverged ≢ None → run_status (end_by diverged over) ≡ 8
eight_diverged None over apart = absurd (apart refl)
eight_diverged (Some pair) over apart = refl

-- no run has one of the other statuses
run_other : (end : RunEnd) (wanted : ℕ) → wanted ≢ 0 → wanted ≢ 8 → wanted ≢ 9 → run_status end ≡ wanted → ⊥
run_other run_end.Ended wanted zero eight nine e = zero (sym e)
run_other (run_end.Diverged one other) wanted zero eight nine e = eight (sym e)
run_other run_end.Running wanted zero eight nine e = nine (sym e)

ran_other : {shader : CoreModule} {bytes : List ℕ} {answer : Answer} (wanted : ℕ) → wanted ≢ 0 → wanted ≢ 4 → wanted ≢ 8 → wanted ≢ 9 → IsRan shader bytes answer → answer.status ≡ wanted → ⊥
ran_other wanted zero four eight nine (no_job none) e = four (sym e)
ran_other {shader = shader} wanted zero four eight nine (job {steps = steps} states) e = run_other (run_end_of (ran shader steps)) wanted zero eight nine e

-- words that fit a form have no answer with 3
pub not_three : {request : Request} {reads : List (Option (List ℕ))} {answer : Answer} → IsAnswerTo request reads answer → answer.status ≡ 3 → ⊥
not_three check_unread e = cc
not_three (checked c) e = checked_early 3 (omega arith) c e
not_three run_unread e = cc
not_three (stopped c not_zero) e = checked_early 3 (omega arith) c e
not_three (job_unread runs) e = cc
not_three (run_ runs r) e = ran_other 3 (λ z. cc) (λ z. cc) (λ z. cc) (λ z. cc) r e

-- ---- causes in the shader

-- no run has this status
abbrev NoRun : ℕ → Type 0
NoRun wanted = (shader : CoreModule) (bytes : List ℕ) (answer : Answer) → IsRan shader bytes answer → answer.status ≡ wanted → ⊥

module _ (Holds : List ℕ → Type 0) (wanted : ℕ) (not_five : wanted ≢ 5) (other : NoRun wanted) (Told : List ℕ → Type 0) (holds : (bytes : List ℕ) (answer : Answer) → IsChecked bytes answer → answer.status ≡ wanted → Told answer.text → Holds bytes) where
  shader_cause : {request : Request} {reads : List (Option (List ℕ))} {answer : Answer} → IsAnswerTo request reads answer → answer.status ≡ wanted → Told answer.text → ShaderRead Holds reads
  shader_cause check_unread e told = absurd (not_five (sym e))
  shader_cause (checked {bytes = bytes} {answer = answer} c) e told = holds bytes answer c e told
  shader_cause run_unread e told = absurd (not_five (sym e))
  shader_cause (stopped {bytes = bytes} {answer = answer} c not_zero) e told = holds bytes answer c e told
  shader_cause (job_unread runs) e told = absurd (not_five (sym e))
  shader_cause (run_ {steps = steps} {shader = shader} {answer = answer} runs r) e told = absurd (other shader steps answer r e)

-- of a rejected shader the text that was printed does not matter
abbrev Anything : List ℕ → Type 0
Anything text = Unit {0}

one_holds : (bytes : List ℕ) (answer : Answer) → IsChecked bytes answer → answer.status ≡ 1 → Anything answer.text → Rejects bytes
one_holds bytes answer (refused why h) e told = absurd (cc)
one_holds bytes answer (judged {checked = shader} {violations = vs} of are) e told = record { shader = shader; is = of; violations = vs; are = are; errors = some_errors (count_of Error vs) e }

pub one_cause : {request : Request} {reads : List (Option (List ℕ))} {answer : Answer} → IsAnswerTo request reads answer → answer.status ≡ 1 → ShaderRead Rejects reads
one_cause a e = shader_cause Rejects 1 (λ z. cc) (λ shader bytes answer r. ran_other 1 (λ z. cc) (λ z. cc) (λ z. cc) (λ z. cc) r) Anything one_holds a e tt

-- what a refusal tells is its line
pub two_holds : (Told : List ℕ → Type 0) (Holds : List ℕ → Type 0) → ((bytes : List ℕ) (r : Refuses bytes) → Told (refusal_line r.0) → Holds bytes) → (bytes : List ℕ) (answer : Answer) → IsChecked bytes answer → answer.status ≡ 2 → Told answer.text → Holds bytes
two_holds Told Holds turn bytes answer (refused why is) e told = turn bytes (why, is) told
two_holds Told Holds turn bytes answer (judged {violations = vs} of are) e told = absurd (verdict_early (count_of Error vs == 0) 2 (omega arith) e)

pub two_cause : (Told : List ℕ → Type 0) (Holds : List ℕ → Type 0) → ((bytes : List ℕ) (r : Refuses bytes) → Told (refusal_line r.0) → Holds bytes) → {request : Request} {reads : List (Option (List ℕ))} {answer : Answer}
    → IsAnswerTo request reads answer → answer.status ≡ 2 → Told answer.text → ShaderRead Holds reads
two_cause Told Holds turn a e told = shader_cause Holds 2 (λ z. cc) (λ shader bytes answer r. ran_other 2 (λ z. cc) (λ z. cc) (λ z. cc) (λ z. cc) r) Told (two_holds Told Holds turn) a e told

pub refused_cause : {request : Request} {reads : List (Option (List ℕ))} {answer : Answer} → IsAnswerTo request reads answer → answer.status ≡ 2 → ShaderRead Refuses reads
refused_cause a e = two_cause Anything Refuses (λ bytes r told. r) a e tt

-- ---- causes in the job

module _ (Holds : CoreModule → List ℕ → Type 0) (wanted : ℕ) (late : 3 ≤ wanted) (not_five : wanted ≢ 5) (holds : (shader : CoreModule) (bytes : List ℕ) (answer : Answer) → IsRan shader bytes answer → answer.status ≡ wanted → Holds shader bytes) where
  job_cause : {request : Request} {reads : List (Option (List ℕ))} {answer : Answer} → IsAnswerTo request reads answer → answer.status ≡ wanted → JobRead Holds reads
  job_cause check_unread e = absurd (not_five (sym e))
  job_cause (checked c) e = absurd (checked_early wanted late c e)
  job_cause run_unread e = absurd (not_five (sym e))
  job_cause (stopped c not_zero) e = absurd (checked_early wanted late c e)
  job_cause (job_unread runs) e = absurd (not_five (sym e))
  job_cause (run_ {steps = steps} {shader = shader} {answer = answer} runs r) e = (shader, runs, holds shader steps answer r e)

four_holds : (shader : CoreModule) (bytes : List ℕ) (answer : Answer) → IsRan shader bytes answer → answer.status ≡ 4 → NoJob shader bytes
four_holds shader bytes answer (no_job none) e = none
four_holds shader bytes answer (job {steps = steps} states) e = absurd (run_other (run_end_of (ran shader steps)) 4 (λ z. cc) (λ z. cc) (λ z. cc) e)

eight_holds : (shader : CoreModule) (bytes : List ℕ) (answer : Answer) → IsRan shader bytes answer → answer.status ≡ 8 → Diverges shader bytes
eight_holds shader bytes answer (no_job none) e = absurd (cc)
eight_holds shader bytes answer (job {steps = steps} states) e = (steps, states, diverged_eight (ran shader steps).diverged (all_ended (ran shader steps).members) e)

nine_holds : (shader : CoreModule) (bytes : List ℕ) (answer : Answer) → IsRan shader bytes answer → answer.status ≡ 9 → Spends shader bytes
nine_holds shader bytes answer (no_job none) e = absurd (cc)
nine_holds shader bytes answer (job {steps = steps} states) e = (steps, states, running_nine (run_end_of (ran shader steps)) e)

finish_holds : (shader : CoreModule) (bytes : List ℕ) (answer : Answer) → IsRan shader bytes answer → answer.status ≡ 0 → Finishes shader bytes
finish_holds shader bytes answer (no_job none) e = absurd (cc)
finish_holds shader bytes answer (job {steps = steps} states) e = (steps, states, ended_zero (run_end_of (ran shader steps)) e)

module _ {request : Request} {reads : List (Option (List ℕ))} {answer : Answer} (a : IsAnswerTo request reads answer) where
  pub four_cause : answer.status ≡ 4 → JobRead NoJob reads
  four_cause = job_cause NoJob 4 (omega arith) (λ z. cc) four_holds a

  pub eight_cause : answer.status ≡ 8 → JobRead Diverges reads
  eight_cause = job_cause Diverges 8 (omega arith) (λ z. cc) eight_holds a

  pub nine_cause : answer.status ≡ 9 → JobRead Spends reads
  nine_cause = job_cause Spends 9 (omega arith) (λ z. cc) nine_holds a

-- ---- success

checked_runs : (bytes : List ℕ) (answer : Answer) → IsChecked bytes answer → answer.status ≡ 0 → (shader : CoreModule) × Runs bytes shader
checked_runs bytes answer (refused why h) e = absurd (cc)
checked_runs bytes answer (judged {checked = shader} {violations = vs} of are) e = (shader, record { is = of; violations = vs; are = are; no_errors = no_errors (count_of Error vs) e })

pub zero_cause : {request : Request} {reads : List (Option (List ℕ))} {answer : Answer} → IsAnswerTo request reads answer → answer.status ≡ 0 → Succeeds (Some request) reads
zero_cause check_unread e = absurd (cc)
zero_cause (checked {bytes = bytes} {answer = answer} c) e = checked_runs bytes answer c e
zero_cause run_unread e = absurd (cc)
zero_cause (stopped c not_zero) e = absurd (not_zero e)
zero_cause (job_unread runs) e = absurd (cc)
zero_cause (run_ {steps = steps} {shader = shader} {answer = answer} runs r) e = (shader, runs, finish_holds shader steps answer r e)

-- ---- reads that failed

-- the file whose read failed, which the answer names
pub record Fault (fs : List File) (reads : List (Option (List ℕ))) (answer : Answer) : Type 0 where
  pub file : File
  pub is : unread_file fs reads ≡ Some file
  pub told : answer ≡ fault_read file.name

pub five_cause : {request : Request} {reads : List (Option (List ℕ))} {answer : Answer} → IsAnswerTo request reads answer → answer.status ≡ 5 → Fault (files request) reads answer
five_cause (check_unread {file = file}) e = record { file = shader_file file; is = refl; told = refl }
five_cause (checked c) e = absurd (checked_early 5 (omega arith) c e)
five_cause (run_unread {file = file}) e = record { file = shader_file file; is = refl; told = refl }
five_cause (stopped c not_zero) e = absurd (checked_early 5 (omega arith) c e)
five_cause (job_unread {job = name} runs) e = record { file = job_file name; is = refl; told = refl }
five_cause (run_ runs r) e = absurd (ran_other 5 (λ z. cc) (λ z. cc) (λ z. cc) (λ z. cc) r e)

count_grows : {A : Type 0} (p : A → Bool) (xs ys : List A) → count_by p xs ≤ count_by p (xs ++ ys)
count_grows p xs ys = let is : count_by p (xs ++ ys) ≡ count_by p xs + count_by p ys = sum_by-append (λ x. cond (p x) 1 0) xs ys in omega arith

-- reads take no failed name away
reads_grow : (texts : Option (List ℕ → Option (List ℕ))) (fs : List File) (reads : List (Option (List ℕ))) (before now : List (List ℕ)) (name : List ℕ) → AreReads texts fs reads before now → faults_of name before ≤ faults_of name now
reads_grow texts [] [] before now name given = omega (arith, ap (faults_of name) given)
reads_grow texts (f ∷ fs) [] before now name given = omega (arith, ap (faults_of name) given)
reads_grow texts [] (read ∷ reads) before now name given = absurd given
reads_grow texts (f ∷ fs) (None ∷ reads) before now name given =
    let one : faults_of name before ≤ faults_of name (before ++ f.name ∷ []) = count_grows (bytes_eq name) before (f.name ∷ []) in
    let more : faults_of name (before ++ f.name ∷ []) ≤ faults_of name now = reads_grow texts fs reads (before ++ f.name ∷ []) now name given in
    omega arith
reads_grow texts (f ∷ fs) (Some bytes ∷ reads) before now name given = reads_grow texts fs reads before now name given.1

same_file : (a b : File) → Some a ≡ Some b → a ≡ b
same_file a b e = cc

-- a read that failed raised the count of its name
pub unread_rose : (texts : Option (List ℕ → Option (List ℕ))) (fs : List File) (reads : List (Option (List ℕ))) (before now : List (List ℕ)) (file : File) → AreReads texts fs reads before now → unread_file fs reads ≡ Some file → faults_of file.name before < faults_of file.name now
unread_rose texts [] [] before now file given is = absurd (cc)
unread_rose texts (f ∷ fs) [] before now file given is = absurd (cc)
unread_rose texts [] (read ∷ reads) before now file given is = absurd given
unread_rose texts (f ∷ fs) (None ∷ reads) before now file given is =
    subst (λ (g : File). faults_of g.name before < faults_of g.name now) (same_file f file is) (
    let one : faults_of f.name (before ++ f.name ∷ []) ≡ faults_of f.name before + 1 = faults_of-push f.name before in
    let more : faults_of f.name (before ++ f.name ∷ []) ≤ faults_of f.name now = reads_grow texts fs reads (before ++ f.name ∷ []) now f.name given in
    omega arith)
unread_rose texts (f ∷ fs) (Some bytes ∷ reads) before now file given is = unread_rose texts fs reads before now file given.1 is
