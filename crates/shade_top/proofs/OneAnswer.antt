-- The answer is one.
use Rattle.std.proofs.Common.{◌≡◌, refl, sym, ◌∙◌, ap, ap₂, subst, ℕ, zero, suc, ◌+◌, ◌<◌, ◌≤◌, ◌^◌, ◌⊎◌, inl, inr, List, [], ◌∷◌, length, slice_get, Option, None, Some, arith}
use Rattle.shade_core.specs.declared.module.CoreModule.{CoreModule}
use Rattle.shade_core.specs.declared.module.CoreFunction.{CoreFunction}
use Rattle.shade_verdict.specs.declared.violation.Violation.{Violation}
use Rattle.shade_verdict.specs.Violations.{AreViolations}
use Rattle.shade_verdict.specs.Laws.{OneVerdict}
use Rattle.shade_first.specs.FirstForm.{StandsFor}
use Rattle.shade_first.specs.Laws.{OneModule, OnePlace, NeverBoth}
use Rattle.shade_group.specs.Group.{members_from, sized_members, entry_members, sized_runs, entry_runs, lane_count}
use Rattle.shade_files.specs.Writes.{Answer}
use Rattle.shade_top.specs.Ready.{FirstFormIsReady}
use Rattle.shade_job.specs.Steps.{States}
use Rattle.shade_job.specs.Laws.{OneJob}
use Rattle.shade_top.specs.Answer.{IsAnswer, no_form, answered, IsAnswerTo, check_unread, checked, run_unread, stopped, job_unread, run_, IsChecked, refused, judged, IsRan, no_job, job, NoJob, Runs, bad_words, fault_read, refusal, refused_job, verdict, inputs, lanes_of, ran, outcome}
use Rattle.shade_top.specs.Request.{Request, Check, Run, request_of}
use Rattle.shade_top.specs.Laws.{OneAnswer}
use Rattle.shade_report.specs.declared.refusal.Refusal.{Refusal}
use Rattle.shade_top.specs.Text.{IsRefused, Parses}
use Rattle.shade_lex.specs.Tokens.{IsReadOnce}
use Rattle.shade_lex.specs.declared.token.Token.{Token}
use Rattle.shade_lex.specs.Templates.{HaveOneReading}
use Rattle.shade_ast.specs.Lexemes.{Lexeme}
use Rattle.shade_parse.specs.Once.{IsParsedOnce}
use Rattle.shade_top.proofs.TextLaws.{one_refusal, never_refused}

-- ---- the lanes of a run are few

count_members : (function : CoreFunction) (size : List ℕ) (n count : ℕ) → length (members_from inputs function size n count) ≡ count
count_members function size n zero = refl
count_members function size n (suc count) = ap suc (count_members function size (n + 1) count)

few_sized : (function : CoreFunction) (size : Option (List ℕ)) → sized_runs function size → length (sized_members inputs function size) ≤ 256
few_sized function None r = absurd r
few_sized function (Some size) r = let is : length (sized_members inputs function (Some size)) ≡ lane_count size = count_members function size 0 (lane_count size) in omega (arith, r.1)

few_entry : (function : Option CoreFunction) → entry_runs function → length (entry_members inputs function) ≤ 256
few_entry None r = absurd r
few_entry (Some function) r = few_sized function function.entry r

-- ---- cases

abbrev CheckedCases : List ℕ → Answer → Type 0
CheckedCases bytes a =
    ((why : Refusal) × IsRefused bytes why × (a ≡ refusal why))
    ⊎ ((m : CoreModule) × (vs : List Violation) × StandsFor bytes m × AreViolations m.functions vs × (a ≡ verdict m.functions vs) × Parses bytes)

checked_cases : {bytes : List ℕ} {a : Answer} → IsChecked bytes a → CheckedCases bytes a
checked_cases (refused why is) = inl (why, is, refl)
checked_cases (judged {checked = m} {violations = vs} of are) = inr (m, vs, of.stands, are, refl, of.parses)

abbrev RanCases : CoreModule → List ℕ → Answer → Type 0
RanCases shader bytes a = (NoJob shader bytes × (a ≡ refused_job)) ⊎ ((steps : List ℕ) × States (lanes_of shader) bytes steps × (a ≡ outcome shader (ran shader steps)))

ran_cases : {shader : CoreModule} {bytes : List ℕ} {a : Answer} → IsRan shader bytes a → RanCases shader bytes a
ran_cases (no_job none) = inl (none, refl)
ran_cases (job {steps = steps} states) = inr (steps, states, refl)

abbrev RunCases : List ℕ → List ℕ → List (Option (List ℕ)) → List ℕ → Answer → Type 0
RunCases file name [] bytes a = CheckedCases bytes a
RunCases file name (None ∷ reads) bytes a = (shader : CoreModule) × Runs bytes shader × (a ≡ fault_read name)
RunCases file name (Some steps ∷ reads) bytes a = (shader : CoreModule) × Runs bytes shader × RanCases shader steps a

abbrev ToCases : Request → List (Option (List ℕ)) → Answer → Type 0
ToCases (Check file) [] a = ⊥
ToCases (Check file) (None ∷ reads) a = a ≡ fault_read file
ToCases (Check file) (Some bytes ∷ reads) a = CheckedCases bytes a
ToCases (Run file name) [] a = ⊥
ToCases (Run file name) (None ∷ reads) a = a ≡ fault_read file
ToCases (Run file name) (Some bytes ∷ reads) a = RunCases file name reads bytes a

to_cases : {request : Request} {reads : List (Option (List ℕ))} {a : Answer} → IsAnswerTo request reads a → ToCases request reads a
to_cases check_unread = refl
to_cases (checked c) = checked_cases c
to_cases run_unread = refl
to_cases (stopped c not_zero) = checked_cases c
to_cases (job_unread {shader = shader} runs) = (shader, runs, refl)
to_cases (run_ {shader = shader} runs r) = (shader, runs, ran_cases r)

abbrev AnswerCases : List (List ℕ) → List (Option (List ℕ)) → Answer → Type 0
AnswerCases words reads a = ((request_of words ≡ None) × (a ≡ bad_words)) ⊎ ((request : Request) × (request_of words ≡ Some request) × ToCases request reads a)

answer_cases : {words : List (List ℕ)} {reads : List (Option (List ℕ))} {a : Answer} → IsAnswer words reads a → AnswerCases words reads a
answer_cases (no_form is none) = inl (is, refl)
answer_cases (answered {request = request} is t) = inr (request, is, to_cases t)

none_some : (asked : Option Request) (request : Request) → asked ≡ None → asked ≡ Some request → ⊥
none_some asked request none some = let clash : None ≡ Some request = sym none ∙ some in cc

one_request : (asked : Option Request) (a b : Request) → asked ≡ Some a → asked ≡ Some b → a ≡ b
one_request asked a b e f = let same : Some a ≡ Some b = sym e ∙ f in cc

abbrev OneTemplates : Type 0
OneTemplates = (text : List ℕ) (tokens : List Token) → HaveOneReading text tokens

module _ (modules : OneModule) (places : OnePlace) (both : NeverBoth) (verdicts : OneVerdict) (jobs : OneJob) (ready : FirstFormIsReady) (reads : (text : List ℕ) → IsReadOnce text) (lists : OneTemplates) (trees : (tokens : List Lexeme) → IsParsedOnce tokens) where
  one_verdict : (bytes : List ℕ) (m n : CoreModule) (vs ws : List Violation) → StandsFor bytes m → StandsFor bytes n → AreViolations m.functions vs → AreViolations n.functions ws → verdict m.functions vs ≡ verdict n.functions ws
  one_verdict bytes m n vs ws sm sn am an =
      let same : m ≡ n = modules bytes m n sm sn in
      let moved : AreViolations n.functions vs = subst (λ (k : CoreModule). AreViolations k.functions vs) same am in
      ap₂ (λ (k : CoreModule) (us : List Violation). verdict k.functions us) same (verdicts n.functions vs ws moved an)

  checked_one : (bytes : List ℕ) (a b : Answer) → CheckedCases bytes a → CheckedCases bytes b → a ≡ b
  checked_one bytes a b (inl x) (inl y) = x.2 ∙ (ap refusal (one_refusal reads lists trees bytes places x.0 y.0 x.1 y.1) ∙ sym y.2)
  checked_one bytes a b (inl x) (inr y) = absurd (never_refused reads lists trees bytes both y.0 x.0 y.2 y.5 x.1)
  checked_one bytes a b (inr x) (inl y) = absurd (never_refused reads lists trees bytes both x.0 y.0 x.2 x.5 y.1)
  checked_one bytes a b (inr x) (inr y) = x.4 ∙ (one_verdict bytes x.0 y.0 x.1 y.1 x.2 y.2 x.3 y.3 ∙ sym y.4)

  few_lanes : (bytes : List ℕ) (shader : CoreModule) → StandsFor bytes shader → lanes_of shader < 2 ^ 32
  few_lanes bytes shader stands = let few : lanes_of shader ≤ 256 = few_entry (slice_get shader.functions 0) (ready bytes shader stands).runs.body in omega arith

  ran_one : (bytes : List ℕ) (shader : CoreModule) → StandsFor bytes shader → (steps : List ℕ) (a b : Answer) → RanCases shader steps a → RanCases shader steps b → a ≡ b
  ran_one bytes shader stands steps a b (inl x) (inl y) = x.1 ∙ sym y.1
  ran_one bytes shader stands steps a b (inl x) (inr y) = absurd (x.0 y.0 y.1)
  ran_one bytes shader stands steps a b (inr x) (inl y) = absurd (y.0 x.0 x.1)
  ran_one bytes shader stands steps a b (inr x) (inr y) =
      x.2 ∙ (ap (λ l. outcome shader (ran shader l)) (jobs (lanes_of shader) steps x.0 y.0 (few_lanes bytes shader stands) x.1 y.1) ∙ sym y.2)

  run_one : (file name bytes : List ℕ) (reads : List (Option (List ℕ))) (a b : Answer) → RunCases file name reads bytes a → RunCases file name reads bytes b → a ≡ b
  run_one file name bytes [] a b x y = checked_one bytes a b x y
  run_one file name bytes (None ∷ reads) a b x y = x.2 ∙ sym y.2
  run_one file name bytes (Some steps ∷ reads) a b x y =
      let same : y.0 ≡ x.0 = modules bytes y.0 x.0 y.1.is.stands x.1.is.stands in
      ran_one bytes x.0 x.1.is.stands steps a b x.2 (subst (λ (s : CoreModule). RanCases s steps b) same y.2)

  to_one : (request : Request) (reads : List (Option (List ℕ))) (a b : Answer) → ToCases request reads a → ToCases request reads b → a ≡ b
  to_one (Check file) [] a b x y = absurd x
  to_one (Check file) (None ∷ reads) a b x y = x ∙ sym y
  to_one (Check file) (Some bytes ∷ reads) a b x y = checked_one bytes a b x y
  to_one (Run file name) [] a b x y = absurd x
  to_one (Run file name) (None ∷ reads) a b x y = x ∙ sym y
  to_one (Run file name) (Some bytes ∷ reads) a b x y = run_one file name bytes reads a b x y

  cases_one : (words : List (List ℕ)) (reads : List (Option (List ℕ))) (a b : Answer) → AnswerCases words reads a → AnswerCases words reads b → a ≡ b
  cases_one words reads a b (inl x) (inl y) = x.1 ∙ sym y.1
  cases_one words reads a b (inl x) (inr y) = absurd (none_some (request_of words) y.0 x.0 y.1)
  cases_one words reads a b (inr x) (inl y) = absurd (none_some (request_of words) x.0 y.0 x.1)
  cases_one words reads a b (inr x) (inr y) =
      let same : y.0 ≡ x.0 = one_request (request_of words) y.0 x.0 y.1 x.1 in
      to_one x.0 reads a b x.2 (subst (λ (q : Request). ToCases q reads b) same y.2)

  -- the answer to a text, and to a request
  pub one_checked : (bytes : List ℕ) (a b : Answer) → IsChecked bytes a → IsChecked bytes b → a ≡ b
  one_checked bytes a b x y = checked_one bytes a b (checked_cases x) (checked_cases y)

  pub one_to : (request : Request) (reads : List (Option (List ℕ))) (a b : Answer) → IsAnswerTo request reads a → IsAnswerTo request reads b → a ≡ b
  one_to request reads a b x y = to_one request reads a b (to_cases x) (to_cases y)

  pub one_answer : OneAnswer
  one_answer words reads a b x y = cases_one words reads a b (answer_cases x) (answer_cases y)
