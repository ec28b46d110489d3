-- What a call did, from the answer that it found.
use Rattle.std.proofs.Common.{◌≡◌, inl, inr, ◌∙◌, refl, sym, subst, ap, ℕ, ◌+◌, ◌≤◌, ◌==◌, cond, List, [], ◌∷◌, length, Option, None, Some, arith}
use Rattle.std.specs.Prelude.{IfOk, Result, Ok}
use Rattle.std.proofs.lemmas.List.Sums.{sum_by-append}
use Rattle.shade_base.specs.declared.severity.Severity.TheVariants.{Error}
use Rattle.shade_base.specs.Counter.{one_more}
use Rattle.shade_base.specs.Sink.{with_piece}
use Rattle.shade_core.specs.declared.module.CoreModule.{CoreModule}
use Rattle.shade_verdict.specs.declared.violation.Violation.{Violation}
use Rattle.shade_graph.specs.Graph.{Among, here, later}
use Rattle.shade_graph.specs.Order.{severity_rank}
use Rattle.shade_report.specs.CheckReport.{count_of}
use Rattle.shade_sound.specs.Laws.{NeverDiverges}
use Rattle.shade_files.specs.Changes.{ShelfChange, SinkChange}
use Rattle.shade_files.specs.Reads.{File, AreReads}
use Rattle.shade_files.specs.Writes.{Answer, IsWritten, whole, cut}
use Rattle.shade_top.specs.Ready.{CleanWithoutErrors, FirstFormIsReady, HasError, IsReady}
use Rattle.shade_top.specs.Answer.{IsAnswer, no_form, answered, IsAnswerTo, Runs, bad_words, inputs}
use Rattle.shade_top.specs.Causes.{Diverges, HasCause, JobRead, RefusesAloud, Unread, unread_file}
use Rattle.shade_top.specs.Report.{Outcome, answer_of}
use Rattle.shade_top.specs.Request.{Request, requested, request_of, files, files_of}
use Rattle.shade_top.specs.Serves.{Ends, written, no_memory, Serves}
use Rattle.shade_top.specs.declared.report.Report.{Report}
use Rattle.shade_top.proofs.CauseLaws.{answer_fits, clash, Known, words_known, not_six, not_three, one_cause, two_cause, four_cause, five_cause, eight_cause, nine_cause, Fault, unread_rose}

-- ---- no run diverges today

error_rank : (v : Violation) → v.severity ≡ Error → ◌≡◌ {A = ℕ} (cond (severity_rank v.severity == severity_rank Error) 1 0) 1
error_rank v is = ap (λ severity. cond {A = ℕ} (severity_rank severity == severity_rank Error) 1 0) is

one_more_count : (v : Violation) (vs : List Violation) → count_of Error (v ∷ vs) ≡ (0 + cond (severity_rank v.severity == severity_rank Error) 1 0) + count_of Error vs
one_more_count v vs = sum_by-append (λ (x : Violation). cond (severity_rank x.severity == severity_rank Error) 1 0) (v ∷ []) vs

errors_count : (v : Violation) (vs : List Violation) → Among v vs → v.severity ≡ Error → 1 ≤ count_of Error vs
errors_count v vs (here {rest = rest}) is =
    let one : ◌≡◌ {A = ℕ} (cond (severity_rank v.severity == severity_rank Error) 1 0) 1 = error_rank v is in
    let more : count_of Error (v ∷ rest) ≡ (0 + cond (severity_rank v.severity == severity_rank Error) 1 0) + count_of Error rest = one_more_count v rest in
    omega arith
errors_count v vs (later {other = other} {rest = rest} among) is =
    let some : 1 ≤ count_of Error rest = errors_count v rest among is in
    let more : count_of Error (other ∷ rest) ≡ (0 + cond (severity_rank other.severity == severity_rank Error) 1 0) + count_of Error rest = one_more_count other rest in
    omega arith

module _ (never : NeverDiverges) (clean : CleanWithoutErrors) (first : FirstFormIsReady) where
  -- a shader that runs is clean
  no_divergence : (bytes : List ℕ) (shader : CoreModule) (job : List ℕ) → Runs bytes shader → Diverges shader job → ⊥
  no_divergence bytes shader job r d = let ready : IsReady shader = first bytes shader r.is.stands in d.2 (never shader inputs d.0 ready.numbered ready.runs ((clean bytes shader r.violations r.is.stands r.are).0 no_error)) where
    no_error : HasError r.violations → ⊥
    no_error h = let some : 1 ≤ count_of Error r.violations = errors_count h.0 r.violations h.1 h.2 in let none : count_of Error r.violations ≡ 0 = r.no_errors in omega arith

  none_diverges : (reads : List (Option (List ℕ))) → JobRead Diverges reads → ⊥
  none_diverges [] h = h
  none_diverges (None ∷ reads) h = h
  none_diverges (Some bytes ∷ []) h = h
  none_diverges (Some bytes ∷ None ∷ reads) h = h
  none_diverges (Some bytes ∷ Some job ∷ []) h = no_divergence bytes h.0 job h.1 h.2
  none_diverges (Some bytes ∷ Some job ∷ read ∷ reads) h = h

  -- ---- causes

  module _ (words : List (List ℕ)) (reads : List (Option (List ℕ))) (shelf : ShelfChange) (sink : SinkChange) (status : ℕ) where
    -- of a call whose answer was written whole
    module _ (answer : Answer) (is : status ≡ answer.status) (told : sink.taken' ≡ with_piece sink.taken answer.text) where
      bad_cause : request_of words ≡ None → answer ≡ bad_words → HasCause words reads shelf sink status
      bad_cause none bad =
          let three : status ≡ 3 = is ∙ ap (λ (a : Answer). a.status) bad in
          record {
            rejected = λ e. clash status 3 1 three e (λ z. cc);
            refused = λ e. clash status 3 2 three e (λ z. cc);
            bad_words = λ e. none;
            no_form = λ n. inl three;
            bad_job = λ e. clash status 3 4 three e (λ z. cc);
            unread = λ e. clash status 3 5 three e (λ z. cc);
            unwritten = λ e. clash status 3 6 three e (λ z. cc);
            converges = λ e. clash status 3 8 three e (λ z. cc);
            spent = λ e. clash status 3 9 three e (λ z. cc);
          }

      unread_by : {request : Request} → request_of words ≡ Some request → AreReads shelf.texts (files_of words) reads shelf.failed shelf.failed' → Fault (files request) reads answer → Unread words reads shelf sink
      unread_by {request = request} asked given f =
          let found : unread_file (files_of words) reads ≡ Some f.file = subst (λ (q : Option Request). unread_file (requested q) reads ≡ Some f.file) (sym asked) f.is in
          record {
            file = f.file;
            is = found;
            rose = unread_rose shelf.texts (files_of words) reads shelf.failed shelf.failed' f.file given found;
            told = told ∙ ap (λ (a : Answer). with_piece sink.taken a.text) f.told;
          }

      request_cause : {request : Request} → request_of words ≡ Some request → AreReads shelf.texts (files_of words) reads shelf.failed shelf.failed' → IsAnswerTo request reads answer → Known answer.status → HasCause words reads shelf sink status
      request_cause asked given a known = record {
        rejected = λ e. one_cause a (sym is ∙ e);
        refused = λ e. two_cause (λ text. sink.taken' ≡ with_piece sink.taken text) (RefusesAloud sink) (λ bytes r t. record { why = r.0; is = r.1; told = t }) a (sym is ∙ e) told;
        bad_words = λ e. absurd (not_three a (sym is ∙ e));
        no_form = λ none. absurd (none_some (request_of words) none asked);
        bad_job = λ e. four_cause a (sym is ∙ e);
        unread = λ e. unread_by asked given (five_cause a (sym is ∙ e));
        unwritten = λ e. absurd (not_six answer.status known (sym is ∙ e));
        converges = λ e. none_diverges reads (eight_cause a (sym is ∙ e));
        spent = λ e. nine_cause a (sym is ∙ e);
      }
        where
          none_some : {request : Request} (asked : Option Request) → asked ≡ None → asked ≡ Some request → ⊥
          none_some asked none some = let two : None ≡ Some _ = sym none ∙ some in cc

    whole_by : {answer : Answer} → IsAnswer words reads answer → status ≡ answer.status → sink.taken' ≡ with_piece sink.taken answer.text → AreReads shelf.texts (files_of words) reads shelf.failed shelf.failed' → HasCause words reads shelf sink status
    whole_by (no_form none empty) is told given = bad_cause bad_words is told none refl
    whole_by (answered {answer = answer} asked a) is told given = request_cause answer is told asked given a (words_known {words = words} (answered asked a))

    -- of a call whose write failed
    cut_by : status ≡ 6 → sink.faults' ≡ one_more sink.faults → HasCause words reads shelf sink status
    cut_by six rose = record {
      rejected = λ e. clash status 6 1 six e (λ z. cc);
      refused = λ e. clash status 6 2 six e (λ z. cc);
      bad_words = λ e. clash status 6 3 six e (λ z. cc);
      no_form = λ n. inr six;
      bad_job = λ e. clash status 6 4 six e (λ z. cc);
      unread = λ e. clash status 6 5 six e (λ z. cc);
      unwritten = λ e. subst (λ (n : ℕ). n ≤ sink.faults') rose (omega arith);
      converges = λ e. clash status 6 8 six e (λ z. cc);
      spent = λ e. clash status 6 9 six e (λ z. cc);
    }

    -- of a call that found no memory
    memory_by : {request : Request} → request_of words ≡ Some request → status ≡ 7 → HasCause words reads shelf sink status
    memory_by asked seven = record {
      rejected = λ e. clash status 7 1 seven e (λ z. cc);
      refused = λ e. clash status 7 2 seven e (λ z. cc);
      bad_words = λ e. clash status 7 3 seven e (λ z. cc);
      no_form = λ none. absurd (let two : None ≡ Some _ = sym none ∙ asked in cc);
      bad_job = λ e. clash status 7 4 seven e (λ z. cc);
      unread = λ e. clash status 7 5 seven e (λ z. cc);
      unwritten = λ e. clash status 7 6 seven e (λ z. cc);
      converges = λ e. clash status 7 8 seven e (λ z. cc);
      spent = λ e. clash status 7 9 seven e (λ z. cc);
    }

    cause_by : AreReads shelf.texts (files_of words) reads shelf.failed shelf.failed' → Ends words reads sink status → HasCause words reads shelf sink status
    cause_by given (written a (whole is told same)) = whole_by a is told given
    cause_by given (written a (cut n short six told rose)) = cut_by six rose
    cause_by given (no_memory asked may seven told same) = memory_by asked seven

    serves_by : AreReads shelf.texts (files_of words) reads shelf.failed shelf.failed' → Ends words reads sink status → Serves words shelf sink status
    serves_by given ends = record { reads = reads; given = given; ends = ends; cause = cause_by given ends }

  -- ---- calls

  module _ (words : List (List ℕ)) (shelf : ShelfChange) (sink : SinkChange) (status : ℕ) where
    -- words that fit no form
    pub bad_serves : request_of words ≡ None → shelf.failed' ≡ shelf.failed → IsWritten bad_words sink status → Serves words shelf sink status
    bad_serves none same w = serves_by words [] shelf sink status (none_read (files_of words)) (written (no_form none refl) w) where
      none_read : (fs : List File) → AreReads shelf.texts fs [] shelf.failed shelf.failed'
      none_read [] = same
      none_read (f ∷ fs) = same

    module _ {E : Type 0} (request : Request) (result : Result Report E) (asked : request_of words ≡ Some request) (o : Outcome shelf request result) where
      given : AreReads shelf.texts (files_of words) o.reads shelf.failed shelf.failed'
      given = subst (λ (q : Option Request). AreReads shelf.texts (requested q) o.reads shelf.failed shelf.failed') (sym asked) o.given

      -- an answer that was written
      pub answer_serves : (report : Report) → result ≡ Ok report → IsWritten (answer_of report) sink status → Serves words shelf sink status
      answer_serves report is w =
          let a : IsAnswerTo request o.reads (answer_of report) = subst (λ (r : Result Report E). IfOk r (λ t. IsAnswerTo request o.reads (answer_of t))) is o.answered in
          serves_by words o.reads shelf sink status given (written (answered asked a) w)

      -- no memory
      pub memory_serves : status ≡ 7 → sink.taken' ≡ sink.taken → sink.faults' ≡ sink.faults → Serves words shelf sink status
      memory_serves seven told same = serves_by words o.reads shelf sink status given (no_memory asked o.may seven told same)

-- an answer has a text
pub answer_some : {E : Type 0} (shelf : ShelfChange) (request : Request) (result : Result Report E) → Outcome shelf request result → (report : Report) → result ≡ Ok report → 1 ≤ length (answer_of report).text
answer_some {E = E} shelf request result o report is =
    let a : IsAnswerTo request o.reads (answer_of report) = subst (λ (r : Result Report E). IfOk r (λ t. IsAnswerTo request o.reads (answer_of t))) is o.answered in
    (answer_fits a).some
