-- On the way to the proof: what the parts of the top call make of a text, a job, a file or a request.
use Rattle.std.specs.Prelude.{ℕ, List, [], ◌∷◌, Result, IfOk, Option, Some, None}
use Rattle.shade_core.specs.declared.module.CoreModule.{CoreModule}
use Rattle.shade_lex.specs.declared.fault.LexFault.{LexFault}
use Rattle.shade_lex.specs.declared.fault.LexFault.TheVariants as lex_fault
use Rattle.shade_lex.specs.declared.piece.Problem.TheVariants as problem
use Rattle.shade_cursor.specs.declared.fault.SyntaxFault.{SyntaxFault}
use Rattle.shade_cursor.specs.declared.fault.SyntaxFault.TheVariants as syntax_fault
use Rattle.shade_report.specs.declared.refusal.Refusal.{Refusal}
use Rattle.shade_report.specs.declared.refusal.Refusal.TheVariants.{Lex, Unexpected, TooDeep}
use Rattle.shade_files.specs.Changes.{ShelfChange}
use Rattle.shade_files.specs.Reads.{AreReads}
use Rattle.shade_files.specs.Writes.{Answer}
use Rattle.shade_top.specs.Answer.{IsAnswerTo, MayRead}
use Rattle.shade_top.specs.Request as asked
use Rattle.shade_top.specs.Request.{files, job_file}
use Rattle.shade_top.specs.Text.{IsModuleOf, IsRefused}
use Rattle.shade_top.specs.declared.report.Report.{Report}
use Rattle.shade_top.specs.declared.request.Request.{Request}
use Rattle.shade_top.specs.declared.request.Request.TheVariants as request
use Rattle.shade_top.specs.declared.text.Reading.{Reading}
use Rattle.shade_top.specs.declared.text.Reading.TheVariants as reading

abbrev pub answer_of : Report → Answer
answer_of report = record { status = report.status.0; text = report.text.items }

-- what a request with borrowed names asks for
abbrev pub request_seen : Request → asked.Request
request_seen (request.Check file) = asked.Check file.now
request_seen (request.Run file job) = asked.Run file.now job.now

-- the refusals that the faults of the layers are; there is none where memory is wanting
abbrev pub lex_refusal : LexFault → Option Refusal
lex_refusal (lex_fault.BadCharacter place) = Some (Lex problem.BadCharacter place)
lex_refusal (lex_fault.OpenComment place) = Some (Lex problem.OpenComment place)
lex_refusal (lex_fault.BadNumber place) = Some (Lex problem.BadNumber place)
lex_refusal (lex_fault.NumberTooLarge place) = Some (Lex problem.NumberTooLarge place)
lex_refusal (lex_fault.FloatLiteral place) = Some (Lex problem.FloatLiteral place)
lex_refusal lex_fault.NoMemory = None

abbrev pub syntax_refusal : SyntaxFault → Option Refusal
syntax_refusal (syntax_fault.Unexpected place) = Some (Unexpected place)
syntax_refusal (syntax_fault.TooDeep place) = Some (TooDeep place)
syntax_refusal syntax_fault.NoMemory = None

-- what is made of a text: the module that it stands for, or why it is refused
abbrev pub IsReadingOf : List ℕ → Reading → Type 0
IsReadingOf bytes (reading.Shader shader) = IsModuleOf bytes shader
IsReadingOf bytes (reading.Refused why) = IsRefused bytes why

-- the reads that a request led to, and the answer to them, if memory did not run out
pub record Outcome {E : Type 0} (shelf : ShelfChange) (request : asked.Request) (result : Result Report E) : Type 0 where
  pub reads : List (Option (List ℕ))
  pub given : AreReads shelf.texts (files request) reads shelf.failed shelf.failed'
  pub may : MayRead request reads
  pub answered : IfOk result (λ report. IsAnswerTo request reads (answer_of report))

-- the same of a run whose shader is read already
pub record RunOutcome {E : Type 0} (shelf : ShelfChange) (bytes job : List ℕ) (result : Result Report E) : Type 0 where
  pub reads : List (Option (List ℕ))
  pub given : AreReads shelf.texts (job_file job ∷ []) reads shelf.failed shelf.failed'
  pub may : (file : List ℕ) → MayRead (asked.Run file job) (Some bytes ∷ reads)
  pub answered : (file : List ℕ) → IfOk result (λ report. IsAnswerTo (asked.Run file job) (Some bytes ∷ reads) (answer_of report))
