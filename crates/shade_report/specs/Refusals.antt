-- The lines that say why a text or a job is refused.
use Rattle.std.specs.Prelude.{ℕ, List, ◌++◌, codes}
use Rattle.std.specs.Fmt.{decimal}
use Rattle.shade_base.specs.declared.place.Place.{Place}
use Rattle.shade_lex.specs.declared.piece.Problem.{Problem}
use Rattle.shade_lex.specs.declared.piece.Problem.TheVariants as problem
use Rattle.shade_report.specs.declared.refusal.Refusal.{Refusal}
use Rattle.shade_report.specs.declared.refusal.Refusal.TheVariants.{TooLong, Utf8, Lex, Unexpected, TooDeep, NotYet}

abbrev pub problem_name : Problem → List ℕ
problem_name problem.BadCharacter = codes "BadCharacter"
problem_name problem.OpenComment = codes "OpenComment"
problem_name problem.BadNumber = codes "BadNumber"
problem_name problem.NumberTooLarge = codes "NumberTooLarge"
problem_name problem.FloatLiteral = codes "FloatLiteral"

-- the line of a layer that names what is wrong at a place
abbrev pub line_at : List ℕ → Place → List ℕ → List ℕ
line_at layer place name = (codes "refused " ++ layer) ++ ((codes " " ++ decimal place.line) ++ ((codes ":" ++ decimal place.column) ++ ((codes " " ++ name) ++ codes "\n")))

-- the line of a text
abbrev pub refusal_line : Refusal → List ℕ
refusal_line TooLong = codes "refused length\n"
refusal_line (Utf8 offset) = (codes "refused utf8 " ++ decimal offset) ++ codes "\n"
refusal_line (Lex what place) = line_at (codes "lex") place (problem_name what)
refusal_line (Unexpected place) = line_at (codes "syntax") place (codes "Unexpected")
refusal_line (TooDeep place) = line_at (codes "syntax") place (codes "TooDeep")
refusal_line (NotYet offset) = (codes "refused notyet " ++ decimal offset) ++ codes "\n"

-- the line of a job that breaks the rule on its form
abbrev pub job_refusal_line : List ℕ
job_refusal_line = codes "refused job / J1\n"
