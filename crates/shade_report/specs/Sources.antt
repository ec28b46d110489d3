-- What a report tells of the statements of a function, in structure order. As statements are numbered in that order, the statement
-- with number n is told at place n.
use Rattle.std.specs.Prelude.{List, [], ◌∷◌, ◌++◌, map}
use Rattle.shade_core.specs.declared.statement.Act.{Act, Act-F, fold-Act}
use Rattle.shade_core.specs.declared.statement.Act.TheOpen.{Call, Barrier, UniformLoad, If, Switch, Loop, CoreStatement-F, SwitchPart-F}
use Rattle.shade_core.specs.declared.statement.CoreStatement.{CoreStatement, fold-CoreStatement}
use Rattle.shade_core.specs.declared.statement.SwitchPart.{SwitchPart, fold-SwitchPart}
use Rattle.shade_report.specs.declared.source.Source.{Source}
use Rattle.shade_report.specs.declared.source.Callee.{Callee}
use Rattle.shade_report.specs.declared.source.Callee.TheVariants as callee

-- lists one after another
abbrev pub all_of : {A : Type 0} → List (List A) → List A
all_of [] = []
all_of (xs ∷ rest) = xs ++ all_of rest

-- the function that an act calls, and what is told of the statements inside it
abbrev pub ActTold : Type 0
ActTold = Callee × List Source

abbrev pub act_step : Act-F ActTold (List Source) (List Source) → ActTold
act_step (Call function args) = (callee.Function function, [])
act_step (Barrier space severity) = (callee.Barrier space, [])
act_step (UniformLoad view severity) = (callee.UniformLoad, [])
act_step (If cond first second) = (callee.Nothing, all_of first ++ all_of second)
act_step (Switch selector parts) = (callee.Nothing, all_of parts)
act_step (Loop body continuing leave) = (callee.Nothing, all_of body ++ all_of continuing)
act_step _ = (callee.Nothing, [])

abbrev pub statement_step : CoreStatement-F ActTold (List Source) (List Source) → List Source
statement_step s = record { place = s.place; callee = s.act.0 } ∷ s.act.1

abbrev pub part_step : SwitchPart-F ActTold (List Source) (List Source) → List Source
part_step p = all_of p.body

abbrev pub act_told : Act → ActTold
act_told = fold-Act ActTold (List Source) (List Source) act_step statement_step part_step

-- a statement, and then those inside it
abbrev pub statement_sources : CoreStatement → List Source
statement_sources = fold-CoreStatement ActTold (List Source) (List Source) act_step statement_step part_step

abbrev pub part_sources : SwitchPart → List Source
part_sources = fold-SwitchPart ActTold (List Source) (List Source) act_step statement_step part_step

abbrev pub list_sources : List CoreStatement → List Source
list_sources statements = all_of (map statement_sources statements)
