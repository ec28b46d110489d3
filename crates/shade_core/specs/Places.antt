-- The places of the statements of a function, in structure order. As statements are numbered in that order, that of the statement with
-- number n stands at place n.
use Rattle.std.specs.Prelude.{List, [], ◌∷◌, ◌++◌, map}
use Rattle.shade_base.specs.declared.place.Place.{Place}
use Rattle.shade_core.specs.declared.statement.Act.{Act, Act-F, fold-Act}
use Rattle.shade_core.specs.declared.statement.Act.TheOpen.{If, Switch, Loop, CoreStatement-F, SwitchPart-F}
use Rattle.shade_core.specs.declared.statement.CoreStatement.{CoreStatement, fold-CoreStatement}
use Rattle.shade_core.specs.declared.statement.SwitchPart.{SwitchPart, fold-SwitchPart}

-- lists one after another
abbrev pub all_of : {A : Type 0} → List (List A) → List A
all_of [] = []
all_of (xs ∷ rest) = xs ++ all_of rest

-- of the statements of the parts of an act
abbrev pub act_step : Act-F (List Place) (List Place) (List Place) → List Place
act_step (If cond first second) = all_of first ++ all_of second
act_step (Switch selector parts) = all_of parts
act_step (Loop body continuing leave) = all_of body ++ all_of continuing
act_step _ = []

abbrev pub statement_step : CoreStatement-F (List Place) (List Place) (List Place) → List Place
statement_step s = s.place ∷ s.act

abbrev pub part_step : SwitchPart-F (List Place) (List Place) (List Place) → List Place
part_step p = all_of p.body

abbrev pub places_in : Act → List Place
places_in = fold-Act (List Place) (List Place) (List Place) act_step statement_step part_step

-- of a statement, and then of those in its parts
abbrev pub statement_places : CoreStatement → List Place
statement_places = fold-CoreStatement (List Place) (List Place) (List Place) act_step statement_step part_step

abbrev pub part_places : SwitchPart → List Place
part_places = fold-SwitchPart (List Place) (List Place) (List Place) act_step statement_step part_step

abbrev pub list_places : List CoreStatement → List Place
list_places statements = all_of (map statement_places statements)
