-- What is to be done, turn by turn, as the code does it: a declaration that is begun puts a turn for each that it names in front of its own.
use Rattle.std.specs.Prelude.{ℕ, suc, ◌+◌, Bool, true, false, List, [], ◌∷◌, ◌++◌, length, get_or, set, map}
use Rattle.shade_declared.specs.declared.taking.Turn.{Turn}
use Rattle.shade_declared.specs.declared.taking.Turn.TheVariants as turn

abbrev pub marked : Bool → List Bool → ℕ → List Bool
marked true marks d = marks
marked false marks d = set marks d true

-- which are begun, once this one is
abbrev pub with_mark : List Bool → ℕ → List Bool
with_mark marks d = marked (get_or marks d true) marks d

abbrev pub turns_by : Bool → List (List ℕ) → ℕ → List Turn
turns_by true named d = []
turns_by false named d = map turn.Begin (get_or named d []) ++ turn.Take d ∷ []

abbrev pub first_turns : List (List ℕ) → List Bool → ℕ → List Turn
first_turns named marks d = turns_by (get_or marks d true) named d

abbrev pub marks_after : Turn → List Bool → List Bool
marks_after (turn.Begin d) marks = with_mark marks d
marks_after (turn.Take d) marks = marks

abbrev pub turns_after : List (List ℕ) → Turn → List Bool → List Turn
turns_after named (turn.Begin d) marks = first_turns named marks d
turns_after named (turn.Take d) marks = []

abbrev pub taken_by : Turn → List ℕ
taken_by (turn.Begin d) = []
taken_by (turn.Take d) = d ∷ []

-- how many turns those are still to give that are not begun
abbrev pub turns_of : Bool → ℕ → ℕ
turns_of true names = 0
turns_of false names = suc names

abbrev pub to_come : List Bool → List (List ℕ) → ℕ
to_come [] named = 0
to_come (mark ∷ marks) [] = turns_of mark 0 + to_come marks []
to_come (mark ∷ marks) (names ∷ named) = turns_of mark (length names) + to_come marks named
