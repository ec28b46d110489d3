-- Rules: what lanes that meet have in common of where they stand.
use Rattle.std.specs.Prelude.{ℕ, List, [], ◌∷◌, ◌++◌}
use Rattle.shade_core.specs.Frames.{frame_words}
use Rattle.shade_frames.specs.Control.{Rest, halt, seq, in_body, in_continuing, in_switch, back}

-- the counts of the loops that are open in the function, the outermost first
abbrev pub counts : Rest → List ℕ
counts halt = []
counts (seq c k) = counts k
counts (in_body m turn k) = counts k ++ turn ∷ []
counts (in_continuing m turn k) = counts k ++ turn ∷ []
counts (in_switch k) = counts k
counts (back n g args k) = []

-- the number of the function, where that of the entry is given
abbrev pub function_in : ℕ → Rest → ℕ
function_in entry halt = entry
function_in entry (seq c k) = function_in entry k
function_in entry (in_body m turn k) = function_in entry k
function_in entry (in_continuing m turn k) = function_in entry k
function_in entry (in_switch k) = function_in entry k
function_in entry (back n g args k) = g

-- of a function that stands at a statement, without the calls outside of it
abbrev pub own_words : ℕ → ℕ → Rest → List ℕ
own_words entry n k = frame_words (record { function = function_in entry k; statement = n; turns = counts k })

-- of the calls outside of the function, the outermost first
abbrev pub outer_words : ℕ → Rest → List ℕ
outer_words entry halt = []
outer_words entry (seq c k) = outer_words entry k
outer_words entry (in_body m turn k) = outer_words entry k
outer_words entry (in_continuing m turn k) = outer_words entry k
outer_words entry (in_switch k) = outer_words entry k
outer_words entry (back n g args k) = outer_words entry k ++ own_words entry n k

-- The instance of a lane at a statement: for each open call, from the entry inwards, its function, the statement that stands there, how many
-- loops are open, and their counts.
abbrev pub instance : ℕ → ℕ → Rest → List ℕ
instance entry n k = outer_words entry k ++ own_words entry n k
