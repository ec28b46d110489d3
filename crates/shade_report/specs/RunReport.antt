-- The report of a run: how it ended, where it diverged, the released instances, and the races. Modules have no variables yet: there
-- are no lines of buffers, and no step touches memory, so there is no race.
use Rattle.std.specs.Prelude.{ℕ, zero, suc, ◌+◌, List, [], ◌∷◌, ◌++◌, codes, length, Option, Some, None}
use Rattle.std.specs.List.{join_by}
use Rattle.std.specs.Fmt.{decimal}
use Rattle.shade_core.specs.declared.module.CoreFunction.{CoreFunction}
use Rattle.shade_core.specs.Frames.{Frame}
use Rattle.shade_group.specs.declared.event.RunEnd.{RunEnd}
use Rattle.shade_group.specs.declared.event.RunEnd.TheVariants.{Ended, Diverged, Running}
use Rattle.shade_group.specs.Group.{Machine, run_end_of, waiting_at}
use Rattle.shade_report.specs.CheckReport.{function_name}

-- ---- instances

-- what the next word of an instance is
pub data Next : Type 0 where
  OfFunction : Next
  OfStatement : ℕ → Next
  OfLoops : ℕ → ℕ → Next
  -- the count of a loop, where so many follow it and those before it are known
  OfTurn : ℕ → ℕ → ℕ → List ℕ → Next

-- The frames that some words write, whose next word is this.
abbrev pub frames_from : Next → List ℕ → List Frame
frames_from next [] = []
frames_from OfFunction (w ∷ words) = frames_from (OfStatement w) words
frames_from (OfStatement f) (w ∷ words) = frames_from (OfLoops f w) words
frames_from (OfLoops f s) (zero ∷ words) = record { function = f; statement = s; turns = [] } ∷ frames_from OfFunction words
frames_from (OfLoops f s) (suc n ∷ words) = frames_from (OfTurn f s n []) words
frames_from (OfTurn f s zero turns) (w ∷ words) = record { function = f; statement = s; turns = turns ++ w ∷ [] } ∷ frames_from OfFunction words
frames_from (OfTurn f s (suc n) turns) (w ∷ words) = frames_from (OfTurn f s n (turns ++ w ∷ [])) words

-- the frames of an instance, outermost first
abbrev pub frames_of : List ℕ → List Frame
frames_of words = frames_from OfFunction words

-- the function, the statement, and in parentheses the counts of the loops, with commas between
abbrev pub frame_text : List CoreFunction → Frame → List ℕ
frame_text functions f = (((function_name functions f.function ++ (codes "#" ++ decimal f.statement)) ++ codes "(") ++ join_by decimal (codes ",") f.turns) ++ codes ")"

-- the frames, with slashes between
abbrev pub instance_text : List CoreFunction → List ℕ → List ℕ
instance_text functions words = join_by (frame_text functions) (codes "/") (frames_of words)

-- ---- lines

abbrev pub end_word : RunEnd → List ℕ
end_word Ended = codes "ended"
end_word (Diverged one other) = codes "diverged"
end_word Running = codes "spent"

-- how the run ended, the steps taken, and how many of them were stutters
abbrev pub run_line : Machine → List ℕ
run_line m = (codes "run " ++ end_word (run_end_of m)) ++ ((codes " steps " ++ decimal m.steps) ++ ((codes " stutters " ++ decimal m.stutters) ++ codes "\n"))

abbrev pub stop_text : List CoreFunction → Option (List ℕ) → List ℕ
stop_text functions None = codes " ended\n"
stop_text functions (Some instance) = (codes " at " ++ instance_text functions instance) ++ codes "\n"

-- a lane that stopped: where it waits, or that it ended
abbrev pub lane_line : List CoreFunction → Machine → ℕ → List ℕ
lane_line functions m lane = (codes "lane " ++ decimal lane) ++ stop_text functions (waiting_at m lane)

-- the two lanes that stopped unlike each other, the lesser number first
abbrev pub lane_lines : List CoreFunction → Machine → RunEnd → List ℕ
lane_lines functions m (Diverged one other) = lane_line functions m one ++ lane_line functions m other
lane_lines functions m _ = []

abbrev pub release_line : List CoreFunction → ℕ → List ℕ → List ℕ
release_line functions number instance = (((codes "release " ++ decimal number) ++ codes " ") ++ instance_text functions instance) ++ codes "\n"

-- the released instances, the first of which has this number
abbrev pub release_lines : List CoreFunction → ℕ → List (List ℕ) → List ℕ
release_lines functions number [] = []
release_lines functions number (instance ∷ instances) = release_line functions number instance ++ release_lines functions (number + 1) instances

abbrev pub released_line : Machine → List ℕ
released_line m = (codes "released " ++ decimal (length m.released)) ++ codes "\n"

abbrev pub run_report : List CoreFunction → Machine → List ℕ
run_report functions m =
    (((run_line m ++ lane_lines functions m (run_end_of m)) ++ released_line m) ++ release_lines functions 0 m.released) ++ codes "races 0\n"
