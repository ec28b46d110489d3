-- Laws: from what is known, each step has one answer.
use Rattle.std.specs.Prelude.{◌≡◌, ℕ, List, Option, Result}
use Rattle.shade_scope.specs.declared.scoped.Meaning.{Meaning}
use Rattle.shade_known.specs.declared.known.Known.{Known}
use Rattle.shade_known.specs.declared.fault.TypingFault.{TypingFault}
use Rattle.shade_steps.specs.declared.step.Step.{Step}
use Rattle.shade_typing.specs.Values.{Answer}
use Rattle.shade_tasks.specs.Rules.{Rule}
use Rattle.shade_tasks.specs.Takes.{Takes}

abbrev pub StepsFindOneThing : Type 0
StepsFindOneThing =
    (uses : List (Option Meaning)) (names : List (List ℕ)) (k : Known) (s : Step) (r t : Answer) → Rule uses names k s r → Rule uses names k s t → r ≡ t

-- steps that are taken from what is known end in one way: in the same fault or with the same steps left, and with the same known
abbrev pub TakesEndInOneWay : Type 0
TakesEndInOneWay =
    (uses : List (Option Meaning)) (names : List (List ℕ)) (steps : List Step) (old new other : Known) (r t : Result (List Step) TypingFault)
    → Takes uses names steps old new r → Takes uses names steps old other t → (new ≡ other) × (r ≡ t)
