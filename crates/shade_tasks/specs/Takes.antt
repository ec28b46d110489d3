-- Rule: steps are taken in order, each by its rule and by what is known before it. The first that fails is the fault.
use Rattle.std.specs.Prelude.{◌≡◌, ℕ, ◌≤◌, false, List, [], ◌∷◌, length, drop, Option, Result, Ok, Err}
use Rattle.shade_base.specs.declared.place.Place.{Place}
use Rattle.shade_scope.specs.declared.scoped.Meaning.{Meaning}
use Rattle.shade_known.specs.declared.known.Found.{Found}
use Rattle.shade_known.specs.declared.known.Known.{Known}
use Rattle.shade_known.specs.declared.known.Operand.{Operand}
use Rattle.shade_known.specs.declared.fault.TypingFault.{TypingFault}
use Rattle.shade_known.specs.declared.fault.TypingFault.TheVariants as fault
use Rattle.shade_known.specs.declared.fault.TypeRule.TheVariants as rule
use Rattle.shade_known.specs.Keeps.{Keeps, IsFoundLarge}
use Rattle.shade_steps.specs.declared.step.Step.{Step}
use Rattle.shade_steps.specs.declared.step.Task.{Task}
use Rattle.shade_steps.specs.declared.step.Task.TheVariants as task
use Rattle.shade_tasks.specs.Rules.{Rule, is_asked}

-- where a type of too many bytes is told: at the count of an array that has one
abbrev pub count_place : List Operand → Place → Place
count_place (element ∷ count ∷ []) place = count.place
count_place _ place = place

abbrev pub size_place : Task → Place → Place
size_place (task.Template name arguments) place = count_place arguments place
size_place _ place = place

-- what is known in the end, and the steps that are left (none, or from the first on that is not asked here) or the fault; at a fault is known what
-- the steps before the failing one gave
pub data Takes (uses : List (Option Meaning)) (names : List (List ℕ)) : List Step → Known → Known → Result (List Step) TypingFault → Type 0 where
  ends : {k : Known} → Takes uses names [] k k (Ok [])
  leaves : {s : Step} {others : List Step} {k : Known} → is_asked k s.task ≡ false → Takes uses names (s ∷ others) k k (Ok (s ∷ others))
  goes_on : {s : Step} {others : List Step} {k next last : Known} {r : Result (List Step) TypingFault} (f : Found)
      → Rule uses names k s (Ok f) → ¬ IsFoundLarge k.types f → Keeps k s.node f next → Takes uses names others next last r → Takes uses names (s ∷ others) k last r
  fails : {s : Step} {others : List Step} {k : Known} (f : TypingFault) → Rule uses names k s (Err f) → Takes uses names (s ∷ others) k k (Err f)
  too_large : {s : Step} {others : List Step} {k : Known} (f : Found) → Rule uses names k s (Ok f) → IsFoundLarge k.types f
      → Takes uses names (s ∷ others) k k (Err (fault.Rule (size_place s.task s.place) rule.Size))

-- what is known after some of the steps, from the first one on
pub data Begins (uses : List (Option Meaning)) (names : List (List ℕ)) : List Step → Known → Known → Type 0 where
  stops : {steps : List Step} {k : Known} → Begins uses names steps k k
  one_more : {s : Step} {others : List Step} {k next last : Known} (f : Found)
      → Rule uses names k s (Ok f) → ¬ IsFoundLarge k.types f → Keeps k s.node f next → Begins uses names others next last → Begins uses names (s ∷ others) k last

-- what a call may answer: how many steps it took, or the fault; want of memory may come in place of each, after some of the steps
abbrev pub Taken : List (Option Meaning) → List (List ℕ) → List Step → Known → Known → Result ℕ TypingFault → Type 0
Taken uses names steps old new (Ok n) = (n ≤ length steps) × Takes uses names steps old new (Ok (drop n steps))
Taken uses names steps old new (Err (fault.Rule place broken)) = Takes uses names steps old new (Err (fault.Rule place broken))
Taken uses names steps old new (Err (fault.OutOfProfile place word)) = Takes uses names steps old new (Err (fault.OutOfProfile place word))
Taken uses names steps old new (Err (fault.Constant f)) = Takes uses names steps old new (Err (fault.Constant f))
Taken uses names steps old new (Err fault.NoMemory) = Begins uses names steps old new
