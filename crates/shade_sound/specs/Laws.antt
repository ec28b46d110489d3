-- Clean modules converge, over all lists of lane steps. Lists may name any numbers: a number that is no lane's is a step that changes
-- nothing but the counts.
use Rattle.std.specs.Prelude.{◌≡◌, ◌⊎◌, ℕ, Bool, true, false, List, ◌++◌, Option, None, Some, slice_get}
use Rattle.shade_core.specs.declared.module.CoreModule.{CoreModule}
use Rattle.shade_core.specs.Standing.{AreNumbered}
use Rattle.shade_verdict.specs.Clean.{IsClean}
use Rattle.shade_mem.specs.declared.inputs.Inputs.{Inputs}
use Rattle.shade_lane.specs.Members.{Member, is_ended}
use Rattle.shade_group.specs.Group.{Machine, IsRunnable, begin, run, trace}

-- No run of a clean module has diverged, whatever the spaces and severities of its barriers are. Its statements are numbered in
-- structure order, and the machine runs its entry.
abbrev pub NeverDiverges : Type 0
NeverDiverges =
    (shader : CoreModule) (inputs : Inputs) (steps : List ℕ) → AreNumbered shader.functions → IsRunnable shader inputs.entry → IsClean shader.functions → (run (begin shader inputs) steps).diverged ≡ None

abbrev pub IsPrefixOf : List (List ℕ) → List (List ℕ) → Type 0
IsPrefixOf xs ys = (rest : List (List ℕ)) × (xs ++ rest ≡ ys)

abbrev pub has_ended : Option Member → Bool
has_ended None = false
has_ended (Some member) = is_ended member.state

-- Of the traces of two lanes of such a module one is a prefix of the other, and where a lane has ended, the other's is a prefix of its.
abbrev pub TracesAgree : Type 0
TracesAgree =
    (shader : CoreModule) (inputs : Inputs) (steps : List ℕ) (one other : ℕ) → AreNumbered shader.functions → IsRunnable shader inputs.entry → IsClean shader.functions
    → (IsPrefixOf (trace (begin shader inputs) steps one) (trace (begin shader inputs) steps other)
    ⊎ IsPrefixOf (trace (begin shader inputs) steps other) (trace (begin shader inputs) steps one))
    × (has_ended (slice_get (run (begin shader inputs) steps).members one) ≡ true
    → IsPrefixOf (trace (begin shader inputs) steps other) (trace (begin shader inputs) steps one))
