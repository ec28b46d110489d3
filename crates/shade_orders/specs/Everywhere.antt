-- On the way to the law: a fact of each statement without parts of some code, and of all that a lane has left.
use Rattle.std.specs.Prelude.{◌≡◌, ℕ, List, Option, Some}
use Rattle.shade_base.specs.declared.severity.Severity.{Severity}
use Rattle.shade_values.specs.declared.types.Space.{Space}
use Rattle.shade_core.specs.Code.{Plain, Barrier, Code, done, plain, jump, call, branch, switch, loop, no_part, part}
use Rattle.shade_values.specs.declared.value.Value.{Value}
use Rattle.shade_lane.specs.Lane.{Rest, halt, seq, Place, Over, First}
use Rattle.shade_lane.specs.Lane as lanes
use Rattle.shade_lane.specs.Members.{Arrival, arrival}

module _ (P : ℕ → Plain → Type 0) where
  abbrev pub AllPlain : Code → Type 0
  AllPlain done = Unit {0}
  AllPlain (plain n act rest) = P n act × AllPlain rest
  AllPlain (jump n act rest) = AllPlain rest
  AllPlain (call n g args rest) = AllPlain rest
  AllPlain (branch n cond one two rest) = AllPlain one × AllPlain two × AllPlain rest
  AllPlain (switch n selector parts rest) = AllPlain parts × AllPlain rest
  AllPlain (loop n body continuing leave rest) = AllPlain body × AllPlain continuing × AllPlain rest
  AllPlain no_part = Unit {0}
  AllPlain (part n which keys fallback body others) = AllPlain body × AllPlain others

  abbrev pub AllRest : Rest → Type 0
  AllRest halt = Unit {0}
  AllRest (seq c k) = AllPlain c × AllRest k

  abbrev pub AllPlace : Place → Type 0
  AllPlace Over = Unit {0}
  AllPlace (First c k) = AllPlain c × AllRest k

-- the space of a barrier is told by the number of its statement
abbrev pub HasSpace : (ℕ → Space) → ℕ → Plain → Type 0
HasSpace at n act = (space : Space) (severity : Severity) → act ≡ Barrier space severity → space ≡ at n

-- A fact of members that a step keeps, and where it holds, the space of a barrier is told by its instance.
pub record IsSpaced (space_at : List ℕ → Space) (Good : ℕ → List (Option Value) → lanes.Lane → Type 0) : Type 0 where
  pub after : (entry : ℕ) (params : List (Option Value)) (lane : lanes.Lane) → Good entry params lane → Good entry params (lanes.step params lane)
  pub space : (entry : ℕ) (params : List (Option Value)) (lane : lanes.Lane) (a : Arrival) → Good entry params lane → arrival entry lane.place ≡ Some a → a.space ≡ space_at a.instance
