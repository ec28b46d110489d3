-- A lane goes by control flow: the ways over which definitions reach are those along which a lane steps.
use Rattle.std.specs.Prelude.{◌≡◌, ℕ, zero, suc, Bool, true, false, List, Option}
use Rattle.shade_values.specs.declared.value.Value.{Value}
use Rattle.shade_core.specs.declared.module.CoreFunction.{CoreFunction}
use Rattle.shade_core.specs.Code.{code_of}
use Rattle.shade_core.specs.Rules.{has_rules}
use Rattle.shade_flow.specs.declared.point.Point.{Point}
use Rattle.shade_flow.specs.declared.point.Point.TheVariants.{Past}
use Rattle.shade_flow.specs.Flow.{Mark, Ways, entry}
use Rattle.shade_lane.specs.Lane.{Place, Over, First, Lane, begin, step, is_over}

-- the point at which a lane stands: before its next statement, or past its function
abbrev pub point_of : Place → Point
point_of Over = Past
point_of (First c k) = entry c Past

-- a lane with these parameters after so many steps of its own
abbrev pub after_steps : List (Option Value) → Lane → ℕ → Lane
after_steps params lane zero = lane
after_steps params lane (suc count) = step params (after_steps params lane count)

-- Whatever its parameters are, and however often it stepped, the next step of a lane leads from the point at which it stands to the next
-- by a way of its function.
abbrev pub StepsAreWays : Type 0
StepsAreWays =
    (function : CoreFunction) (params : List (Option Value)) (count : ℕ) → has_rules function ≡ true
    → is_over (after_steps params (begin (code_of function.body)) count).place ≡ false
    → (mark : Mark) × Ways (code_of function.body) (point_of (after_steps params (begin (code_of function.body)) count).place) mark (point_of (after_steps params (begin (code_of function.body)) (suc count)).place)
