-- A law of the definitions that reach.
use Rattle.std.specs.Prelude.{◌↔◌}
use Rattle.shade_core.specs.declared.statement.Base.{Base}
use Rattle.shade_core.specs.Code.{Code}
use Rattle.shade_flow.specs.declared.definition.Definition.{Definition}
use Rattle.shade_flow.specs.declared.point.Point.{Point}
use Rattle.shade_flow.specs.Flow.{Reaches}
use Rattle.shade_flow.specs.Exits.{Stands, ReachesByExits}
use Rattle.shade_flow.specs.Exact.{IsNumbered}

-- The same definitions reach, whether or not walks stand at the exits of statements.
abbrev pub ReachesAlike : Type 0
ReachesAlike = (body : Code) (variable : Base) (by : Definition) (point : Point) → IsNumbered body → Reaches body variable by point ↔ ReachesByExits body variable by (Stands point)
