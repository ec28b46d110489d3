-- All rows of a function, tags aside (a rule).
use Rattle.std.specs.Prelude.{◌↔◌, List}
use Rattle.shade_core.specs.declared.module.CoreFunction.{CoreFunction}
use Rattle.shade_core.specs.declared.module.CoreModule.{CoreModule}
use Rattle.shade_core.specs.Code.{Code, code_of}
use Rattle.shade_graph.specs.declared.node.Node.{Node}
use Rattle.shade_graph.specs.declared.node.Node.TheVariants.{Start}
use Rattle.shade_graph.specs.Graph.{Among}
use Rattle.shade_uniformity.specs.declared.rows.Given.{Given}
use Rattle.shade_uniformity.specs.Structure.{Starts, Analysed}
use Rattle.shade_uniformity.specs.Rows.{Row}

-- An analysed statement gives a row by the rules of its own kind: an edge where both its ends are nodes.
pub record IsGiven (shader : CoreModule) (function : CoreFunction) (given : Given) : Type 0 where
  pub under : Node
  pub here : Code
  pub rest : Code
  pub stands : Analysed Start (code_of function.body) under here
  pub numbered : Starts here given.statement rest
  pub row : Row shader function under here given.from given.to

-- The rows are exactly those that analysed statements give.
abbrev pub AreRows : CoreModule → CoreFunction → List Given → Type 0
AreRows shader function rows = (row : Given) → Among row rows ↔ IsGiven shader function row
