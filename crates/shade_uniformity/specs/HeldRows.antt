-- The rows of definitions that reach analysed statements (on the way to proofs).
use Rattle.std.specs.Prelude.{◌≡◌, ◌↔◌, ◌⊎◌, ℕ, ◌<◌, List}
use Rattle.shade_core.specs.declared.module.CoreFunction.{CoreFunction}
use Rattle.shade_core.specs.declared.statement.Base.{Base}
use Rattle.shade_core.specs.declared.statement.Base.TheVariants.{Pointee}
use Rattle.shade_core.specs.Code.{Plain, Set, Load, Declare, Store, Atomic, Barrier, UniformLoad, Length, Jump, Break, Continue, Return}
use Rattle.shade_core.specs.Standing.{Head, does, jumps, calls, branches, switches, loops}
use Rattle.shade_flow.specs.declared.definition.Definition.{Definition}
use Rattle.shade_graph.specs.declared.node.Node.{Node}
use Rattle.shade_graph.specs.declared.node.Node.TheVariants.{ContentsOut, Value}
use Rattle.shade_graph.specs.Graph.{Among}
use Rattle.shade_uniformity.specs.declared.held.Needs.{Needs}
use Rattle.shade_uniformity.specs.declared.held.Needs.TheVariants as needs
use Rattle.shade_uniformity.specs.declared.rows.Given.{Given}
use Rattle.shade_uniformity.specs.Rows.{IsHeld, definition_node}
use Rattle.shade_uniformity.specs.RowLists.{given}
use Rattle.shade_uniformity.specs.Visits.{Visit}

-- some rows have come to others: exactly those with a property
abbrev pub Adds : (Given → Type 0) → List Given → List Given → Type 0
Adds property old new = (row : Given) → Among row new ↔ (Among row old ⊎ property row)

-- a row to a definition of a variable that reaches the statement with a number
pub record IsHeldRow (function : CoreFunction) (n : ℕ) (u : Node) (variable : Base) (row : Given) : Type 0 where
  pub by : Definition
  pub held : IsHeld function variable n by
  pub is : row ≡ given n u (definition_node by)

-- a row of what one of the first parameters points to as the function returns at the statement with a number
pub record IsContentsRow (function : CoreFunction) (n count : ℕ) (row : Given) : Type 0 where
  pub param : ℕ
  pub within : param < count
  pub one : IsHeldRow function n (ContentsOut param) (Pointee param) row

-- of any of its parameters
pub record IsReturnRow (function : CoreFunction) (n : ℕ) (row : Given) : Type 0 where
  pub param : ℕ
  pub one : IsHeldRow function n (ContentsOut param) (Pointee param) row

-- what a statement needs of the definitions that reach it

abbrev pub plain_needs : Plain → Needs
plain_needs (Set op args) = needs.Nothing
plain_needs (Load view) = needs.Load view.base
plain_needs (Declare local value) = needs.Nothing
plain_needs (Store view value) = needs.Nothing
plain_needs (Atomic op view args) = needs.Nothing
plain_needs (Barrier space severity) = needs.Nothing
plain_needs (UniformLoad view severity) = needs.Nothing
plain_needs (Length view) = needs.Nothing

abbrev pub jump_needs : Jump → Needs
jump_needs Break = needs.Nothing
jump_needs Continue = needs.Nothing
jump_needs (Return value) = needs.Return

abbrev pub needs_of : Head → Needs
needs_of (does act) = plain_needs act
needs_of (jumps act) = jump_needs act
needs_of (calls g args) = needs.Nothing
needs_of (branches cond) = needs.Nothing
needs_of (switches selector cases) = needs.Nothing
needs_of (loops leave) = needs.Nothing

-- a row of a definition that reaches the statement with a number and that it needs
abbrev pub NeedsHeld : CoreFunction → ℕ → Needs → Given → Type 0
NeedsHeld function n (needs.Load variable) row = IsHeldRow function n (Value n) variable row
NeedsHeld function n needs.Return row = IsReturnRow function n row
NeedsHeld function n needs.Nothing row = ⊥

abbrev pub VisitHeld : CoreFunction → Visit → Given → Type 0
VisitHeld function v row = NeedsHeld function v.statement.number (needs_of v.statement.head) row

-- of some statements
pub record AnyHeld (function : CoreFunction) (visits : List Visit) (row : Given) : Type 0 where
  pub visit : Visit
  pub among : Among visit visits
  pub held : VisitHeld function visit row
