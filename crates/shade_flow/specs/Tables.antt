-- What rows of bits have to say of one definition, so that the search over numbers is the search over points.
use Rattle.std.specs.Prelude.{◌≡◌, ℕ, ◌+◌, ◌*◌, ◌<◌, ◌⊎◌, true, false, Option, Some, None, List, length, slice_get}
use Rattle.shade_core.specs.declared.statement.Base.{Base}
use Rattle.shade_core.specs.declared.statement.Base.TheVariants.{Pointee}
use Rattle.shade_core.specs.Code.{Code}
use Rattle.shade_reach.specs.Digraph.{HasEdge}
use Rattle.shade_flow.specs.declared.definition.Definition.{Definition}
use Rattle.shade_flow.specs.declared.definition.Definition.TheVariants.{Entry, At, Argument}
use Rattle.shade_flow.specs.declared.definition.Defined.{Defined}
use Rattle.shade_flow.specs.declared.definition.Write.{Write}
use Rattle.shade_flow.specs.declared.point.Point.{Point}
use Rattle.shade_flow.specs.declared.point.Point.TheVariants as point
use Rattle.shade_flow.specs.Lists.{In}
use Rattle.shade_flow.specs.Bits.{Has, at}
use Rattle.shade_flow.specs.Flow.{Mark, entry, Ways, Makes, stops}

-- the number of a point
abbrev pub number : Point → ℕ
number point.Past = 0
number (point.At n) = 2 * n + 1
number (point.Turn n) = 2 * n + 2

abbrev pub numbers : Point × Point → ℕ × ℕ
numbers step = (number step.0, number step.1)

-- both ends of an edge leave room for a count of 32 bits above them
abbrev pub IsBelow : ℕ × ℕ → Type 0
IsBelow edge = (edge.0 < 4294967295) × (edge.1 < 4294967295)

-- both ends of an edge are below a count
abbrev pub Joins : ℕ → ℕ × ℕ → Type 0
Joins count edge = (edge.0 < count) × (edge.1 < count)

-- the edges are the ways, by their numbers
pub record AreWays (body : Code) (edges : List (ℕ × ℕ)) : Type 0 where
  pub there : (u v : Point) (m : Mark) → Ways body u m v → HasEdge edges (number u) (number v)
  pub back : (i j : ℕ) → HasEdge edges i j → (u : Point) × (v : Point) × (m : Mark) × Ways body u m v × (number u ≡ i) × (number v ≡ j)

-- Rows of bits in which one bit stands for a definition of a variable.
pub record IsBitOf (body : Code) (var : Base) (def : Definition) (bit : ℕ) (starts makes passes : List ℕ) : Type 0 where
  pub starts_there : (k : ℕ) → var ≡ Pointee k → def ≡ Entry k → Has (at starts (number (entry body point.Past))) bit
  pub starts_back : (i : ℕ) → Has (at starts i) bit → (k : ℕ) × (var ≡ Pointee k) × (def ≡ Entry k) × (i ≡ number (entry body point.Past))
  pub makes_there : (u v : Point) (m : Mark) → Ways body u m v → Makes m var def → Has (at makes (number u)) bit
  pub makes_back : (u v : Point) (m : Mark) → Ways body u m v → Has (at makes (number u)) bit → Makes m var def
  pub passes_there : (u v : Point) (m : Mark) → Ways body u m v → stops m var ≡ false → Has (at passes (number u)) bit
  pub passes_back : (u v : Point) (m : Mark) → Ways body u m v → Has (at passes (number u)) bit → stops m var ≡ false

-- the point at which a definition is made, by its number; an entry is made at none
abbrev pub made_at : Definition → Option ℕ
made_at (Entry i) = None
made_at (At n) = Some (2 * n + 1)
made_at (Argument n j) = Some (2 * n + 1)

-- the point at which an entry begins, where that is `first`
abbrev pub begun_at : ℕ → Definition → Option ℕ
begun_at first (Entry i) = Some first
begun_at first (At n) = None
begun_at first (Argument n j) = None

-- a bit is set at a place, where there is one
pub record SetsBit (old : List ℕ) (place : Option ℕ) (bit : ℕ) (new : List ℕ) : Type 0 where
  pub long : length new ≡ length old
  pub there : (point : ℕ) → place ≡ Some point → point < length old → Has (at new point) bit
  pub from : (point other : ℕ) → Has (at new point) other → Has (at old point) other ⊎ ((place ≡ Some point) × (other ≡ bit))
  pub grows : (point other : ℕ) → Has (at old point) other → Has (at new point) other

-- each of the definitions before an index has its bit at its place and nowhere else
pub record AreBits (place : Definition → Option ℕ) (definitions : List Defined) (index nodes : ℕ) (rows : List ℕ) : Type 0 where
  pub long : length rows ≡ nodes
  pub there : (bit point : ℕ) (defined : Defined) → bit < index → slice_get definitions bit ≡ Some defined → place defined.by ≡ Some point → point < nodes → Has (at rows point) bit
  pub back : (bit point : ℕ) → Has (at rows point) bit → (defined : Defined) × (bit < index) × (slice_get definitions bit ≡ Some defined) × (place defined.by ≡ Some point)

-- each of the definitions before an index has its bit where it is of a variable
pub record AreBitsOf (variable : Base) (definitions : List Defined) (index word : ℕ) : Type 0 where
  pub there : (bit : ℕ) (defined : Defined) → bit < index → slice_get definitions bit ≡ Some defined → defined.variable ≡ variable → Has word bit
  pub back : (bit : ℕ) → Has word bit → (defined : Defined) × (bit < index) × (slice_get definitions bit ≡ Some defined) × (defined.variable ≡ variable)

-- a write stops the older definitions of a variable at a point
pub record IsStop (write : Write) (point : ℕ) (variable : Base) : Type 0 where
  pub whole : write.whole ≡ true
  pub place : made_at write.defined.by ≡ Some point
  pub same : write.defined.variable ≡ variable

-- the bits of some definitions are taken out where some writes stop them
pub record AreStopped (definitions : List Defined) (writes : List Write) (old new : List ℕ) : Type 0 where
  pub long : length new ≡ length old
  pub sound : (bit point : ℕ) (defined : Defined) → slice_get definitions bit ≡ Some defined → Has (at new point) bit → Has (at old point) bit × ((write : Write) → In write writes → ¬ IsStop write point defined.variable)
  pub complete : (bit point : ℕ) (defined : Defined) → slice_get definitions bit ≡ Some defined → Has (at old point) bit → ((write : Write) → In write writes → ¬ IsStop write point defined.variable) → Has (at new point) bit
