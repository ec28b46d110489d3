-- What an argument may be taken as, and how far that is (WGSL, "Conversion Rank").
use Rattle.std.specs.Prelude.{◌≡◌, ℕ, ◌≤◌, Option, None, Some, List, [], ◌∷◌}
use Rattle.shade_values.specs.declared.types.Scalar.{Scalar}
use Rattle.shade_values.specs.declared.types.Scalar.TheVariants as scalar
use Rattle.shade_values.specs.declared.types.ShadeType.{ShadeType}
use Rattle.shade_values.specs.declared.types.ShadeType.TheVariants as type

-- AbstractInt becomes i32 or u32; each scalar may stay what it is
abbrev pub ScalarBecomes : Scalar → Scalar → Type 0
ScalarBecomes scalar.Abstract scalar.Bool = ⊥
ScalarBecomes scalar.Abstract to = Unit {0}
ScalarBecomes from to = from ≡ to

-- a vector becomes another part by part; each other type stays what it is (an array of AbstractInt converts too, but no row takes one)
abbrev pub Becomes : ShadeType → ShadeType → Type 0
Becomes (type.Plain from) (type.Plain to) = ScalarBecomes from to
Becomes (type.Vector m from) (type.Vector n to) = (m ≡ n) × ScalarBecomes from to
Becomes from to = from ≡ to

-- each argument becomes the parameter at its place
abbrev pub BecomeAll : List ShadeType → List ShadeType → Type 0
BecomeAll [] [] = Unit {0}
BecomeAll (from ∷ froms) (to ∷ tos) = Becomes from to × BecomeAll froms tos
BecomeAll _ _ = ⊥

-- the scalar of a scalar or a vector; other types have none, and never become another
abbrev pub scalar_of : ShadeType → Option Scalar
scalar_of (type.Plain s) = Some s
scalar_of (type.Vector n s) = Some s
scalar_of _ = None

-- AbstractInt rather stays than becomes another, and then rather becomes `first`; it never becomes bool
abbrev pub distance : Scalar → Scalar → ℕ
distance first scalar.Abstract = 0
distance scalar.U32 scalar.U32 = 1
distance scalar.U32 scalar.I32 = 2
distance first scalar.I32 = 1
distance first scalar.U32 = 2
distance first scalar.Bool = 3

abbrev pub distance_of : Scalar → Option Scalar → ℕ
distance_of first (Some s) = distance first s
distance_of first None = 0

-- at no place are the first parameters farther from the arguments than the second ones
abbrev pub AreNearer : Scalar → List ShadeType → List ShadeType → Type 0
AreNearer first [] [] = Unit {0}
AreNearer first (near ∷ nears) (far ∷ fars) = (distance_of first (scalar_of near) ≤ distance_of first (scalar_of far)) × AreNearer first nears fars
AreNearer first _ _ = ⊥
