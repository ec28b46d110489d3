-- What the parts of a value are asked, by its type.
use Rattle.std.specs.Prelude.{◌≡◌, ℕ, List, [], ◌∷◌, ◌<◌, length}
use Rattle.shade_values.specs.declared.types.Scalar.{Scalar}
use Rattle.shade_values.specs.declared.types.Scalar.TheVariants as scalar
use Rattle.shade_values.specs.declared.types.ShadeType.{ShadeType}
use Rattle.shade_values.specs.declared.types.ShadeType.TheVariants as type
use Rattle.shade_values.specs.declared.value.Leaf.{Leaf}
use Rattle.shade_values.specs.declared.value.Value.{Value}
use Rattle.shade_values.specs.declared.value.Value.TheVariants as value
use Rattle.shade_values.specs.Table.{Table}
use Rattle.shade_values.specs.Typed.{IsLeafOf}

-- an old value and a flag
abbrev pub AreExchanged : Scalar → List Value → Type 0
AreExchanged s parts = (old : Leaf) × (flag : Leaf) × IsLeafOf s old × IsLeafOf scalar.Bool flag × (parts ≡ value.One old ∷ value.One flag ∷ [])

-- the struct of a type is there
abbrev pub HasStruct : Table → ShadeType → Type 0
HasStruct t ty = (n : ℕ) → ty ≡ type.Struct n → n < length t.structs
