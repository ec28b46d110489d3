-- Rule: what a value of one type becomes where another is asked. (WGSL, "Feasible Automatic Conversions" and "Conversion Rank".)
use Rattle.std.specs.Prelude.{◌≡◌, ℕ, Bool, true, false, List, [], ◌∷◌, drop, Option, None, Some, Result, Ok, Err, if◌then◌else◌}
use Rattle.shade_base.specs.declared.place.Place.{Place}
use Rattle.shade_values.specs.declared.types.Scalar.{Scalar}
use Rattle.shade_values.specs.declared.types.Scalar.TheVariants as scalar
use Rattle.shade_values.specs.declared.types.ShadeType.{ShadeType}
use Rattle.shade_values.specs.declared.types.ShadeType.TheVariants as type
use Rattle.shade_values.specs.declared.types.TypeId.{TypeId}
use Rattle.shade_values.specs.declared.value.Leaf.{Leaf}
use Rattle.shade_values.specs.declared.value.Value.{Value, Value-F, fold-Value}
use Rattle.shade_values.specs.declared.value.Value.TheOpen.{One, Many}
use Rattle.shade_values.specs.declared.value.Value.TheVariants as value
use Rattle.shade_values.specs.Operations.{converted}
use Rattle.shade_values.specs.Table.{Table}
use Rattle.shade_values.specs.Takes.{Names, IsConcrete}
use Rattle.shade_evaluate.specs.declared.fault.ConstFault.TheVariants as const_fault
use Rattle.shade_evaluate.specs.Fits.{is_abstract}
use Rattle.shade_evaluate.specs.Evaluate.{meets, asked, first_asked}
use Rattle.shade_known.specs.declared.known.Operand.{Operand}
use Rattle.shade_known.specs.declared.known.Known.{Known}
use Rattle.shade_known.specs.declared.convert.Conversion.{Conversion}
use Rattle.shade_known.specs.declared.convert.Conversion.TheVariants as conversion
use Rattle.shade_known.specs.declared.fault.TypingFault.{TypingFault}
use Rattle.shade_known.specs.declared.fault.TypingFault.TheVariants as fault
use Rattle.shade_known.specs.declared.fault.TypeRule.TheVariants as rule
use Rattle.shade_known.specs.Lookups.{type_of_node, value_of_node}

-- ---- types

-- A type stays what it is. AbstractInt becomes a concrete scalar, in vectors and arrays part by part.
pub data Converts (t : Table) : ShadeType → ShadeType → Option Scalar → Type 0 where
  stays : (ty : ShadeType) → Converts t ty ty None
  scalars : (s : Scalar) → IsConcrete s → Converts t (type.Plain scalar.Abstract) (type.Plain s) (Some s)
  vectors : (n : ℕ) (s : Scalar) → IsConcrete s → Converts t (type.Vector n scalar.Abstract) (type.Vector n s) (Some s)
  arrays : (n : ℕ) (s : Scalar) (e f : TypeId) (from to : ShadeType) → Names t e from → Names t f to
      → Converts t from to (Some s) → Converts t (type.Array e n) (type.Array f n) (Some s)

-- what is told of two unlike scalars, alone or as parts of vectors
abbrev pub IsScalarConversion : Scalar → Scalar → Conversion → Type 0
IsScalarConversion from to conversion.Cannot = ¬ ((from ≡ scalar.Abstract) × IsConcrete to)
IsScalarConversion from to conversion.Stays = ⊥
IsScalarConversion from to (conversion.Becomes s) = (from ≡ scalar.Abstract) × (to ≡ s) × IsConcrete s

-- of two unlike arrays, by what is told of their elements
abbrev pub in_arrays : Conversion → Conversion
in_arrays (conversion.Becomes s) = conversion.Becomes s
in_arrays c = conversion.Cannot

-- what is told of two types
abbrev pub IsConversion : Table → ShadeType → ShadeType → Conversion → Type 0
IsConversion t from to conversion.Cannot = (becomes : Option Scalar) → ¬ Converts t from to becomes
IsConversion t from to conversion.Stays = Converts t from to None
IsConversion t from to (conversion.Becomes s) = Converts t from to (Some s)

-- ---- values

abbrev pub cut_leaf : Scalar → Leaf → Leaf
cut_leaf to leaf = if is_abstract leaf.scalar then converted to leaf else leaf

abbrev pub cut_by : Scalar → Value-F Value → Value
cut_by to (One leaf) = value.One (cut_leaf to leaf)
cut_by to (Many parts) = value.Many parts

-- a value in a scalar: numbers of AbstractInt are cut to its bits
abbrev pub cut_to : Scalar → Value → Value
cut_to to = fold-Value Value (cut_by to)

abbrev pub cut : Option Scalar → Value → Value
cut None v = v
cut (Some to) v = cut_to to v

-- each value as it is asked; nothing is asked where the list ends
abbrev pub cut_all : List (Option Scalar) → List Value → List Value
cut_all to [] = []
cut_all to (v ∷ values) = cut (first_asked to) v ∷ cut_all (drop 1 to) values

-- ---- operands

-- the value of a constant in the scalar that it becomes; one that nobody asks for is cut, and has no fault
abbrev pub taken : Bool → Option Scalar → Option Value → Place → Result (Option Value) TypingFault
taken idle becomes None place = Ok None
taken true becomes (Some v) place = Ok (Some (cut becomes v))
taken false becomes (Some v) place =
    if meets becomes v then Ok (Some (asked becomes v)) else Err (fault.Constant (const_fault.Overflow place))

-- what the value of an operand is where a type is asked of it: a fault at the operand where it does not convert, or where a constant does
-- not fit; else the constant in that type, and nothing of what is no constant
pub data ConvertsTo (k : Known) (idle : Bool) (operand : Operand) (to : ShadeType) : Result (Option Value) TypingFault → Type 0 where
  no_value : type_of_node k operand.node ≡ None → ConvertsTo k idle operand to (Err (fault.Rule operand.place rule.Conversion))
  cannot : (from : ShadeType) → type_of_node k operand.node ≡ Some from → ((becomes : Option Scalar) → ¬ Converts k.types from to becomes)
      → ConvertsTo k idle operand to (Err (fault.Rule operand.place rule.Conversion))
  can : (from : ShadeType) (becomes : Option Scalar) → type_of_node k operand.node ≡ Some from → Converts k.types from to becomes
      → ConvertsTo k idle operand to (taken idle becomes (value_of_node k.facts operand.node) operand.place)
