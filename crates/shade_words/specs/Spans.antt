-- Rules: values by the words that hold them, and when an operation may be made on such words.
use Rattle.std.specs.Prelude.{◌≡◌, ℕ, ◌+◌, ◌<◌, ◌≤◌, ◌⊎◌, List, [], ◌∷◌, map, length, Some, All, slice_get}
use Rattle.shade_values.specs.declared.types.ShadeType.{ShadeType}
use Rattle.shade_values.specs.declared.types.ShadeType.TheVariants as type
use Rattle.shade_values.specs.declared.value.Value.{Value}
use Rattle.shade_values.specs.declared.op.Op.{Op}
use Rattle.shade_values.specs.declared.op.Op.TheVariants.{Dot}
use Rattle.shade_values.specs.Table.{Table}
use Rattle.shade_values.specs.Takes.{Takes}
use Rattle.shade_words.specs.declared.span.WordSpan.{WordSpan}
use Rattle.shade_words.specs.Lays.{size, decode, AreFit, IsConcrete}
use Rattle.shade_words.specs.Types.{lay, type_of, HasElements}
use Rattle.shade_words.specs.Ways.{part_lay, part_count, IsComposite}
use Rattle.shade_words.specs.Forms.{IsFormed}

-- words of a row of so many, as many as a value of the type has
pub record IsSpan (t : Table) (long : ℕ) (span : WordSpan) : Type 0 where
  pub known : span.ty.0 < length t.types
  pub sized : span.count ≡ size (lay t span.ty)
  pub within : span.first + span.count ≤ long

-- no word of one is a word of the other
abbrev pub AreApart : WordSpan → WordSpan → Type 0
AreApart a b = (a.first + a.count ≤ b.first) ⊎ (b.first + b.count ≤ a.first)

-- the value that stands there
abbrev pub value_of : Table → (ℕ → ℕ) → WordSpan → Value
value_of t w span = decode (lay t span.ty) w span.first

abbrev pub values_of : Table → (ℕ → ℕ) → List WordSpan → List Value
values_of t w spans = map (value_of t w) spans

abbrev pub types_of : Table → List WordSpan → List ShadeType
types_of t spans = map (λ a. type_of t a.ty) spans

-- scalars and vectors that may be read
pub record AreRead (t : Table) (long : ℕ) (spans : List WordSpan) : Type 0 where
  pub placed : All (IsSpan t long) spans
  pub formed : All (λ a. IsFormed (type_of t a.ty)) spans

-- the operands of Dot are vectors
abbrev pub IsRead : Table → Op → List WordSpan → Type 0
IsRead t Dot (a ∷ b ∷ []) = HasElements (type_of t a.ty)
IsRead t op args = Unit {0}

-- the words are those of a value of the type
abbrev pub IsFitSpan : Table → (ℕ → ℕ) → WordSpan → Type 0
IsFitSpan t w span = AreFit (lay t span.ty) w span.first

-- a type whose values are held: all but pointers, which the atomic operations take
abbrev pub IsHeld : ShadeType → Type 0
IsHeld (type.Pointer space pointee access) = ⊥
IsHeld _ = Unit {0}

-- an operation on values that stand in a row, whose result has a place of its own there
pub record CanApply (t : Table) (op : Op) (args : List WordSpan) (long : ℕ) (result : WordSpan) : Type 0 where
  pub spans : All (IsSpan t long) args
  pub place : IsSpan t long result
  pub apart : All (λ a. AreApart a result) args
  pub takes : Takes t op (types_of t args) (Some (type_of t result.ty))
  pub held : All (λ a. IsHeld (type_of t a.ty)) args
  pub concrete : IsConcrete (lay t result.ty)

-- values that are the parts of an array or a struct, which has a place of its own
pub record CanMake (t : Table) (args : List WordSpan) (long : ℕ) (result : WordSpan) : Type 0 where
  pub spans : All (IsSpan t long) args
  pub place : IsSpan t long result
  pub apart : All (λ a. AreApart a result) args
  pub composite : IsComposite (lay t result.ty)
  pub count : length args ≡ part_count (lay t result.ty)
  pub parts : (k : ℕ) (a : WordSpan) → slice_get args k ≡ Some a → lay t a.ty ≡ part_lay (lay t result.ty) k
