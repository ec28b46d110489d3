-- Rules: how a value lies in a row of words. A scalar is one word, the parts of a composite lie at offsets of their own, and the
-- words between them are padding. (WGSL, "Internal Layout of Values".)
use Rattle.std.specs.Prelude.{◌≡◌, ◌≢◌, ℕ, ◌<◌, ◌⊎◌, ◌+◌, ◌*◌, ◌≤◌, List, [], ◌∷◌, map, pos}
use Rattle.std.specs.List.{range_with_len}
use Rattle.shade_values.specs.declared.types.Scalar.{Scalar}
use Rattle.shade_values.specs.declared.types.Scalar.TheVariants as scalar
use Rattle.shade_values.specs.declared.value.Leaf.{Leaf}
use Rattle.shade_values.specs.declared.value.Value.{Value}
use Rattle.shade_values.specs.declared.value.Value.TheVariants as value
use Rattle.shade_values.specs.Numbers.{word, wrapped}

-- a vector or an array is a row of one layout, at a stride; a struct has a size and members at offsets
mutual
  pub data Lay : Type 0 where
    leaf : Scalar → Lay
    row : Lay → (count stride : ℕ) → Lay
    fields : (size : ℕ) → Fields → Lay

  pub data Fields : Type 0 where
    no_field : Fields
    field : (offset : ℕ) → Lay → Fields → Fields

-- how many words
abbrev pub size : Lay → ℕ
size (leaf s) = 1
size (row e n stride) = n * stride
size (fields words fs) = words

-- each part ends before the next one begins, and the last one within the whole
abbrev mutual
  pub IsLay : Lay → Type 0
  IsLay (leaf s) = Unit {0}
  IsLay (row e n stride) = IsLay e × (size e ≤ stride)
  IsLay (fields words fs) = Ascends 0 words fs

  pub Ascends : (from words : ℕ) → Fields → Type 0
  Ascends from words no_field = from ≤ words
  Ascends from words (field offset l fs) = IsLay l × (from ≤ offset) × Ascends (offset + size l) words fs

-- the scalar that a word is
abbrev pub leaf_of : Scalar → ℕ → Leaf
leaf_of s w = record { scalar = s; number = wrapped s (pos w) }

-- the word of a scalar
abbrev pub word_of : Leaf → ℕ
word_of l = word l.number

-- the value that stands in the words from a place on; padding is not looked at
abbrev mutual
  pub decode : Lay → (ℕ → ℕ) → ℕ → Value
  decode (leaf s) w at = value.One (leaf_of s (w at))
  decode (row e n stride) w at = value.Many (map (λ k. decode e w (at + k * stride)) (range_with_len 0 n))
  decode (fields words fs) w at = value.Many (decode_fields fs w at)

  pub decode_fields : Fields → (ℕ → ℕ) → ℕ → List Value
  decode_fields no_field w at = []
  decode_fields (field offset l fs) w at = decode l w (at + offset) ∷ decode_fields fs w at

-- the words that hold a scalar; the others are padding
abbrev mutual
  pub Covers : Lay → ℕ → Type 0
  Covers (leaf s) i = i ≡ 0
  Covers (row e n stride) i = (k : ℕ) × (j : ℕ) × (k < n) × (i ≡ k * stride + j) × Covers e j
  Covers (fields words fs) i = AnyCovers fs i

  pub AnyCovers : Fields → ℕ → Type 0
  AnyCovers no_field i = ⊥
  AnyCovers (field offset l fs) i = ((j : ℕ) × (i ≡ offset + j) × Covers l j) ⊎ AnyCovers fs i

-- a word that its scalar has: of a `bool` 0 or 1
abbrev pub IsFit : Scalar → ℕ → Type 0
IsFit scalar.Bool w = w < 2
IsFit s w = Unit {0}

-- the words from a place on are those of a value
abbrev mutual
  pub AreFit : Lay → (ℕ → ℕ) → ℕ → Type 0
  AreFit (leaf s) w at = IsFit s (w at)
  AreFit (row e n stride) w at = (k : ℕ) → k < n → AreFit e w (at + k * stride)
  AreFit (fields words fs) w at = AreFieldsFit fs w at

  pub AreFieldsFit : Fields → (ℕ → ℕ) → ℕ → Type 0
  AreFieldsFit no_field w at = Unit {0}
  AreFieldsFit (field offset l fs) w at = AreFit l w (at + offset) × AreFieldsFit fs w at

-- no AbstractInt, which a word does not hold
abbrev mutual
  pub IsConcrete : Lay → Type 0
  IsConcrete (leaf s) = s ≢ scalar.Abstract
  IsConcrete (row e n stride) = IsConcrete e
  IsConcrete (fields words fs) = AreConcrete fs

  pub AreConcrete : Fields → Type 0
  AreConcrete no_field = Unit {0}
  AreConcrete (field offset l fs) = IsConcrete l × AreConcrete fs
