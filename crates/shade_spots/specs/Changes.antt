-- Rules: what becomes of the words of a spot. (WGSL, "Assignment Statement", "Atomic Built-in Functions".)
use Rattle.std.specs.Prelude.{ℕ, List, [], ◌∷◌, Option, None, Some, if◌then◌else◌}
use Rattle.shade_values.specs.declared.types.Scalar.{Scalar}
use Rattle.shade_values.specs.declared.types.Scalar.TheVariants as scalar
use Rattle.shade_values.specs.declared.op.Op.{Op}
use Rattle.shade_values.specs.declared.op.Op.TheVariants.{Add, Subtract, And, Or, Xor, Equal, Min, Max, AtomicStore, AtomicAdd, AtomicSub, AtomicMax, AtomicMin, AtomicAnd, AtomicOr, AtomicXor, AtomicExchange, AtomicCompareExchangeWeak}
use Rattle.shade_values.specs.declared.value.Leaf.{Leaf}
use Rattle.shade_values.specs.declared.value.Value.{Value}
use Rattle.shade_values.specs.declared.value.Value.TheVariants.{One, Many}
use Rattle.shade_values.specs.Apply.{is_true}
use Rattle.shade_values.specs.Operations.{binary}
use Rattle.shade_values.specs.Parts.{own_leaf}
use Rattle.shade_values.specs.Shape.{Shape, atomic}
use Rattle.shade_words.specs.Lays.{leaf_of, word_of}
use Rattle.shade_words.specs.Types.{lay_of}
use Rattle.shade_words.specs.Words.{word_in, word_or}

-- What a step makes of each word of a spot: of the word with this number there, which was this one before.
abbrev pub Change : Type 0
Change = (i old : ℕ) → ℕ

-- A value comes to the spot; the words between its parts stay as they were.
abbrev pub value_change : Shape → Value → Change
value_change shape v i old = word_or old (word_in (lay_of shape) v i)

-- A value comes to the spot, and the words between its parts become 0. (So it is in the memory of a lane's own, where nobody can tell.)
abbrev pub own_change : Shape → Value → Change
own_change shape v i old = word_or 0 (word_in (lay_of shape) v i)

-- the spot becomes zero
abbrev pub zero_change : Change
zero_change i old = 0

-- ---- atomics

abbrev pub scalar_in : Shape → Scalar
scalar_in (atomic s) = s
scalar_in _ = scalar.U32

-- what an atomic holds whose word is this one
abbrev pub atomic_leaf : Shape → ℕ → Leaf
atomic_leaf shape w = leaf_of (scalar_in shape) w

-- What an atomic holds after an operation, by what it held before.
abbrev pub atomic_new : Op → Leaf → List Value → Leaf
atomic_new AtomicStore old (v ∷ []) = own_leaf v
atomic_new AtomicExchange old (v ∷ []) = own_leaf v
atomic_new AtomicAdd old (v ∷ []) = binary Add old (own_leaf v)
atomic_new AtomicSub old (v ∷ []) = binary Subtract old (own_leaf v)
atomic_new AtomicMax old (v ∷ []) = binary Max old (own_leaf v)
atomic_new AtomicMin old (v ∷ []) = binary Min old (own_leaf v)
atomic_new AtomicAnd old (v ∷ []) = binary And old (own_leaf v)
atomic_new AtomicOr old (v ∷ []) = binary Or old (own_leaf v)
atomic_new AtomicXor old (v ∷ []) = binary Xor old (own_leaf v)
atomic_new AtomicCompareExchangeWeak old (expected ∷ v ∷ []) = if is_true (binary Equal old (own_leaf expected)) then own_leaf v else old
atomic_new op old args = old

-- What an operation on an atomic gives: what it held before, and a comparison also whether it was the expected one. A store gives nothing.
abbrev pub atomic_given : Op → Leaf → List Value → Option Value
atomic_given AtomicStore old args = None
atomic_given AtomicCompareExchangeWeak old (expected ∷ v ∷ []) = Some (Many (One old ∷ One (binary Equal old (own_leaf expected)) ∷ []))
atomic_given op old args = Some (One old)

-- the one word of an atomic changes as the operation says
abbrev pub atomic_change : Shape → Op → List Value → Change
atomic_change shape op args i old = word_of (atomic_new op (atomic_leaf shape old) args)
