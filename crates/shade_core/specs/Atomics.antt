-- The atomic operations.
use Rattle.std.specs.Prelude.{Bool, true, false}
use Rattle.shade_values.specs.declared.op.Op.{Op}
use Rattle.shade_values.specs.declared.op.Op.TheVariants.{AtomicLoad, AtomicStore, AtomicAdd, AtomicSub, AtomicMax, AtomicMin, AtomicAnd, AtomicOr, AtomicXor, AtomicExchange, AtomicCompareExchangeWeak}

abbrev pub is_atomic : Op → Bool
is_atomic AtomicLoad = true
is_atomic AtomicStore = true
is_atomic AtomicAdd = true
is_atomic AtomicSub = true
is_atomic AtomicMax = true
is_atomic AtomicMin = true
is_atomic AtomicAnd = true
is_atomic AtomicOr = true
is_atomic AtomicXor = true
is_atomic AtomicExchange = true
is_atomic AtomicCompareExchangeWeak = true
is_atomic _ = false
