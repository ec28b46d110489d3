-- Rule: a value while an expression is evaluated: one that the facts hold, which is not copied, or a new one.
use Rattle.std.specs.Prelude.{◌≡◌, ◌⊎◌, List, Result, Ok, Err}
use Rattle.shade_values.specs.declared.value.Value.{Value}
use Rattle.shade_evaluate.specs.declared.fault.ConstFault.{ConstFault}
use Rattle.shade_evaluate.specs.declared.fault.ConstFault.TheVariants as fault
use Rattle.shade_const.specs.declared.held.Held.{Held}
use Rattle.shade_const.specs.declared.held.Held.TheVariants.{Lent, Own}

abbrev pub value_in : Held → Value
value_in (Lent v) = v.now
value_in (Own v) = v

-- what a call may answer where this is the answer: that, or that there is no memory for it
abbrev pub IsHeld : Result Value ConstFault → Result Held ConstFault → Type 0
IsHeld answer (Ok held) = answer ≡ Ok (value_in held)
IsHeld answer (Err f) = (f ≡ fault.NoMemory) ⊎ (answer ≡ Err f)

-- the same of some values
abbrev pub IsAllAnswer : Result (List Value) ConstFault → Result (List Value) ConstFault → Type 0
IsAllAnswer answer (Ok values) = answer ≡ Ok values
IsAllAnswer answer (Err f) = (f ≡ fault.NoMemory) ⊎ (answer ≡ Err f)
