-- What is told of a conversion is told of what asks for it.
use Rattle.std.proofs.Common.{◌≡◌, sym, subst, refl, false, Option, None, Some, Result, Ok, Err}
use Rattle.shade_values.specs.declared.types.ShadeType.{ShadeType}
use Rattle.shade_values.specs.declared.value.Value.{Value}
use Rattle.shade_known.specs.declared.known.Known.{Known}
use Rattle.shade_known.specs.declared.known.Operand.{Operand}
use Rattle.shade_known.specs.declared.fault.TypingFault.{TypingFault}
use Rattle.shade_known.specs.declared.fault.TypingFault.TheVariants as fault
use Rattle.shade_known.specs.declared.fault.TypeRule.TheVariants as rule
use Rattle.shade_known.specs.Answers.{Answers}
use Rattle.shade_known.specs.Conversions.{ConvertsTo}
use Rattle.shade_typing.specs.Values.{Answer, breaks}
use Rattle.shade_typing.specs.Assignments.{IsConverted, checked}
use Rattle.shade_tasks.specs.Declared.{IsBound, bound}

module _ (k : Known) (value : Operand) (to : ShadeType) where
  bound_told : (c : Result (Option Value) TypingFault) → Answers (ConvertsTo k false value to) c → Answers (IsBound k value (Some to)) (bound to c)
  bound_told (Ok v) h = (Ok v, h, refl)
  bound_told (Err (fault.Rule place broken)) h = (Err (fault.Rule place broken), h, refl)
  bound_told (Err (fault.OutOfProfile place word)) h = (Err (fault.OutOfProfile place word), h, refl)
  bound_told (Err (fault.Constant f)) h = (Err (fault.Constant f), h, refl)
  bound_told (Err fault.NoMemory) h = tt

  converts_told : (c : Result (Option Value) TypingFault) → Answers (ConvertsTo k false value to) c → Answers (IsConverted k value (Some to)) (checked c)
  converts_told (Ok v) h = (Ok v, h, refl)
  converts_told (Err (fault.Rule place broken)) h = (Err (fault.Rule place broken), h, refl)
  converts_told (Err (fault.OutOfProfile place word)) h = (Err (fault.OutOfProfile place word), h, refl)
  converts_told (Err (fault.Constant f)) h = (Err (fault.Constant f), h, refl)
  converts_told (Err fault.NoMemory) h = tt

module _ (k : Known) (value : Operand) (maybe : Option ShadeType) where
  pub bound_so : (to : ShadeType) (c : Result (Option Value) TypingFault) (r : Answer) → maybe ≡ Some to → r ≡ bound to c
      → Answers (ConvertsTo k false value to) c → Answers (IsBound k value maybe) r
  bound_so to c r some is h =
      subst (λ z. Answers (IsBound k value z) r) (sym some) (subst (λ z. Answers (IsBound k value (Some to)) z) (sym is) (bound_told k value to c h))

  pub converts_so : (to : ShadeType) (c : Result (Option Value) TypingFault) (r : Answer) → maybe ≡ Some to → r ≡ checked c
      → Answers (ConvertsTo k false value to) c → Answers (IsConverted k value maybe) r
  converts_so to c r some is h =
      subst (λ z. Answers (IsConverted k value z) r) (sym some) (subst (λ z. Answers (IsConverted k value (Some to)) z) (sym is) (converts_told k value to c h))

  pub not_bound : maybe ≡ None → IsBound k value maybe (breaks value.place rule.Conversion)
  not_bound none = subst (λ z. IsBound k value z (breaks value.place rule.Conversion)) (sym none) refl

  pub not_converted : maybe ≡ None → IsConverted k value maybe (breaks value.place rule.Conversion)
  not_converted none = subst (λ z. IsConverted k value z (breaks value.place rule.Conversion)) (sym none) refl
