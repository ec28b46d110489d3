-- What is told of a conversion is told of what asks for it.
use Rattle.std.proofs.Common.{◌≡◌, refl, sym, subst, false, Option, None, Some, Result, Ok, Err}
use Rattle.shade_values.specs.declared.types.ShadeType.{ShadeType}
use Rattle.shade_values.specs.declared.value.Value.{Value}
use Rattle.shade_known.specs.declared.known.Known.{Known}
use Rattle.shade_known.specs.declared.known.Operand.{Operand}
use Rattle.shade_known.specs.declared.fault.TypingFault.{TypingFault}
use Rattle.shade_known.specs.declared.fault.TypingFault.TheVariants as fault
use Rattle.shade_known.specs.declared.fault.TypeRule.TheVariants as rule
use Rattle.shade_known.specs.Answers.{Answers}
use Rattle.shade_known.specs.Conversions.{ConvertsTo}
use Rattle.shade_known.specs.Lookups.{type_of_node}
use Rattle.shade_typing.specs.Values.{Answer, breaks}
use Rattle.shade_typing.specs.Assignments.{IsConverted, IsAssigned, checked}

module _ (k : Known) (value : Operand) (to : ShadeType) where
  told : (c : Result (Option Value) TypingFault) → Answers (ConvertsTo k false value to) c → Answers (IsConverted k value (Some to)) (checked c)
  told (Ok v) h = (Ok v, h, refl)
  told (Err (fault.Rule place broken)) h = (Err (fault.Rule place broken), h, refl)
  told (Err (fault.OutOfProfile place word)) h = (Err (fault.OutOfProfile place word), h, refl)
  told (Err (fault.Constant f)) h = (Err (fault.Constant f), h, refl)
  told (Err fault.NoMemory) h = tt

pub assigned_so : (k : Known) (target value : Operand) (to : ShadeType) (c : Result (Option Value) TypingFault) (r : Answer) → Some to ≡ type_of_node k target.node
    → r ≡ checked c → Answers (ConvertsTo k false value to) c → Answers (IsAssigned k target value) r
assigned_so k target value to c r typed is h = subst (λ z. Answers (IsConverted k value z) r) typed (subst (λ z. Answers (IsConverted k value (Some to)) z) (sym is) (told k value to c h))

pub not_assigned : (k : Known) (target value : Operand) → None ≡ type_of_node k target.node → IsAssigned k target value (breaks value.place rule.Conversion)
not_assigned k target value none = subst (λ z. IsConverted k value z (breaks value.place rule.Conversion)) none refl
