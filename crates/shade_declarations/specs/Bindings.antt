-- Rule: what a `let` declares. (WGSL, "let Declarations".) It is a value of the type that is written or inferred, and no constant. Its value
-- converts to that type.
use Rattle.std.specs.Prelude.{◌≡◌, false, Option, None, Some, Result, Ok, Err}
use Rattle.shade_values.specs.declared.types.ShadeType.{ShadeType}
use Rattle.shade_values.specs.declared.value.Value.{Value}
use Rattle.shade_known.specs.declared.known.Found.TheVariants as found
use Rattle.shade_known.specs.declared.known.Known.{Known}
use Rattle.shade_known.specs.declared.known.Operand.{Operand}
use Rattle.shade_known.specs.declared.fault.TypingFault.{TypingFault}
use Rattle.shade_known.specs.declared.fault.TypeRule.TheVariants as rule
use Rattle.shade_known.specs.Conversions.{ConvertsTo}
use Rattle.shade_typing.specs.Values.{Answer, breaks}

-- by what the value becomes, whose fault it has
abbrev pub bound_found : ShadeType → Result (Option Value) TypingFault → Answer
bound_found ty (Ok v) = Ok (found.Value ty None None)
bound_found ty (Err f) = Err f

-- of a type that is written or inferred; without one it breaks the rule of conversions at the value
abbrev pub IsBound : Known → Option ShadeType → Operand → Answer → Type 0
IsBound k None value r = r ≡ breaks value.place rule.Conversion
IsBound k (Some ty) value r = (c : Result (Option Value) TypingFault) × ConvertsTo k false value ty c × (r ≡ bound_found ty c)
