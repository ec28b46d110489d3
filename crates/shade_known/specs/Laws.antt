-- Laws: from what is known, each question has one answer.
use Rattle.std.specs.Prelude.{◌≡◌, ℕ, Bool, List, Option, Result}
use Rattle.shade_values.specs.declared.types.ShadeType.{ShadeType}
use Rattle.shade_values.specs.declared.value.Value.{Value}
use Rattle.shade_known.specs.declared.known.Operand.{Operand}
use Rattle.shade_known.specs.declared.known.Known.{Known}
use Rattle.shade_known.specs.declared.known.Found.{Found}
use Rattle.shade_known.specs.declared.operation.Application.{Application}
use Rattle.shade_known.specs.declared.fault.TypingFault.{TypingFault}
use Rattle.shade_known.specs.Conversions.{ConvertsTo}
use Rattle.shade_known.specs.Keeps.{Keeps}
use Rattle.shade_known.specs.Operates.{Operates}

-- an operator or a built-in function gives one thing of its operands
abbrev pub OperatesInOneWay : Type 0
OperatesInOneWay = (k : Known) (a : Application) (operands : List Operand) (r s : Result Found TypingFault) → Operates k a operands r → Operates k a operands s → r ≡ s

-- an operand becomes one thing where a type is asked of it
abbrev pub ConvertsInOneWay : Type 0
ConvertsInOneWay =
    (k : Known) (idle : Bool) (operand : Operand) (to : ShadeType) (r s : Result (Option Value) TypingFault)
    → ConvertsTo k idle operand to r → ConvertsTo k idle operand to s → r ≡ s

-- where something is found of a node, one thing is known then
abbrev pub KeepsInOneWay : Type 0
KeepsInOneWay = (old : Known) (node : ℕ) (f : Found) (new other : Known) → Keeps old node f new → Keeps old node f other → new ≡ other
