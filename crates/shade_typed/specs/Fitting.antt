-- What statements are asked, by what is known there.
use Rattle.std.specs.Prelude.{◌≡◌, ℕ, Bool, List, Option, None, slice_get, IsTrue}
use Rattle.shade_values.specs.declared.types.ShadeType.{ShadeType}
use Rattle.shade_core.specs.declared.statement.Argument.{Argument}
use Rattle.shade_core.specs.declared.statement.Operand.{Operand}
use Rattle.shade_core.specs.declared.statement.View.{View}
use Rattle.shade_core.specs.Fits.{CallFits, DeclareFits, LeaveFits, ReturnFits, StoreFits, SwitchFits}
use Rattle.shade_core.specs.Standing.{Case, loops}
use Rattle.shade_typed.specs.Contexts.{ContextView}

abbrev pub Declares : ContextView → ℕ → Option Operand → Type 0
Declares c local value = DeclareFits c.shader c.function c.values (slice_get c.function.locals local) value

abbrev pub Stores : ContextView → View → Operand → Type 0
Stores c view value = StoreFits c.shader c.function c.values view value

abbrev pub Returns : ContextView → Option Operand → Type 0
Returns c value = ReturnFits c.shader c.function c.values value c.function.result

abbrev pub Switches : ContextView → Operand → List Case → Type 0
Switches c selector cases = SwitchFits c.shader c.function c.values selector cases

abbrev pub Calls : ContextView → ℕ → List Argument → Option ShadeType → Type 0
Calls c number arguments result = CallFits c.shader c.function c.values number arguments result

-- the operand with which a loop may be left, if there is one, is a truth
abbrev pub LeavesBy : ContextView → Option Operand → Type 0
LeavesBy c leave = LeaveFits c.shader c.function c.values (loops leave)

-- a statement may stand, and gives no value
abbrev pub GivesNothing : Bool → Option ShadeType → Type 0
GivesNothing may_stand result = IsTrue may_stand × (result ≡ None)
