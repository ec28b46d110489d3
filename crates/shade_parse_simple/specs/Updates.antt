-- What assigns, and what begins a call (WGSL, "Assignment Statement", "Function Call Statement").
use Rattle.std.specs.Prelude.{ℕ, ◌+◌, ◌⊎◌, List, ◌∷◌, Option, None, Some}
use Rattle.shade_base.specs.declared.place.Place.{Place}
use Rattle.shade_ast.specs.declared.lexeme.Sign.{Sign}
use Rattle.shade_ast.specs.declared.lexeme.Sign.TheVariants as sign
use Rattle.shade_ast.specs.declared.expr.Expr.{Expr}
use Rattle.shade_ast.specs.declared.stmt.OpAssign.{OpAssign}
use Rattle.shade_ast.specs.declared.stmt.OpAssign.TheVariants as operator
use Rattle.shade_ast.specs.declared.stmt.Update.{Update}
use Rattle.shade_ast.specs.declared.stmt.Update.TheVariants as update
use Rattle.shade_ast.specs.Lexemes.{Lexeme, Mark}
use Rattle.shade_ast.specs.Statements.{Assigns}
use Rattle.shade_cursor.specs.Operators.{StandsWord, by_sign}
use Rattle.shade_parse_simple.specs.Maybes.{Stands}

-- what assigns by one mark: `=` has no operator
abbrev pub assigns_by : Sign → Option (Option OpAssign)
assigns_by sign.Equal = Some None
assigns_by sign.PlusEqual = Some (Some operator.Add)
assigns_by sign.MinusEqual = Some (Some operator.Subtract)
assigns_by sign.StarEqual = Some (Some operator.Multiply)
assigns_by sign.SlashEqual = Some (Some operator.Divide)
assigns_by sign.PercentEqual = Some (Some operator.Remainder)
assigns_by sign.AmpersandEqual = Some (Some operator.BitAnd)
assigns_by sign.BarEqual = Some (Some operator.BitOr)
assigns_by sign.CaretEqual = Some (Some operator.BitXor)
assigns_by sign.ShiftLeftEqual = Some (Some operator.ShiftLeft)
assigns_by _ = None

abbrev pub assigns_of : Lexeme → Option (Option OpAssign × Place)
assigns_of = by_sign assigns_by

-- '=' | opassign, with the place of its first token
pub data Assigning : Option OpAssign × Place → List Lexeme → List Lexeme → Type 0 where
  plainly : (p : Place) {ts : List Lexeme} → Assigning (None, p) (Mark sign.Equal p ∷ ts) ts
  by_operator : {o : OpAssign} {p : Place} {ts us : List Lexeme} → Assigns o p ts us → Assigning (Some o, p) ts us

-- what a value is assigned by
abbrev pub assigned_by : Expr → Option OpAssign → Place → Expr → Update
assigned_by target None at value = update.Assign target at value
assigned_by target (Some o) at value = update.Compound target o at value

-- a name stands at a place, and a `(` or a template list behind it
abbrev pub BeginsCall : List Lexeme → ℕ → Type 0
BeginsCall tokens at = StandsWord tokens at × (Stands (Mark sign.Open) tokens (at + 1) ⊎ Stands (Mark sign.OpenTemplate) tokens (at + 1))

-- neither a `_` stands at a place nor does a call begin there
pub record NoOther (tokens : List Lexeme) (at : ℕ) : Type 0 where
  pub no_underscore : Stands (Mark sign.Underscore) tokens at → ⊥
  pub no_call : BeginsCall tokens at → ⊥
