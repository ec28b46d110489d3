-- What the parser of a whole text answers.
use Rattle.std.specs.Prelude.{◌≡◌, ℕ, List, [], Some, slice_get}
use Rattle.shade_ast.specs.declared.lexeme.Keyword.TheVariants as word
use Rattle.shade_ast.specs.Lexemes.{Lexeme, Key}
use Rattle.shade_ast.specs.Shapes.{TreeShape}
use Rattle.shade_ast.specs.Declarations.{Module}
use Rattle.shade_ast.specs.Places.{IsStop}
use Rattle.shade_cursor.specs.declared.part.Fault.{Fault}
use Rattle.shade_cursor.specs.declared.part.Fault.TheVariants as fault

-- a token that a directive begins with
abbrev pub BeginsDirective : Lexeme → Type 0
BeginsDirective (Key word.Diagnostic p) = Unit {0}
BeginsDirective (Key word.Requires p) = Unit {0}
BeginsDirective (Key word.Enable p) = Unit {0}
BeginsDirective _ = ⊥

-- such a token stands at a place
abbrev pub DirectiveStands : List Lexeme → ℕ → Type 0
DirectiveStands tokens at = (t : Lexeme) × (slice_get tokens at ≡ Some t) × BeginsDirective t

-- no whole text is spelled, and the place is the first past which none goes on
abbrev pub Refused : List Lexeme → Fault → Type 0
Refused tokens (fault.Unexpected at) = IsStop Module tokens 0 at × ((t : TreeShape) → Module t tokens [] → ⊥)
Refused tokens fault.NoMemory = Unit {0}
