-- What may still stand behind the first words of a declaration, and behind a list.
use Rattle.std.specs.Prelude.{◌≡◌, Bool, List, ◌∷◌, Option}
use Rattle.shade_ast.specs.declared.lexeme.Sign.{Sign}
use Rattle.shade_ast.specs.declared.lexeme.Sign.TheVariants as sign
use Rattle.shade_ast.specs.Lexemes.{Lexeme, Word, Mark}
use Rattle.shade_ast.specs.Shapes.{NameShape, BindingShape}
use Rattle.shade_ast.specs.Repeats.{Maybe}
use Rattle.shade_ast.specs.Statements.{OfType, HasValue, CommaName, MaybeMark}
use Rattle.shade_base.specs.declared.place.Place.{Place}

-- a `const` or a `let` behind its keyword: NAME (':' type)? '=' expr
pub data Bound (keyword : Place) : BindingShape → List Lexeme → List Lexeme → Type 0 where
  bound : (b : BindingShape) {ts us vs : List Lexeme} → b.place ≡ keyword → Maybe OfType b.ty ts us → HasValue b.value us vs → Bound keyword b (Word b.name.text b.name.place ∷ ts) vs

-- ','? and a mark that closes, with whether the comma stands there
pub data Ending (closer : Sign) : Bool → List Lexeme → List Lexeme → Type 0 where
  ending : {trailing : Bool} (p : Place) {ts us : List Lexeme} → MaybeMark sign.Comma trailing ts (Mark closer p ∷ us) → Ending closer trailing ts us

-- the template list of a `var` behind its first name: (',' NAME)? ','? '>'
pub data SpaceEnd : Option NameShape × Bool → List Lexeme → List Lexeme → Type 0 where
  space_end : {access : Option NameShape} {trailing : Bool} {ts us vs : List Lexeme} → Maybe CommaName access ts us → Ending sign.CloseTemplate trailing us vs → SpaceEnd (access, trailing) ts vs
