-- Phrases of phrases. A phrase is a relation of what is read, the tokens from its first one on, and the tokens behind it.
use Rattle.std.specs.Prelude.{Bool, true, false, List, [], ◌∷◌, Option, None, Some}
use Rattle.shade_base.specs.declared.place.Place.{Place}
use Rattle.shade_ast.specs.declared.lexeme.Sign.TheVariants as sign
use Rattle.shade_ast.specs.Lexemes.{Lexeme, Mark}

-- `x*`
pub data Many {R : Type 0} (G : R → List Lexeme → List Lexeme → Type 0) : List R → List Lexeme → List Lexeme → Type 0 where
  no_more : {ts : List Lexeme} → Many G [] ts ts
  more : {r : R} {rs : List R} {ts us vs : List Lexeme} → G r ts us → Many G rs us vs → Many G (r ∷ rs) ts vs

-- `x?`
pub data Maybe {R : Type 0} (G : R → List Lexeme → List Lexeme → Type 0) : Option R → List Lexeme → List Lexeme → Type 0 where
  absent : {ts : List Lexeme} → Maybe G None ts ts
  present : {r : R} {ts us : List Lexeme} → G r ts us → Maybe G (Some r) ts us

-- `x,+`, with whether a comma stands behind the last
pub data Listed {R : Type 0} (G : R → List Lexeme → List Lexeme → Type 0) : List R × Bool → List Lexeme → List Lexeme → Type 0 where
  last : {r : R} {ts us : List Lexeme} → G r ts us → Listed G (r ∷ [], false) ts us
  last_comma : {r : R} (p : Place) {ts us : List Lexeme} → G r ts (Mark sign.Comma p ∷ us) → Listed G (r ∷ [], true) ts us
  comma : {r : R} {rs : List R} {trailing : Bool} (p : Place) {ts us vs : List Lexeme} → G r ts (Mark sign.Comma p ∷ us) → Listed G (rs, trailing) us vs → Listed G (r ∷ rs, trailing) ts vs

-- `x,*`
pub data MaybeListed {R : Type 0} (G : R → List Lexeme → List Lexeme → Type 0) : List R × Bool → List Lexeme → List Lexeme → Type 0 where
  nothing : {ts : List Lexeme} → MaybeListed G ([], false) ts ts
  something : {rs : List R × Bool} {ts us : List Lexeme} → Listed G rs ts us → MaybeListed G rs ts us
