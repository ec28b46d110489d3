-- The tokens that phrases begin with. None is empty.
use Rattle.std.proofs.Common.{◌≡◌, refl, subst, List, ◌∷◌}
use Rattle.shade_ast.specs.declared.lexeme.Keyword.TheVariants as word
use Rattle.shade_ast.specs.declared.lexeme.Sign.TheVariants as sign
use Rattle.shade_ast.specs.Lexemes.{Lexeme, Word, Key, Number, Mark}
use Rattle.shade_ast.specs.Shapes.{ExprShape}
use Rattle.shade_ast.specs.Expressions.{TypeName, plain_type, template_type, Expression, relational, either, both, bit_and, bit_or, bit_xor, Or, or_first, or_more, And, and_first, and_more, BitAnd, bit_and_first, bit_and_more, BitOr, bit_or_first, bit_or_more, BitXor, bit_xor_first, bit_xor_more, Relational, shifted, less, greater, less_equal, greater_equal, equal, not_equal, Shift, additive, shift_left, shift_right, Additive, multiplicative, add, subtract, Multiplicative, unary, multiply, divide, remainder, Unary, negate, not, complement, deref, address_of, operand, Singular, primary, accessed, Primary, called, typed, numeral, true_word, false_word, parens, Call, calls, LeftSide, left_deref, left_address_of, left_singular, LeftSingular, left_name, left_parens, left_accessed}

-- a list begins with a token of this kind
pub record First (F : Lexeme → Type 0) (ts : List Lexeme) : Type 0 where
  pub first : Lexeme
  pub others : List Lexeme
  pub split : ts ≡ first ∷ others
  pub fits : F first

abbrev pub IsName : Lexeme → Type 0
IsName (Word text place) = Unit {0}
IsName _ = ⊥

-- what an expression begins with
abbrev pub BeginsExpr : Lexeme → Type 0
BeginsExpr (Word text place) = Unit {0}
BeginsExpr (Number value suffix place) = Unit {0}
BeginsExpr (Key word.True place) = Unit {0}
BeginsExpr (Key word.False place) = Unit {0}
BeginsExpr (Mark sign.Open place) = Unit {0}
BeginsExpr (Mark sign.Minus place) = Unit {0}
BeginsExpr (Mark sign.Bang place) = Unit {0}
BeginsExpr (Mark sign.Tilde place) = Unit {0}
BeginsExpr (Mark sign.Star place) = Unit {0}
BeginsExpr (Mark sign.Ampersand place) = Unit {0}
BeginsExpr _ = ⊥

-- what a left side begins with
abbrev pub BeginsLeft : Lexeme → Type 0
BeginsLeft (Word text place) = Unit {0}
BeginsLeft (Mark sign.Open place) = Unit {0}
BeginsLeft (Mark sign.Star place) = Unit {0}
BeginsLeft (Mark sign.Ampersand place) = Unit {0}
BeginsLeft _ = ⊥

pub type_first : (e : ExprShape) (ts w : List Lexeme) → TypeName e ts w → First IsName ts
type_first e ts w (plain_type p text {ts = us}) = record { first = Word text p; others = us; split = refl; fits = tt }
type_first e ts w (template_type p q r text {ts = us} g) = record { first = Word text p; others = Mark sign.OpenTemplate q ∷ us; split = refl; fits = tt }

pub call_first : (e : ExprShape) (ts w : List Lexeme) → Call e ts w → First IsName ts
call_first e ts w (calls {e = f} p q {us = us} g h) = type_first f ts (Mark sign.Open p ∷ us) g

name_begins : (ts : List Lexeme) → First IsName ts → First BeginsExpr ts
name_begins ts f = record { first = f.first; others = f.others; split = f.split; fits = fits f.first f.fits }
  where
    fits : (t : Lexeme) → IsName t → BeginsExpr t
    fits (Word text place) h = tt
    fits _ h = absurd h

pub primary_first : (e : ExprShape) (ts w : List Lexeme) → Primary e ts w → First BeginsExpr ts
primary_first e ts w (called g) = name_begins ts (call_first e ts w g)
primary_first e ts w (typed g) = name_begins ts (type_first e ts w g)
primary_first e ts w (numeral p value suffix {ts = us}) = record { first = Number value suffix p; others = us; split = refl; fits = tt }
primary_first e ts w (true_word p {ts = us}) = record { first = Key word.True p; others = us; split = refl; fits = tt }
primary_first e ts w (false_word p {ts = us}) = record { first = Key word.False p; others = us; split = refl; fits = tt }
primary_first e ts w (parens p q {ts = us} g) = record { first = Mark sign.Open p; others = us; split = refl; fits = tt }

pub singular_first : (e : ExprShape) (ts w : List Lexeme) → Singular e ts w → First BeginsExpr ts
singular_first e ts w (primary g) = primary_first e ts w g
singular_first e ts w (accessed {e = f} {us = us} g a) = singular_first f ts us g

pub unary_first : (e : ExprShape) (ts w : List Lexeme) → Unary e ts w → First BeginsExpr ts
unary_first e ts w (negate p {ts = us} g) = record { first = Mark sign.Minus p; others = us; split = refl; fits = tt }
unary_first e ts w (not p {ts = us} g) = record { first = Mark sign.Bang p; others = us; split = refl; fits = tt }
unary_first e ts w (complement p {ts = us} g) = record { first = Mark sign.Tilde p; others = us; split = refl; fits = tt }
unary_first e ts w (deref p {ts = us} g) = record { first = Mark sign.Star p; others = us; split = refl; fits = tt }
unary_first e ts w (address_of p {ts = us} g) = record { first = Mark sign.Ampersand p; others = us; split = refl; fits = tt }
unary_first e ts w (operand g) = singular_first e ts w g

pub multiplicative_first : (e : ExprShape) (ts w : List Lexeme) → Multiplicative e ts w → First BeginsExpr ts
multiplicative_first e ts w (unary g) = unary_first e ts w g
multiplicative_first e ts w (multiply {a = a} p {us = us} g h) = multiplicative_first a ts (Mark sign.Star p ∷ us) g
multiplicative_first e ts w (divide {a = a} p {us = us} g h) = multiplicative_first a ts (Mark sign.Slash p ∷ us) g
multiplicative_first e ts w (remainder {a = a} p {us = us} g h) = multiplicative_first a ts (Mark sign.Percent p ∷ us) g

pub additive_first : (e : ExprShape) (ts w : List Lexeme) → Additive e ts w → First BeginsExpr ts
additive_first e ts w (multiplicative g) = multiplicative_first e ts w g
additive_first e ts w (add {a = a} p {us = us} g h) = additive_first a ts (Mark sign.Plus p ∷ us) g
additive_first e ts w (subtract {a = a} p {us = us} g h) = additive_first a ts (Mark sign.Minus p ∷ us) g

pub shift_first : (e : ExprShape) (ts w : List Lexeme) → Shift e ts w → First BeginsExpr ts
shift_first e ts w (additive g) = additive_first e ts w g
shift_first e ts w (shift_left {a = a} p {us = us} g h) = unary_first a ts (Mark sign.ShiftLeft p ∷ us) g
shift_first e ts w (shift_right {a = a} p q {us = us} n g h) = unary_first a ts (Mark sign.Greater p ∷ (Mark sign.Greater q ∷ us)) g

pub relational_first : (e : ExprShape) (ts w : List Lexeme) → Relational e ts w → First BeginsExpr ts
relational_first e ts w (shifted g) = shift_first e ts w g
relational_first e ts w (less {a = a} p {us = us} g h) = shift_first a ts (Mark sign.Less p ∷ us) g
relational_first e ts w (greater {a = a} p {us = us} g h) = shift_first a ts (Mark sign.Greater p ∷ us) g
relational_first e ts w (less_equal {a = a} p {us = us} g h) = shift_first a ts (Mark sign.LessEqual p ∷ us) g
relational_first e ts w (greater_equal {a = a} p q {us = us} n g h) = shift_first a ts (Mark sign.Greater p ∷ (Mark sign.Equal q ∷ us)) g
relational_first e ts w (equal {a = a} p {us = us} g h) = shift_first a ts (Mark sign.EqualEqual p ∷ us) g
relational_first e ts w (not_equal {a = a} p {us = us} g h) = shift_first a ts (Mark sign.NotEqual p ∷ us) g

pub or_begins : (e : ExprShape) (ts w : List Lexeme) → Or e ts w → First BeginsExpr ts
or_begins e ts w (or_first g) = relational_first e ts w g
or_begins e ts w (or_more {a = a} p {us = us} g h) = or_begins a ts (Mark sign.OrOr p ∷ us) g

pub and_begins : (e : ExprShape) (ts w : List Lexeme) → And e ts w → First BeginsExpr ts
and_begins e ts w (and_first g) = relational_first e ts w g
and_begins e ts w (and_more {a = a} p {us = us} g h) = and_begins a ts (Mark sign.AndAnd p ∷ us) g

pub bit_and_begins : (e : ExprShape) (ts w : List Lexeme) → BitAnd e ts w → First BeginsExpr ts
bit_and_begins e ts w (bit_and_first g) = unary_first e ts w g
bit_and_begins e ts w (bit_and_more {a = a} p {us = us} g h) = bit_and_begins a ts (Mark sign.Ampersand p ∷ us) g

pub bit_or_begins : (e : ExprShape) (ts w : List Lexeme) → BitOr e ts w → First BeginsExpr ts
bit_or_begins e ts w (bit_or_first g) = unary_first e ts w g
bit_or_begins e ts w (bit_or_more {a = a} p {us = us} g h) = bit_or_begins a ts (Mark sign.Bar p ∷ us) g

pub bit_xor_begins : (e : ExprShape) (ts w : List Lexeme) → BitXor e ts w → First BeginsExpr ts
bit_xor_begins e ts w (bit_xor_first g) = unary_first e ts w g
bit_xor_begins e ts w (bit_xor_more {a = a} p {us = us} g h) = bit_xor_begins a ts (Mark sign.Caret p ∷ us) g

pub expression_first : (e : ExprShape) (ts w : List Lexeme) → Expression e ts w → First BeginsExpr ts
expression_first e ts w (relational g) = relational_first e ts w g
expression_first e ts w (either {a = a} p {us = us} g h) = or_begins a ts (Mark sign.OrOr p ∷ us) g
expression_first e ts w (both {a = a} p {us = us} g h) = and_begins a ts (Mark sign.AndAnd p ∷ us) g
expression_first e ts w (bit_and {a = a} p {us = us} g h) = bit_and_begins a ts (Mark sign.Ampersand p ∷ us) g
expression_first e ts w (bit_or {a = a} p {us = us} g h) = bit_or_begins a ts (Mark sign.Bar p ∷ us) g
expression_first e ts w (bit_xor {a = a} p {us = us} g h) = bit_xor_begins a ts (Mark sign.Caret p ∷ us) g

left_singular_first : (e : ExprShape) (ts w : List Lexeme) → LeftSingular e ts w → First BeginsLeft ts
left_singular_first e ts w (left_name p text {ts = us}) = record { first = Word text p; others = us; split = refl; fits = tt }
left_singular_first e ts w (left_parens p q {ts = us} g) = record { first = Mark sign.Open p; others = us; split = refl; fits = tt }
left_singular_first e ts w (left_accessed {e = f} {us = us} g a) = left_singular_first f ts us g

pub left_side_first : (e : ExprShape) (ts w : List Lexeme) → LeftSide e ts w → First BeginsLeft ts
left_side_first e ts w (left_deref p {ts = us} g) = record { first = Mark sign.Star p; others = us; split = refl; fits = tt }
left_side_first e ts w (left_address_of p {ts = us} g) = record { first = Mark sign.Ampersand p; others = us; split = refl; fits = tt }
left_side_first e ts w (left_singular g) = left_singular_first e ts w g

-- no phrase begins with a token that does not fit
pub first_is : (F : Lexeme → Type 0) (t : Lexeme) (ts : List Lexeme) → First F (t ∷ ts) → F t
first_is F t ts f =
    let e : t ∷ ts ≡ f.first ∷ f.others = f.split in
    let same : f.first ≡ t = cc in
    subst F same f.fits
