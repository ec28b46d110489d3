-- Productions that lead to themselves on their left (WGSL, "Expression Grammar"), one step to the right: each relates the token that
-- begins the step, the tree before it, the tree with it, the tokens behind that token and those behind the step.
use Rattle.std.specs.Prelude.{◌≡◌, ℕ, List, ◌∷◌}
use Rattle.shade_base.specs.declared.place.Place.{Place}
use Rattle.shade_ast.specs.declared.lexeme.Sign.TheVariants as sign
use Rattle.shade_ast.specs.declared.expr.Infix.TheVariants as between
use Rattle.shade_ast.specs.Lexemes.{Lexeme, Word, Mark}
use Rattle.shade_ast.specs.Shapes.{NameShape, ExprShape, infixed, member, index, named, paren, place_of}
use Rattle.shade_ast.specs.Expressions.{Expression, LeftSide, Multiplicative, Relational, Unary}
use Rattle.shade_ast.specs.Chains.{Infix}

-- products
abbrev pub Factor : Lexeme → ExprShape → ExprShape → List Lexeme → List Lexeme → Type 0
Factor (Mark sign.Star p) l q us zs = Infix Unary (infixed (place_of l) l between.Multiply p) q us zs
Factor (Mark sign.Slash p) l q us zs = Infix Unary (infixed (place_of l) l between.Divide p) q us zs
Factor (Mark sign.Percent p) l q us zs = Infix Unary (infixed (place_of l) l between.Remainder p) q us zs
Factor _ l q us zs = ⊥

-- sums
abbrev pub Term : Lexeme → ExprShape → ExprShape → List Lexeme → List Lexeme → Type 0
Term (Mark sign.Plus p) l q us zs = Infix Multiplicative (infixed (place_of l) l between.Add p) q us zs
Term (Mark sign.Minus p) l q us zs = Infix Multiplicative (infixed (place_of l) l between.Subtract p) q us zs
Term _ l q us zs = ⊥

-- `||`
abbrev pub OrStep : Lexeme → ExprShape → ExprShape → List Lexeme → List Lexeme → Type 0
OrStep (Mark sign.OrOr p) l q us zs = Infix Relational (infixed (place_of l) l between.Or p) q us zs
OrStep _ l q us zs = ⊥

-- `&&`
abbrev pub AndStep : Lexeme → ExprShape → ExprShape → List Lexeme → List Lexeme → Type 0
AndStep (Mark sign.AndAnd p) l q us zs = Infix Relational (infixed (place_of l) l between.And p) q us zs
AndStep _ l q us zs = ⊥

-- `&`
abbrev pub BitAndStep : Lexeme → ExprShape → ExprShape → List Lexeme → List Lexeme → Type 0
BitAndStep (Mark sign.Ampersand p) l q us zs = Infix Unary (infixed (place_of l) l between.BitAnd p) q us zs
BitAndStep _ l q us zs = ⊥

-- `|`
abbrev pub BitOrStep : Lexeme → ExprShape → ExprShape → List Lexeme → List Lexeme → Type 0
BitOrStep (Mark sign.Bar p) l q us zs = Infix Unary (infixed (place_of l) l between.BitOr p) q us zs
BitOrStep _ l q us zs = ⊥

-- `^`
abbrev pub BitXorStep : Lexeme → ExprShape → ExprShape → List Lexeme → List Lexeme → Type 0
BitXorStep (Mark sign.Caret p) l q us zs = Infix Unary (infixed (place_of l) l between.BitXor p) q us zs
BitXorStep _ l q us zs = ⊥

-- accesses
pub record MemberStep (l : ExprShape) (p : Place) (q : ExprShape) (us zs : List Lexeme) : Type 0 where
  pub name : NameShape
  pub split : us ≡ Word name.text name.place ∷ zs
  pub same : q ≡ member (place_of l) l p name

pub record IndexStep (l : ExprShape) (p : Place) (q : ExprShape) (us zs : List Lexeme) : Type 0 where
  pub inner : ExprShape
  pub close : Place
  pub phrase : Expression inner us (Mark sign.CloseBracket close ∷ zs)
  pub same : q ≡ index (place_of l) l p inner

abbrev pub AccessStep : Lexeme → ExprShape → ExprShape → List Lexeme → List Lexeme → Type 0
AccessStep (Mark sign.Dot p) l q us zs = MemberStep l p q us zs
AccessStep (Mark sign.OpenBracket p) l q us zs = IndexStep l p q us zs
AccessStep _ l q us zs = ⊥

-- a name or a left side in parentheses
pub data LeftFirst : ExprShape → List Lexeme → List Lexeme → Type 0 where
  first_name : (p : Place) (text : List ℕ) {ts : List Lexeme} → LeftFirst (named p text) (Word text p ∷ ts) ts
  first_parens : {e : ExprShape} (p q : Place) {ts us : List Lexeme} → LeftSide e ts (Mark sign.Close q ∷ us) → LeftFirst (paren p e) (Mark sign.Open p ∷ ts) us
