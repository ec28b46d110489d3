-- Operators, where they stand (WGSL, "Operator Expressions"). `>=` and `>>` are two tokens, of which the second follows directly.
use Rattle.std.specs.Prelude.{◌≡◌, ℕ, ◌+◌, ◌⊎◌, Bool, true, List, Option, None, Some, slice_get}
use Rattle.shade_base.specs.declared.place.Place.{Place}
use Rattle.shade_ast.specs.declared.lexeme.Sign.{Sign}
use Rattle.shade_ast.specs.declared.lexeme.Sign.TheVariants as sign
use Rattle.shade_ast.specs.declared.expr.Infix.{Infix}
use Rattle.shade_ast.specs.declared.expr.Infix.TheVariants as between
use Rattle.shade_ast.specs.declared.expr.Prefix.{Prefix}
use Rattle.shade_ast.specs.declared.expr.Prefix.TheVariants as before
use Rattle.shade_lex.specs.declared.token.Suffix.{Suffix}
use Rattle.shade_ast.specs.declared.lexeme.Keyword.{Keyword}
use Rattle.shade_ast.specs.declared.lexeme.Keyword.TheVariants as word
use Rattle.shade_ast.specs.Lexemes.{Lexeme, Word, Key, Number, Mark, Adjacent}
use Rattle.shade_cursor.specs.declared.operators.Joint.{Joint}
use Rattle.shade_cursor.specs.declared.operators.Joint.TheVariants as joint

-- what a token is, where one stands
abbrev pub found : {A : Type 0} → (Lexeme → Option A) → Option Lexeme → Option A
found f None = None
found f (Some t) = f t

abbrev pub mark_of : Lexeme → Option (Sign × Place)
mark_of (Mark s p) = Some (s, p)
mark_of _ = None

abbrev pub key_of : Lexeme → Option (Keyword × Place)
key_of (Key keyword p) = Some (keyword, p)
key_of _ = None

-- what a mark says, with its place
abbrev pub placed : {A : Type 0} → Option A → Place → Option (A × Place)
placed None place = None
placed (Some said) place = Some (said, place)

abbrev pub by_sign : {A : Type 0} → (Sign → Option A) → Lexeme → Option (A × Place)
by_sign says (Mark s p) = placed (says s) p
by_sign says _ = None

-- the operator of a product
abbrev pub factor_by : Sign → Option Infix
factor_by sign.Star = Some between.Multiply
factor_by sign.Slash = Some between.Divide
factor_by sign.Percent = Some between.Remainder
factor_by _ = None

abbrev pub factor_of : Lexeme → Option (Infix × Place)
factor_of = by_sign factor_by

-- the operator of a sum
abbrev pub term_by : Sign → Option Infix
term_by sign.Plus = Some between.Add
term_by sign.Minus = Some between.Subtract
term_by _ = None

abbrev pub term_of : Lexeme → Option (Infix × Place)
term_of = by_sign term_by

-- the operator before an operand
abbrev pub prefix_by : Sign → Option Prefix
prefix_by sign.Minus = Some before.Negate
prefix_by sign.Bang = Some before.Not
prefix_by sign.Tilde = Some before.Complement
prefix_by sign.Star = Some before.Deref
prefix_by sign.Ampersand = Some before.AddressOf
prefix_by _ = None

abbrev pub prefix_of : Lexeme → Option (Prefix × Place)
prefix_of = by_sign prefix_by

-- the operator before a left side
abbrev pub left_prefix_by : Sign → Option Prefix
left_prefix_by sign.Star = Some before.Deref
left_prefix_by sign.Ampersand = Some before.AddressOf
left_prefix_by _ = None

abbrev pub left_prefix_of : Lexeme → Option (Prefix × Place)
left_prefix_of = by_sign left_prefix_by

-- the first token of a comparison's operator
abbrev pub relation_by : Sign → Option Infix
relation_by sign.Less = Some between.Less
relation_by sign.Greater = Some between.Greater
relation_by sign.LessEqual = Some between.LessEqual
relation_by sign.EqualEqual = Some between.Equal
relation_by sign.NotEqual = Some between.NotEqual
relation_by _ = None

abbrev pub relation_of : Lexeme → Option (Infix × Place)
relation_of = by_sign relation_by

-- a mark stands directly behind a mark of one byte
abbrev pub Behind : List Lexeme → ℕ → Sign → Place → Type 0
Behind tokens at s first = (p : Place) × (slice_get tokens at ≡ Some (Mark s p)) × Adjacent first p

-- the operator of a comparison, and the place behind it
pub data ComparisonAt (tokens : List Lexeme) (at : ℕ) : Infix → Place → ℕ → Type 0 where
  one_token : {i : Infix} {p : Place} → found relation_of (slice_get tokens at) ≡ Some (i, p) → (i ≡ between.Greater → Behind tokens (at + 1) sign.Equal p → ⊥) → ComparisonAt tokens at i p (at + 1)
  two_tokens : {p : Place} → slice_get tokens at ≡ Some (Mark sign.Greater p) → Behind tokens (at + 1) sign.Equal p → ComparisonAt tokens at between.GreaterEqual p (at + 2)

-- the operator of a shift behind a single operand, and the place behind it
pub data ShiftAt (tokens : List Lexeme) (at : ℕ) (bare : Bool) : Infix → Place → ℕ → Type 0 where
  to_left : {p : Place} → bare ≡ true → slice_get tokens at ≡ Some (Mark sign.ShiftLeft p) → ShiftAt tokens at bare between.ShiftLeft p (at + 1)
  to_right : {p : Place} → bare ≡ true → slice_get tokens at ≡ Some (Mark sign.Greater p) → Behind tokens (at + 1) sign.Greater p → ShiftAt tokens at bare between.ShiftRight p (at + 2)

-- the operator that joins what stands before it
abbrev pub joint_by : Sign → Option Joint
joint_by sign.OrOr = Some joint.Or
joint_by sign.AndAnd = Some joint.And
joint_by sign.Ampersand = Some joint.BitAnd
joint_by sign.Bar = Some joint.BitOr
joint_by sign.Caret = Some joint.BitXor
joint_by _ = None

abbrev pub joint_of : Lexeme → Option (Joint × Place)
joint_of = by_sign joint_by

abbrev pub joint_sign : Joint → Sign
joint_sign joint.Or = sign.OrOr
joint_sign joint.And = sign.AndAnd
joint_sign joint.BitAnd = sign.Ampersand
joint_sign joint.BitOr = sign.Bar
joint_sign joint.BitXor = sign.Caret

abbrev pub joint_infix : Joint → Infix
joint_infix joint.Or = between.Or
joint_infix joint.And = between.And
joint_infix joint.BitAnd = between.BitAnd
joint_infix joint.BitOr = between.BitOr
joint_infix joint.BitXor = between.BitXor

-- operators on bits join only single operands
abbrev pub Joins : Joint → Bool → Type 0
Joins joint.Or bare = Unit {0}
Joins joint.And bare = Unit {0}
Joins joint.BitAnd bare = bare ≡ true
Joins joint.BitOr bare = bare ≡ true
Joins joint.BitXor bare = bare ≡ true

-- a name stands at a place
abbrev pub StandsWord : List Lexeme → ℕ → Type 0
StandsWord tokens at = (text : List ℕ) × (p : Place) × (slice_get tokens at ≡ Some (Word text p))

-- no name, number, `true` or `false` stands at a place
pub record NoLeaf (tokens : List Lexeme) (at : ℕ) : Type 0 where
  pub no_word : (text : List ℕ) (p : Place) → slice_get tokens at ≡ Some (Word text p) → ⊥
  pub no_number : (value : ℕ) (suffix : Suffix) (p : Place) → slice_get tokens at ≡ Some (Number value suffix p) → ⊥
  pub no_true : (p : Place) → slice_get tokens at ≡ Some (Key word.True p) → ⊥
  pub no_false : (p : Place) → slice_get tokens at ≡ Some (Key word.False p) → ⊥

-- a mark that closes a list
abbrev pub Closing : Sign → Type 0
Closing s = (s ≡ sign.Close) ⊎ (s ≡ sign.CloseTemplate)
