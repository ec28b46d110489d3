-- Trees of statements, where their parts tell it.
use Rattle.std.specs.Prelude.{◌≡◌, ℕ, ◌+◌, List, Bool, true, false, Option, None, Some}
use Rattle.shade_base.specs.declared.place.Place.{Place}
use Rattle.shade_ast.specs.declared.attr.Attr.{Attr}
use Rattle.shade_ast.specs.declared.lexeme.Keyword.{Keyword}
use Rattle.shade_ast.specs.declared.lexeme.Keyword.TheVariants as word
use Rattle.shade_ast.specs.declared.lexeme.Sign.{Sign}
use Rattle.shade_ast.specs.declared.lexeme.Sign.TheVariants as sign
use Rattle.shade_ast.specs.declared.stmt.Block.{Block, out-Block}
use Rattle.shade_ast.specs.declared.stmt.Simple.{Simple}
use Rattle.shade_ast.specs.declared.stmt.Simple.TheVariants as simple
use Rattle.shade_ast.specs.declared.stmt.Stmt.{Stmt}
use Rattle.shade_ast.specs.declared.stmt.StmtKind.{StmtKind}
use Rattle.shade_ast.specs.declared.stmt.StmtKind.TheVariants as kind
use Rattle.shade_ast.specs.declared.stmt.Update.{Update}
use Rattle.shade_ast.specs.declared.stmt.Update.TheVariants as update
use Rattle.shade_ast.specs.Lexemes.{Lexeme, Key, Mark}
use Rattle.shade_cursor.specs.Operators.{placed}
use Rattle.shade_parse_simple.specs.Readings.{first_of}
use Rattle.shade_parse_stmt.specs.declared.marks.Jump.{Jump}
use Rattle.shade_parse_stmt.specs.declared.marks.Jump.TheVariants as jump
use Rattle.shade_parse_stmt.specs.declared.parts.Body.{Body}

-- the places of first tokens
abbrev pub update_first : Update → Place
update_first (update.Assign target at value) = target.place
update_first (update.Compound target operator at value) = target.place
update_first (update.Phony underscore at value) = underscore
update_first (update.Increment target at) = target.place
update_first (update.Decrement target at) = target.place
update_first (update.Call e) = e.place

abbrev pub simple_first : Simple → Place
simple_first (simple.Var v) = v.keyword
simple_first (simple.Const b) = b.keyword
simple_first (simple.Let b) = b.keyword
simple_first (simple.Update u) = update_first u

-- a statement of one keyword
abbrev pub jump_by : Keyword → Option Jump
jump_by word.Break = Some jump.Break
jump_by word.Continue = Some jump.Continue
jump_by word.Discard = Some jump.Discard
jump_by _ = None

abbrev pub jump_of : Lexeme → Option (Jump × Place)
jump_of (Key keyword place) = placed (jump_by keyword) place
jump_of _ = None

abbrev pub kind_of : Jump → StmtKind
kind_of jump.Break = kind.Break
kind_of jump.Continue = kind.Continue
kind_of jump.Discard = kind.Discard

-- a block as a statement, of which both have their numbers
pub record IsBlockStatement (attrs : List Attr) (place : Place) (body : Body) (node : ℕ) (s : Stmt) : Type 0 where
  pub block : Block
  pub whole : s ≡ record { node = node + 1; place = first_of attrs place; kind = kind.Block block }
  pub parts : out-Block block ≡ record { node = node; place = first_of attrs place; attrs = attrs; body = body.statements; end = body.end }

-- what is told of a token, where one stands
abbrev pub holds : (Lexeme → Bool) → Option Lexeme → Bool
holds f None = false
holds f (Some t) = f t

-- what is told of a token by its mark or its keyword, and of no other
abbrev pub by_kind : (Sign → Bool) → (Keyword → Bool) → Lexeme → Bool
by_kind marks words (Mark s place) = marks s
by_kind marks words (Key keyword place) = words keyword
by_kind marks words _ = false

abbrev pub no_sign : Sign → Bool
no_sign s = false

abbrev pub no_keyword : Keyword → Bool
no_keyword keyword = false

-- the tokens behind the statements of a block or of a `loop`
abbrev pub closing_sign : Sign → Bool
closing_sign sign.CloseBrace = true
closing_sign _ = false

abbrev pub closing_keyword : Keyword → Bool
closing_keyword word.Continuing = true
closing_keyword _ = false

abbrev pub is_closing : Lexeme → Bool
is_closing = by_kind closing_sign closing_keyword

-- the tokens behind the selectors of a `case`
abbrev pub selected_sign : Sign → Bool
selected_sign sign.Colon = true
selected_sign sign.At = true
selected_sign sign.OpenBrace = true
selected_sign _ = false

abbrev pub is_selected : Lexeme → Bool
is_selected = by_kind selected_sign no_keyword

-- the tokens that begin a statement which attributes may stand before
abbrev pub compound_sign : Sign → Bool
compound_sign sign.At = true
compound_sign sign.OpenBrace = true
compound_sign _ = false

abbrev pub compound_keyword : Keyword → Bool
compound_keyword word.If = true
compound_keyword word.Switch = true
compound_keyword word.Loop = true
compound_keyword word.For = true
compound_keyword word.While = true
compound_keyword _ = false

abbrev pub is_compound : Lexeme → Bool
is_compound = by_kind compound_sign compound_keyword

-- the tokens that begin a clause
abbrev pub clause_keyword : Keyword → Bool
clause_keyword word.Case = true
clause_keyword word.Default = true
clause_keyword _ = false

abbrev pub is_clause : Lexeme → Bool
is_clause = by_kind no_sign clause_keyword
