-- How deep tokens stand in expressions, and how many operators and accesses stand before them: two limits of our own. An
-- expression, a type, a left side or a call that stands in no other begins anew.
use Rattle.std.specs.Prelude.{ℕ, ◌+◌, ◌==◌, ◌<◌, ◌⊎◌, Bool, true, false, List, [], ◌∷◌, if◌then◌else◌}
use Rattle.shade_base.specs.declared.place.Place.{Place}
use Rattle.shade_ast.specs.declared.lexeme.Keyword.{Keyword}
use Rattle.shade_ast.specs.declared.lexeme.Keyword.TheVariants as word
use Rattle.shade_ast.specs.declared.lexeme.Sign.{Sign}
use Rattle.shade_ast.specs.declared.lexeme.Sign.TheVariants as sign
use Rattle.shade_ast.specs.Lexemes.{Lexeme, Word, Key, Number, Mark, Stray}
use Rattle.shade_cursor.specs.Passes.{Passes}
use Rattle.shade_cursor.specs.declared.depths.Inside.{Inside}
use Rattle.shade_cursor.specs.declared.depths.Last.{Last}
use Rattle.shade_cursor.specs.declared.depths.Last.TheVariants as last
use Rattle.shade_cursor.specs.declared.depths.Role.{Role}
use Rattle.shade_cursor.specs.declared.depths.Role.TheVariants as role

-- what stands open: the innermost bracket, those around it from the inside out, and what the last token says of the next one
pub record Opened : Type 0 where
  pub inner : Inside
  pub outer : List Inside
  pub last : Last

-- what a token is in an expression, as far as depth goes
abbrev pub keyword_role : Keyword → Role
keyword_role word.True = role.Operand
keyword_role word.False = role.Operand
keyword_role word.Fn = role.Names
keyword_role word.Const = role.Parts
keyword_role word.Diagnostic = role.Parts
keyword_role word.For = role.Parts
keyword_role word.Var = role.Parts
keyword_role _ = role.Ends

abbrev pub sign_role : Sign → Place → Role
sign_role sign.Open place = role.Opens
sign_role sign.OpenTemplate place = role.Opens
sign_role sign.OpenBracket place = role.Indexes
sign_role sign.Close place = role.Closes
sign_role sign.CloseTemplate place = role.Closes
sign_role sign.CloseBracket place = role.Closes
sign_role sign.Comma place = role.Comma
sign_role sign.Dot place = role.Accesses
sign_role sign.Bang place = role.Prefix
sign_role sign.Tilde place = role.Prefix
sign_role sign.Minus place = role.Either
sign_role sign.Star place = role.Either
sign_role sign.Ampersand place = role.Either
sign_role sign.Plus place = role.Infix
sign_role sign.Slash place = role.Infix
sign_role sign.Percent place = role.Infix
sign_role sign.Bar place = role.Infix
sign_role sign.Caret place = role.Infix
sign_role sign.AndAnd place = role.Infix
sign_role sign.OrOr place = role.Infix
sign_role sign.ShiftLeft place = role.Infix
sign_role sign.Less place = role.Infix
sign_role sign.LessEqual place = role.Infix
sign_role sign.EqualEqual place = role.Infix
sign_role sign.NotEqual place = role.Infix
sign_role sign.Greater place = role.Greater place
sign_role sign.Equal place = role.Equal place
sign_role sign.At place = role.Names
sign_role _ place = role.Ends

abbrev pub role_of : Lexeme → Role
role_of (Word text place) = role.Name
role_of (Number value suffix place) = role.Operand
role_of (Key keyword place) = keyword_role keyword
role_of (Mark s place) = sign_role s place
role_of (Stray place) = role.Ends

-- the outermost expression, before its first token
abbrev pub outermost : Inside
outermost = record { floor = 0; depth = 0; start = 0; chain = 0 }

-- a new expression, where the last token said this
abbrev pub anew : Last → Opened
anew said = record { inner = outermost; outer = []; last = said }

abbrev pub start : Opened
start = anew last.Fresh

-- the same brackets, where the last token said this
abbrev pub after : Last → Opened → Opened
after said s = record { inner = s.inner; outer = s.outer; last = said }

-- behind an operator between two operands: the prefixes before the first are around it no more
abbrev pub joined : Opened → Opened
joined s = record { inner = record { floor = s.inner.floor; depth = s.inner.floor; start = s.inner.start; chain = s.inner.chain + 1 }; outer = s.outer; last = last.Fresh }

abbrev pub prefixed : Opened → Opened
prefixed s = record { inner = record { floor = s.inner.floor; depth = s.inner.depth + 1; start = s.inner.start; chain = s.inner.chain }; outer = s.outer; last = last.Fresh }

abbrev pub accessed : Opened → Opened
accessed s = record { inner = record { floor = s.inner.floor; depth = s.inner.depth; start = s.inner.start; chain = s.inner.chain + 1 }; outer = s.outer; last = last.Fresh }

-- behind a comma
abbrev pub resumed : Opened → Opened
resumed s = record { inner = record { floor = s.inner.floor; depth = s.inner.floor; start = s.inner.start; chain = s.inner.start }; outer = s.outer; last = last.Fresh }

abbrev pub opened : Opened → Opened
opened s = record { inner = record { floor = s.inner.depth + 1; depth = s.inner.depth + 1; start = s.inner.chain; chain = s.inner.chain }; outer = s.inner ∷ s.outer; last = last.Fresh }

abbrev pub closed_to : List Inside → Opened
closed_to [] = start
closed_to (around ∷ others) = record { inner = around; outer = others; last = last.Ended }

-- parentheses and template lists of declarations, attributes and `for` are none of an expression's
abbrev pub opened_after : Last → Opened → Opened
opened_after last.Apart s = after last.Fresh s
opened_after _ s = opened s

abbrev pub named_after : Last → Opened → Opened
named_after last.Naming s = after last.Apart s
named_after _ s = after last.Ended s

-- `-`, `*` and `&` stand between two operands or before one
abbrev pub either_after : Last → Opened → Opened
either_after last.Ended s = joined s
either_after _ s = prefixed s

-- Two bytes that follow one another. `>=`, `>>` and `>>=` are several tokens, of which the last ends the operator.
abbrev pub follows : Place → Place → Bool
follows first second = second.offset == first.offset + 1

abbrev pub greater_after : Last → Place → Opened → Opened
greater_after (last.Greater first) place s = after (last.Greaters place) s
greater_after _ place s = after (last.Greater place) s

abbrev pub equal_after : Last → Opened → Opened
equal_after (last.Greater first) s = joined s
equal_after _ s = start

-- whether a token goes on with the operator that began with a `>`, or with two
abbrev pub goes_on : Last → Role → Bool
goes_on (last.Greater first) (role.Greater second) = follows first second
goes_on (last.Greater first) (role.Equal second) = follows first second
goes_on (last.Greaters first) (role.Equal second) = follows first second
goes_on _ _ = false

abbrev pub is_half : Last → Bool
is_half (last.Greater first) = true
is_half (last.Greaters first) = true
is_half _ = false

-- before a token: an operator that it does not go on with has ended
abbrev pub before : Role → Opened → Opened
before next s = if is_half s.last then (if goes_on s.last next then s else joined s) else s

-- behind a token
abbrev pub behind : Role → Opened → Opened
behind role.Operand s = after last.Ended s
behind role.Name s = named_after s.last s
behind role.Names s = anew last.Naming
behind role.Parts s = anew last.Apart
behind role.Opens s = opened_after s.last s
behind role.Indexes s = opened (accessed s)
behind role.Closes s = closed_to s.outer
behind role.Comma s = resumed s
behind role.Accesses s = accessed s
behind role.Prefix s = prefixed s
behind role.Either s = either_after s.last s
behind role.Infix s = joined s
behind (role.Greater place) s = greater_after s.last place s
behind (role.Equal place) s = equal_after s.last s
behind role.Ends s = start

-- behind a token, with the operator before it that it does not go on with
abbrev pub over : Lexeme → Opened → Opened
over t s = behind (role_of t) (before (role_of t) s)

-- more than 127 brackets and prefix operators around a token, itself among them, or more than 1,023 operators and accesses before it
abbrev pub Exceeds : Lexeme → Opened → Type 0
Exceeds t s = (1023 < (before (role_of t) s).inner.chain) ⊎ (127 < (over t s).inner.depth)

-- a token passes a limit of expressions, counted from a place
abbrev pub IsDeep : List Lexeme → ℕ → ℕ → Type 0
IsDeep tokens from at = Passes over start Exceeds tokens from at
