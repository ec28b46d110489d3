-- How many braces are open around tokens, and how many `else if` stand before them in the `if` statements that hold them: two
-- limits of our own.
use Rattle.std.specs.Prelude.{ℕ, ◌+◌, ◌<◌, ◌⊎◌, List, [], ◌∷◌}
use Rattle.shade_ast.specs.declared.lexeme.Keyword.TheVariants as word
use Rattle.shade_ast.specs.declared.lexeme.Sign.TheVariants as sign
use Rattle.shade_ast.specs.Lexemes.{Lexeme, Key, Mark}
use Rattle.shade_cursor.specs.Passes.{Passes}
use Rattle.shade_parse.specs.declared.nesting.Inner.{Inner}
use Rattle.shade_parse.specs.declared.nesting.Past.{Past}
use Rattle.shade_parse.specs.declared.nesting.Past.TheVariants as past
use Rattle.shade_parse.specs.declared.nesting.Turn.{Turn}
use Rattle.shade_parse.specs.declared.nesting.Turn.TheVariants as turn

-- the innermost braces, those around them from the inside out, and what the last token was
pub record Nested : Type 0 where
  pub inner : Inner
  pub outer : List Inner
  pub past : Past

-- what a token is to braces and arms
abbrev pub turn_of : Lexeme → Turn
turn_of (Mark sign.OpenBrace place) = turn.Opens
turn_of (Mark sign.CloseBrace place) = turn.Closes
turn_of (Key word.Else place) = turn.Else
turn_of (Key word.If place) = turn.If
turn_of _ = turn.Other

-- a text before its first token
abbrev pub outside : Inner
outside = record { depth = 0; start = 0; arms = 0 }

abbrev pub start : Nested
start = record { inner = outside; outer = []; past = past.Token }

-- the same braces, where the last token was this
abbrev pub after : Past → Nested → Nested
after was s = record { inner = s.inner; outer = s.outer; past = was }

-- the `if` statement between these braces has ended
abbrev pub ended : Nested → Nested
ended s = record { inner = record { depth = s.inner.depth; start = s.inner.start; arms = s.inner.start }; outer = s.outer; past = s.past }

-- behind an `else if`
abbrev pub armed : Nested → Nested
armed s = record { inner = record { depth = s.inner.depth; start = s.inner.start; arms = s.inner.arms + 1 }; outer = s.outer; past = past.Token }

abbrev pub opened : Nested → Nested
opened s = record { inner = record { depth = s.inner.depth + 1; start = s.inner.arms; arms = s.inner.arms }; outer = s.inner ∷ s.outer; past = past.Token }

abbrev pub closed_to : List Inner → Nested
closed_to [] = record { inner = outside; outer = []; past = past.Closed }
closed_to (around ∷ others) = record { inner = around; outer = others; past = past.Closed }

abbrev pub if_after : Past → Nested → Nested
if_after past.Else s = armed s
if_after _ s = after past.Token s

-- an `if` statement goes on behind a `}` with an `else` alone
abbrev pub before_other : Past → Nested → Nested
before_other past.Closed s = ended s
before_other _ s = s

abbrev pub before : Turn → Nested → Nested
before turn.Else s = s
before _ s = before_other s.past s

-- behind a token
abbrev pub behind : Turn → Nested → Nested
behind turn.Opens s = opened s
behind turn.Closes s = closed_to s.outer
behind turn.Else s = after past.Else s
behind turn.If s = if_after s.past s
behind turn.Other s = after past.Token s

abbrev pub over : Lexeme → Nested → Nested
over t s = behind (turn_of t) (before (turn_of t) s)

-- more than 1,023 `else if` before a token, or more than 127 braces around it, itself among them
abbrev pub Exceeds : Lexeme → Nested → Type 0
Exceeds t s = (1023 < (before (turn_of t) s).inner.arms) ⊎ (127 < (over t s).inner.depth)

-- a token passes a limit of braces or arms
abbrev pub IsNested : List Lexeme → ℕ → Type 0
IsNested tokens at = Passes over start Exceeds tokens 0 at

-- the numbers that a walk keeps, which are small
pub record SmallInner (f : Inner) : Type 0 where
  pub depth : f.depth < 128
  pub start : f.start < 1025
  pub arms : f.arms < 1025

abbrev pub AllSmall : List Inner → Type 0
AllSmall [] = Unit {0}
AllSmall (f ∷ fs) = SmallInner f × AllSmall fs

pub record Small (s : Nested) : Type 0 where
  pub inner : SmallInner s.inner
  pub outer : AllSmall s.outer
