-- The tokens that statements begin with, and what may stand before them.
use Rattle.std.proofs.Common.{◌≡◌, refl, sym, subst, ℕ, ◌<◌, true, false, List, [], ◌∷◌, arith}
use Rattle.shade_base.specs.declared.place.Place.{Place}
use Rattle.shade_ast.specs.declared.lexeme.Keyword.TheVariants as word
use Rattle.shade_ast.specs.declared.lexeme.Sign.TheVariants as sign
use Rattle.shade_ast.specs.Lexemes.{Lexeme, Word, Key, Mark}
use Rattle.shade_ast.specs.Shapes.{AttrShape, UpdateShape, SimpleShape, BlockShape, StmtShape}
use Rattle.shade_ast.specs.Repeats.{Many, no_more, more}
use Rattle.shade_ast.specs.Statements.{Attribute, attribute, var, const, UpdateOf, assigned, compounded, dropped, incremented, decremented, called_alone, SimpleStatement, simple_var, simple_const, simple_let, simple_update, Block, block, Statement, is_empty, is_block, is_simple, is_return, is_break, is_continue, is_discard, is_assert, is_if, is_switch, is_loop, is_for, is_while}
use Rattle.shade_ast.specs.Reads.{rank_of}
use Rattle.shade_ast.proofs.Firsts.{First, IsName, BeginsLeft, call_first, left_side_first}
use Rattle.shade_parse_stmt.specs.Follows.{Above, FreeToken, Free}
use Rattle.shade_parse_stmt.specs.Trees.{is_closing}

abbrev pub IsAt : Lexeme → Type 0
IsAt (Mark sign.At place) = Unit {0}
IsAt _ = ⊥

-- what an update begins with
abbrev pub BeginsUpdate : Lexeme → Type 0
BeginsUpdate (Word text place) = Unit {0}
BeginsUpdate (Mark sign.Open place) = Unit {0}
BeginsUpdate (Mark sign.Star place) = Unit {0}
BeginsUpdate (Mark sign.Ampersand place) = Unit {0}
BeginsUpdate (Mark sign.Underscore place) = Unit {0}
BeginsUpdate _ = ⊥

-- what a simple statement begins with
abbrev pub BeginsSimple : Lexeme → Type 0
BeginsSimple (Word text place) = Unit {0}
BeginsSimple (Mark sign.Open place) = Unit {0}
BeginsSimple (Mark sign.Star place) = Unit {0}
BeginsSimple (Mark sign.Ampersand place) = Unit {0}
BeginsSimple (Mark sign.Underscore place) = Unit {0}
BeginsSimple (Key word.Var place) = Unit {0}
BeginsSimple (Key word.Const place) = Unit {0}
BeginsSimple (Key word.Let place) = Unit {0}
BeginsSimple _ = ⊥

-- what a block begins with
abbrev pub BeginsBlock : Lexeme → Type 0
BeginsBlock (Mark sign.At place) = Unit {0}
BeginsBlock (Mark sign.OpenBrace place) = Unit {0}
BeginsBlock _ = ⊥

-- what a statement begins with
abbrev pub BeginsStatement : Lexeme → Type 0
BeginsStatement (Word text place) = Unit {0}
BeginsStatement (Mark sign.Open place) = Unit {0}
BeginsStatement (Mark sign.Star place) = Unit {0}
BeginsStatement (Mark sign.Ampersand place) = Unit {0}
BeginsStatement (Mark sign.Underscore place) = Unit {0}
BeginsStatement (Mark sign.Semicolon place) = Unit {0}
BeginsStatement (Mark sign.At place) = Unit {0}
BeginsStatement (Mark sign.OpenBrace place) = Unit {0}
BeginsStatement (Key word.Var place) = Unit {0}
BeginsStatement (Key word.Const place) = Unit {0}
BeginsStatement (Key word.Let place) = Unit {0}
BeginsStatement (Key word.Return place) = Unit {0}
BeginsStatement (Key word.Break place) = Unit {0}
BeginsStatement (Key word.Continue place) = Unit {0}
BeginsStatement (Key word.Discard place) = Unit {0}
BeginsStatement (Key word.ConstAssert place) = Unit {0}
BeginsStatement (Key word.If place) = Unit {0}
BeginsStatement (Key word.Switch place) = Unit {0}
BeginsStatement (Key word.Loop place) = Unit {0}
BeginsStatement (Key word.For place) = Unit {0}
BeginsStatement (Key word.While place) = Unit {0}
BeginsStatement _ = ⊥

-- a beginning of one kind is one of another
pub first_as : (E F : Lexeme → Type 0) → ((t : Lexeme) → E t → F t) → (ts : List Lexeme) → First E ts → First F ts
first_as E F f ts h = record { first = h.first; others = h.others; split = h.split; fits = f h.first h.fits }

-- what begins with such a token may follow
pub first_stops : (E : Lexeme → Type 0) (H : List Lexeme → Type 0) → ((t : Lexeme) (us : List Lexeme) → E t → H (t ∷ us)) → (ts : List Lexeme) → First E ts → H ts
first_stops E H f ts h = subst H (sym h.split) (f h.first h.others h.fits)

pub attribute_first : (a : AttrShape) (ts w : List Lexeme) → Attribute a ts w → First IsAt ts
attribute_first a ts w (attribute b {ts = us} g h) = record { first = Mark sign.At b.place; others = us; split = refl; fits = tt }

-- attributes, and then a token
pub attributed_first : (E : Lexeme → Type 0) → ((t : Lexeme) → IsAt t → E t) → (attrs : List AttrShape) (ts us vs : List Lexeme) (t : Lexeme) → Many Attribute attrs ts us → us ≡ t ∷ vs → E t → First E ts
attributed_first E at attrs ts us vs t no_more e h = record { first = t; others = vs; split = e; fits = h }
attributed_first E at attrs ts us vs t (more {r = a} {us = zs} g m) e h = first_as IsAt E at ts (attribute_first a ts zs g)

name_left : (t : Lexeme) → IsName t → BeginsUpdate t
name_left (Word text place) h = tt
name_left _ h = absurd h

left_update : (t : Lexeme) → BeginsLeft t → BeginsUpdate t
left_update (Word text place) h = tt
left_update (Mark sign.Open place) h = tt
left_update (Mark sign.Star place) h = tt
left_update (Mark sign.Ampersand place) h = tt
left_update _ h = absurd h

pub update_first : (u : UpdateShape) (ts w : List Lexeme) → UpdateOf u ts w → First BeginsUpdate ts
update_first u ts w (assigned {e = e} p {us = us} g h) = first_as BeginsLeft BeginsUpdate left_update ts (left_side_first e ts (Mark sign.Equal p ∷ us) g)
update_first u ts w (compounded {e = e} p {us = us} g o h) = first_as BeginsLeft BeginsUpdate left_update ts (left_side_first e ts us g)
update_first u ts w (dropped p q {ts = us} g) = record { first = Mark sign.Underscore p; others = Mark sign.Equal q ∷ us; split = refl; fits = tt }
update_first u ts w (incremented {e = e} p g) = first_as BeginsLeft BeginsUpdate left_update ts (left_side_first e ts (Mark sign.PlusPlus p ∷ w) g)
update_first u ts w (decremented {e = e} p g) = first_as BeginsLeft BeginsUpdate left_update ts (left_side_first e ts (Mark sign.MinusMinus p ∷ w) g)
update_first u ts w (called_alone {e = e} g) = first_as IsName BeginsUpdate name_left ts (call_first e ts w g)

update_simple : (t : Lexeme) → BeginsUpdate t → BeginsSimple t
update_simple (Word text place) h = tt
update_simple (Mark sign.Open place) h = tt
update_simple (Mark sign.Star place) h = tt
update_simple (Mark sign.Ampersand place) h = tt
update_simple (Mark sign.Underscore place) h = tt
update_simple _ h = absurd h

pub simple_first : (s : SimpleShape) (ts w : List Lexeme) → SimpleStatement s ts w → First BeginsSimple ts
simple_first s ts w (simple_var (var v {ts = us} a b c)) = record { first = Key word.Var v.place; others = us; split = refl; fits = tt }
simple_first s ts w (simple_const (const b {ts = us} a c)) = record { first = Key word.Const b.place; others = Word b.name.text b.name.place ∷ us; split = refl; fits = tt }
simple_first s ts w (simple_let b {ts = us} a c) = record { first = Key word.Let b.place; others = Word b.name.text b.name.place ∷ us; split = refl; fits = tt }
simple_first s ts w (simple_update {u = u} g) = first_as BeginsUpdate BeginsSimple update_simple ts (update_first u ts w g)

at_block : (t : Lexeme) → IsAt t → BeginsBlock t
at_block (Mark sign.At place) h = tt
at_block _ h = absurd h

pub block_first : (b : BlockShape) (ts w : List Lexeme) → Block b ts w → First BeginsBlock ts
block_first b ts w (block attrs p q {us = us} m s) = attributed_first BeginsBlock at_block attrs ts (Mark sign.OpenBrace p ∷ us) us (Mark sign.OpenBrace p) m refl tt

at_statement : (t : Lexeme) → IsAt t → BeginsStatement t
at_statement (Mark sign.At place) h = tt
at_statement _ h = absurd h

block_statement : (t : Lexeme) → BeginsBlock t → BeginsStatement t
block_statement (Mark sign.At place) h = tt
block_statement (Mark sign.OpenBrace place) h = tt
block_statement _ h = absurd h

simple_statement : (t : Lexeme) → BeginsSimple t → BeginsStatement t
simple_statement (Word text place) h = tt
simple_statement (Mark sign.Open place) h = tt
simple_statement (Mark sign.Star place) h = tt
simple_statement (Mark sign.Ampersand place) h = tt
simple_statement (Mark sign.Underscore place) h = tt
simple_statement (Key word.Var place) h = tt
simple_statement (Key word.Const place) h = tt
simple_statement (Key word.Let place) h = tt
simple_statement _ h = absurd h

-- one token, and the rest
pub starts : (E : Lexeme → Type 0) (t : Lexeme) (us : List Lexeme) → E t → First E (t ∷ us)
starts E t us h = record { first = t; others = us; split = refl; fits = h }

pub statement_first : (s : StmtShape) (ts w : List Lexeme) → Statement s ts w → First BeginsStatement ts
statement_first s ts w (is_empty p) = starts BeginsStatement (Mark sign.Semicolon p) w tt
statement_first s ts w (is_block {b = b} g) = first_as BeginsBlock BeginsStatement block_statement ts (block_first b ts w g)
statement_first s ts w (is_simple {s = t} p g) = first_as BeginsSimple BeginsStatement simple_statement ts (simple_first t ts (Mark sign.Semicolon p ∷ w) g)
statement_first s ts w (is_return p q {ts = us} g) = starts BeginsStatement (Key word.Return p) us tt
statement_first s ts w (is_break p q) = starts BeginsStatement (Key word.Break p) (Mark sign.Semicolon q ∷ w) tt
statement_first s ts w (is_continue p q) = starts BeginsStatement (Key word.Continue p) (Mark sign.Semicolon q ∷ w) tt
statement_first s ts w (is_discard p q) = starts BeginsStatement (Key word.Discard p) (Mark sign.Semicolon q ∷ w) tt
statement_first s ts w (is_assert p q {ts = us} g) = starts BeginsStatement (Key word.ConstAssert p) us tt
statement_first s ts w (is_if attrs p {us = us} m g b a) = attributed_first BeginsStatement at_statement attrs ts (Key word.If p ∷ us) us (Key word.If p) m refl tt
statement_first s ts w (is_switch attrs p q r {us = us} m g i c) = attributed_first BeginsStatement at_statement attrs ts (Key word.Switch p ∷ us) us (Key word.Switch p) m refl tt
statement_first s ts w (is_loop attrs p q r {us = us} m i b c) = attributed_first BeginsStatement at_statement attrs ts (Key word.Loop p ∷ us) us (Key word.Loop p) m refl tt
statement_first s ts w (is_for attrs p q r x o {us = us} m i c u b) = attributed_first BeginsStatement at_statement attrs ts (Key word.For p ∷ (Mark sign.Open q ∷ us)) (Mark sign.Open q ∷ us) (Key word.For p) m refl tt
statement_first s ts w (is_while attrs p {us = us} m g b) = attributed_first BeginsStatement at_statement attrs ts (Key word.While p ∷ us) us (Key word.While p) m refl tt

-- what may follow
pub statement_free : (t : Lexeme) → BeginsStatement t → FreeToken t
statement_free (Word text place) h = omega arith
statement_free (Mark sign.Open place) h = omega arith
statement_free (Mark sign.Star place) h = omega arith
statement_free (Mark sign.Ampersand place) h = omega arith
statement_free (Mark sign.Underscore place) h = omega arith
statement_free (Mark sign.Semicolon place) h = omega arith
statement_free (Mark sign.At place) h = omega arith
statement_free (Mark sign.OpenBrace place) h = omega arith
statement_free (Key word.Var place) h = omega arith
statement_free (Key word.Const place) h = omega arith
statement_free (Key word.Let place) h = omega arith
statement_free (Key word.Return place) h = omega arith
statement_free (Key word.Break place) h = omega arith
statement_free (Key word.Continue place) h = omega arith
statement_free (Key word.Discard place) h = omega arith
statement_free (Key word.ConstAssert place) h = omega arith
statement_free (Key word.If place) h = omega arith
statement_free (Key word.Switch place) h = omega arith
statement_free (Key word.Loop place) h = omega arith
statement_free (Key word.For place) h = omega arith
statement_free (Key word.While place) h = omega arith
statement_free _ h = absurd h

pub statement_stops : (s : StmtShape) (ts w : List Lexeme) → Statement s ts w → Free ts
statement_stops s ts w g = first_stops BeginsStatement Free (λ t us h. statement_free t h) ts (statement_first s ts w g)

block_above : (n : ℕ) → n < 8 → (t : Lexeme) → BeginsBlock t → n < rank_of t
block_above n h (Mark sign.At place) b = omega arith
block_above n h (Mark sign.OpenBrace place) b = omega arith
block_above n h _ b = absurd b

pub block_stops : (n : ℕ) → n < 8 → (b : BlockShape) (ts w : List Lexeme) → Block b ts w → Above n ts
block_stops n h b ts w g = first_stops BeginsBlock (Above n) (λ t us k. block_above n h t k) ts (block_first b ts w g)

-- attributes and a `{`
pub brace_stops : (n : ℕ) → n < 8 → (attrs : List AttrShape) (ts us vs : List Lexeme) (p : Place) → Many Attribute attrs ts us → us ≡ Mark sign.OpenBrace p ∷ vs → Above n ts
brace_stops n h attrs ts us vs p m e = first_stops BeginsBlock (Above n) (λ t zs k. block_above n h t k) ts (attributed_first BeginsBlock at_block attrs ts us vs (Mark sign.OpenBrace p) m e tt)

-- no statement begins with what ends a list of them
pub closing_apart : (t : Lexeme) → is_closing t ≡ true → BeginsStatement t → ⊥
closing_apart (Mark sign.CloseBrace place) e h = h
closing_apart (Key word.Continuing place) e h = h
closing_apart _ e h = let bad : false ≡ true = e in cc

pub free_above : (w : List Lexeme) → Free w → Above 0 w
free_above [] h = omega arith
free_above (t ∷ ts) h = by t h
  where
    by : (t : Lexeme) → FreeToken t → 0 < rank_of t
    by (Key word.Else place) h = absurd h
    by _ h = h
