-- Tokens where they stand.
use Rattle.std.proofs.Common.{◌≡◌, ℕ, ◌≤◌, List, length, arith, ◌↔◌, refl, sym, ap, ◌∙◌, true, false, IsTrue, Option, None, Some, MatchOption}
use Rattle.std.specs.Prelude.{is_some}
use Rattle.std.proofs.lemmas.List.{length-map}
use Rattle.shade_base.specs.declared.place.Place.{Place}
use Rattle.shade_ast.specs.declared.lexeme.Keyword.{Keyword}
use Rattle.shade_ast.specs.declared.lexeme.Sign.{Sign}
use Rattle.shade_ast.specs.declared.expr.Infix.{Infix as InfixOperator}
use Rattle.shade_ast.specs.Lexemes.{Lexeme, Key, Mark}
use Rattle.shade_cursor.specs.declared.piece.Piece.{Piece}
use Rattle.shade_cursor.specs.Shown.{lexeme, lexemes}
use Rattle.shade_cursor.specs.Operators.{found, key_of, mark_of}

pub some_one : {A : Type 0} (x y : A) → Some x ≡ Some y → x ≡ y
some_one x y e = cc

abbrev pub pair : InfixOperator → Place → InfixOperator × Place
pair i p = (i, p)

pub op_one : (i j : InfixOperator) (p q : Place) → Some (pair i p) ≡ Some (pair j q) → pair i p ≡ pair j q
op_one i j p q e = some_one (pair i p) (pair j q) e

-- a token of which something is told
pub record Told {A : Type 0} (f : Lexeme → Option A) (m : Option Lexeme) (a : A) : Type 0 where
  pub token : Lexeme
  pub stands : m ≡ Some token
  pub tells : f token ≡ Some a

pub told : {A : Type 0} (f : Lexeme → Option A) (m : Option Lexeme) (a : A) → Some a ≡ found f m → Told f m a
told f None a e = absurd (let bad : Some a ≡ None = e in cc)
told f (Some t) a e = record { token = t; stands = refl; tells = sym e }

pub untold : {A : Type 0} (f : Lexeme → Option A) (m : Option Lexeme) (t : Lexeme) → None ≡ found f m → m ≡ Some t → f t ≡ None
untold f m t none is = sym (ap (λ x. found f x) is) ∙ sym none

sign_told : (t : Lexeme) (s : Sign) (p : Place) → mark_of t ≡ Some (s, p) → t ≡ Mark s p
sign_told (Mark u q) s p e = let x : Sign × Place = (u, q) in let y : Sign × Place = (s, p) in let both : x ≡ y = some_one x y e in ap (λ z. Mark z.0 z.1) both
sign_told _ s p e = absurd (let bad : None ≡ Some (s, p) = e in cc)

pub sign_stands : (m : Option Lexeme) (u s : Sign) (p : Place) → Some (u, p) ≡ found mark_of m → u ≡ s → m ≡ Some (Mark s p)
sign_stands m u s p e same =
    let t : Told mark_of m (u, p) = told mark_of m (u, p) e in
    t.stands ∙ ap Some (sign_told t.token u p t.tells ∙ ap (λ x. Mark x p) same)

pub sign_other : (m : Option Lexeme) (u s : Sign) (q p : Place) → Some (u, q) ≡ found mark_of m → (u ≡ s → ⊥) → m ≡ Some (Mark s p) → ⊥
sign_other m u s q p e differs is = differs (let both : Some (u, q) ≡ Some (s, p) = e ∙ ap (λ x. found mark_of x) is in let x : Sign × Place = (u, q) in let y : Sign × Place = (s, p) in let same : x ≡ y = some_one x y both in ap (λ z. z.0) same)

key_told : (t : Lexeme) (s : Keyword) (p : Place) → key_of t ≡ Some (s, p) → t ≡ Key s p
key_told (Key u q) s p e = let x : Keyword × Place = (u, q) in let y : Keyword × Place = (s, p) in let both : x ≡ y = some_one x y e in ap (λ z. Key z.0 z.1) both
key_told _ s p e = absurd (let bad : None ≡ Some (s, p) = e in cc)

pub key_stands : (m : Option Lexeme) (u s : Keyword) (p : Place) → Some (u, p) ≡ found key_of m → u ≡ s → m ≡ Some (Key s p)
key_stands m u s p e same =
    let t : Told key_of m (u, p) = told key_of m (u, p) e in
    t.stands ∙ ap Some (key_told t.token u p t.tells ∙ ap (λ x. Key x p) same)

pub key_other : (m : Option Lexeme) (u s : Keyword) (q p : Place) → Some (u, q) ≡ found key_of m → (u ≡ s → ⊥) → m ≡ Some (Key s p) → ⊥
key_other m u s q p e differs is = differs (let both : Some (u, q) ≡ Some (s, p) = e ∙ ap (λ x. found key_of x) is in let x : Keyword × Place = (u, q) in let y : Keyword × Place = (s, p) in let same : x ≡ y = some_one x y both in ap (λ z. z.0) same)

pub isnt : {P : Type 0} → IsTrue false ↔ P → P → ⊥
isnt e p = let bad : false ≡ true = e.1 p in cc

-- what is told by an option, once it is known whether it has a value
pub told_none : {A : Type 0} (o : Option A) (P : Type 0) (Q : A → Type 0) → is_some o ≡ false → MatchOption o P Q → P
told_none None P Q e m = m
told_none (Some x) P Q e m = absurd (let bad : true ≡ false = e in cc)

pub told_some : {A : Type 0} (o : Option A) (P : Type 0) (Q : A → Type 0) → is_some o ≡ true → MatchOption o P Q → (x : A) × Q x
told_some None P Q e m = absurd (let bad : false ≡ true = e in cc)
told_some (Some x) P Q e m = (x, m)

-- a place among the pieces is one among the tokens
pub shown_within : (pieces : List Piece) (at : ℕ) → at ≤ length pieces → at ≤ length (lexemes pieces)
shown_within pieces at within = omega (arith, length-map pieces lexeme, within)
