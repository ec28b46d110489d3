-- Phrases of one token: a mark or a keyword, which gives its place, and a name.
use Rattle.std.proofs.Common.{◌≡◌, refl, sym, ap, ◌∙◌, subst, ℕ, ◌+◌, ◌<◌, ◌≤◌, List, [], ◌∷◌, length, drop, Some, slice_get}
use Rattle.shade_base.specs.declared.place.Place.{Place}
use Rattle.shade_ast.specs.Lexemes.{Lexeme, Word, Key, Number, Mark, Stray}
use Rattle.shade_ast.specs.Shapes.{NameShape}
use Rattle.shade_ast.specs.Statements.{Name, name}
use Rattle.shade_ast.specs.Reads.{Near, Reads, Fails, rank, rank_of}
use Rattle.shade_ast.proofs.Stages.{Closes, near_get, single, single_fails}
use Rattle.shade_ast.specs.Chains.{Placed}

pub some_place : Place
some_place = record { offset = 0; line = 1; column = 1 }

-- a place directly behind a mark of one byte
pub next_place : Place → Place
next_place p = record { offset = p.offset + 1; line = p.line; column = p.column + 1 }

abbrev pub lexeme_place : Lexeme → Place
lexeme_place (Word text place) = place
lexeme_place (Key keyword place) = place
lexeme_place (Number value suffix place) = place
lexeme_place (Mark found place) = place
lexeme_place (Stray place) = place

module _ (kind : Place → Lexeme) where
  pub placed_closes : Closes (Placed kind)
  placed_closes = record { tree = some_place; more = kind some_place ∷ []; closed = λ w. record { is = refl } }

  pub placed_stops : (m : ℕ) → ((p : Place) → m < rank_of (kind p)) → (p : Place) (ts w : List Lexeme) → Placed kind p ts w → m < rank ts
  placed_stops m low p ts w c = subst (λ x. m < rank x) (sym c.is) (low p)

  module _ (n : ℕ) (tokens : List Lexeme) (from : ℕ) where
    pub placed_reads : ((p : Place) → lexeme_place (kind p) ≡ p) → (p : Place) → slice_get tokens from ≡ Some (kind p) → Reads (Placed kind) n tokens from p (from + 1)
    placed_reads back p is = single (Placed kind) n tokens from p (kind p) is (λ w. record { is = refl }) same
      where
        same : (q : Place) (ys w : List Lexeme) → Placed kind q (kind p ∷ ys) w → (q ≡ p) × (ys ≡ w)
        same q ys w g =
            let e : kind p ∷ ys ≡ kind q ∷ w = g.is in
            let t : kind p ≡ kind q = cc in
            let l : ys ≡ w = cc in
            (sym (back q) ∙ ap lexeme_place (sym t) ∙ back p, l)

    pub placed_fails : from ≤ length tokens → ((p : Place) → slice_get tokens from ≡ Some (kind p) → ⊥) → Fails (Placed kind) n tokens from from
    placed_fails h isnt = single_fails (Placed kind) n tokens from h placed_closes (λ p ys w stop g near. isnt p (near_get tokens from (kind p) w (subst (λ x. Near x (drop from tokens)) g.is near)))

-- names
abbrev pub some_name : NameShape
some_name = record { place = some_place; text = 97 ∷ [] }

pub name_closes : Closes Name
name_closes = record { tree = some_name; more = Word (97 ∷ []) some_place ∷ []; closed = λ w. name some_name }

pub name_begins : (n : NameShape) (ts w : List Lexeme) → Name n ts w → ts ≡ Word n.text n.place ∷ w
name_begins n ts w (name m) = refl

module _ (n : ℕ) (tokens : List Lexeme) (from : ℕ) where
  pub name_reads : (m : NameShape) → slice_get tokens from ≡ Some (Word m.text m.place) → Reads Name n tokens from m (from + 1)
  name_reads m is = single Name n tokens from m (Word m.text m.place) is (λ w. name m) same
    where
      same : (s : NameShape) (ys w : List Lexeme) → Name s (Word m.text m.place ∷ ys) w → (s ≡ m) × (ys ≡ w)
      same s ys w g =
          let e : Word m.text m.place ∷ ys ≡ Word s.text s.place ∷ w = name_begins s _ w g in
          let texts : m.text ≡ s.text = cc in
          let places : m.place ≡ s.place = cc in
          let l : ys ≡ w = cc in
          (λ i. record { place = sym places i; text = sym texts i }, l)

  pub name_fails : from ≤ length tokens → ((m : NameShape) → slice_get tokens from ≡ Some (Word m.text m.place) → ⊥) → Fails Name n tokens from from
  name_fails h isnt = single_fails Name n tokens from h name_closes (λ m ys w stop g near. isnt m (near_get tokens from (Word m.text m.place) w (subst (λ x. Near x (drop from tokens)) (name_begins m ys w g) near)))
