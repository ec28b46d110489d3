-- Members, parameters and results, part by part.
use Rattle.std.proofs.Common.{◌≡◌, refl, sym, ◌∙◌, subst, ℕ, ◌<◌, ◌≤◌, ◌⊎◌, inl, inr, List, ◌∷◌, length, arith}
use Rattle.shade_base.specs.declared.place.Place.{Place}
use Rattle.shade_ast.specs.declared.lexeme.Sign.{Sign}
use Rattle.shade_ast.specs.declared.lexeme.Sign.TheVariants as sign
use Rattle.shade_ast.specs.Lexemes.{Lexeme, Word, Mark}
use Rattle.shade_ast.specs.Shapes.{NameShape, ExprShape, AttrShape, first_place, BlockShape, MemberShape, ResultShape}
use Rattle.shade_ast.specs.Repeats.{Many, no_more, more}
use Rattle.shade_ast.specs.Expressions.{TypeName}
use Rattle.shade_ast.specs.Statements.{Name, name, Attribute, OfType, Block, block}
use Rattle.shade_ast.specs.Declarations.{MemberOf, a_member, ResultOf, result}
use Rattle.shade_ast.specs.Reads.{Reads, Fails, rank, rank_of}
use Rattle.shade_ast.proofs.Stages.{Stage, Closes, begin, change, closes_end, closes_after}
use Rattle.shade_ast.specs.Chains.{After, Ends, Placed}
use Rattle.shade_ast.proofs.Placed.{name_closes, name_begins}
use Rattle.shade_ast.proofs.Firsts.{First, IsName, type_first}
use Rattle.shade_parse_simple.proofs.Steps.{Stops, Avoids, BeginsWith, end_stops, name_stops, next, next_fails, ended}
use Rattle.shade_parse_simple.proofs.Openings.{Opens, opened_first, opened_closes, begins_stops, type_closes, of_type_opens}
use Rattle.shade_parse_simple.proofs.AttributeLaws.{attribute_first}
use Rattle.shade_parse_simple.proofs.BindingLaws.{of_type_first}
use Rattle.shade_parse.proofs.ListTurns.{Listable}

pub type_stops : {S : Type 0} {C : ExprShape → S → List Lexeme → List Lexeme → Type 0} (n m : ℕ) → m < 9 → Stops n m (After TypeName C)
type_stops n m low r zs w stop a = let f : First IsName zs = type_first a.part zs a.others a.phrase in subst (λ l. m < rank l) (sym f.split) (by f.first f.fits)
  where
    by : (t : Lexeme) → IsName t → m < rank_of t
    by (Word text p) h = low
    by _ h = absurd h

-- the first token of attributes and a token behind them
pub attrs_begin : (ls : List AttrShape) (ts us : List Lexeme) → Many Attribute ls ts us → ((p : Place) × (vs : List Lexeme) × (ts ≡ Mark sign.At p ∷ vs)) ⊎ (ts ≡ us)
attrs_begin ls ts us no_more = inr refl
attrs_begin ls ts us (more {r = a} {us = vs} g l) = inl (attribute_first a ts vs g)

abbrev pub member_of : List AttrShape → NameShape → ExprShape → MemberShape
member_of ls n e = record { place = first_place ls n.place; attrs = ls; name = n; ty = e }

abbrev MemberType : List AttrShape → NameShape → MemberShape → List Lexeme → List Lexeme → Type 0
MemberType ls n = After OfType (λ e. Ends (member_of ls n e))

abbrev MemberName : List AttrShape → MemberShape → List Lexeme → List Lexeme → Type 0
MemberName ls = After Name (MemberType ls)

member_there : (r : MemberShape) (ts w : List Lexeme) → MemberOf r ts w → After (Many Attribute) MemberName r ts w
member_there r ts w (a_member ls n {e = e} {us = us} g t) = record { part = ls; others = Word n.text n.place ∷ us; phrase = g; rest = record { part = n; others = us; phrase = name n; rest = record { part = e; others = w; phrase = t; rest = record { same = refl; left = refl } } } }

member_back : (r : MemberShape) (ts w : List Lexeme) → After (Many Attribute) MemberName r ts w → MemberOf r ts w
member_back r ts w a =
    let n = a.rest in
    let e = n.rest in
    subst (λ x. MemberOf x ts w) (sym e.rest.same)
    (subst (λ l. MemberOf (member_of a.part n.part e.part) ts l) e.rest.left
    (a_member a.part n.part (subst (λ l. Many Attribute a.part ts l) (name_begins n.part a.others n.others n.phrase) a.phrase) e.phrase))

of_type_closes : Closes OfType
of_type_closes = opened_closes of_type_opens type_closes

member_type_closes : (ls : List AttrShape) (n : NameShape) → Closes (MemberType ls n)
member_type_closes ls n = closes_after OfType (λ e. Ends (member_of ls n e)) of_type_closes (λ e. closes_end (member_of ls n e))

member_name_closes : (ls : List AttrShape) → Closes (MemberName ls)
member_name_closes ls = closes_after Name (MemberType ls) name_closes (member_type_closes ls)

member_type_stops : (ls : List AttrShape) (n : NameShape) → Stops 0 0 (MemberType ls n)
member_type_stops ls n = begins_stops (Mark sign.Colon) OfType of_type_first 0 0 (λ p. omega arith)

module _ {tokens : List Lexeme} {from : ℕ} (h : from ≤ length tokens) where
  member_begin : Stage MemberOf 0 tokens from from (After (Many Attribute) MemberName)
  member_begin = change MemberOf 0 tokens from from MemberOf (After (Many Attribute) MemberName) (λ r ys w stop near g. member_there r ys w g) member_back (begin MemberOf 0 tokens from h)

  pub member_attrs_fail : {to : ℕ} → Fails (Many Attribute) 8 tokens from to → Fails MemberOf 0 tokens from to
  member_attrs_fail f = next_fails (λ ls. name_stops 0 8 (omega arith)) member_name_closes member_begin f

  module _ {ls : List AttrShape} {at : ℕ} (x : Reads (Many Attribute) 8 tokens from ls at) where
    member_attrs : Stage MemberOf 0 tokens from at (MemberName ls)
    member_attrs = next (λ ls. name_stops 0 8 (omega arith)) member_begin x

    pub member_name_fails : {to : ℕ} → Fails Name 0 tokens at to → Fails MemberOf 0 tokens from to
    member_name_fails f = next_fails (member_type_stops ls) (member_type_closes ls) member_attrs f

    module _ {n : NameShape} {second : ℕ} (y : Reads Name 0 tokens at n second) where
      member_named : Stage MemberOf 0 tokens from second (MemberType ls n)
      member_named = next (member_type_stops ls) member_attrs y

      pub member_type_fails : {to : ℕ} → Fails OfType 0 tokens second to → Fails MemberOf 0 tokens from to
      member_type_fails f = next_fails (λ e. end_stops 0 0 (omega arith)) (λ e. closes_end (member_of ls n e)) member_named f

      pub member_reads : {e : ExprShape} {to : ℕ} → Reads OfType 0 tokens second e to → Reads MemberOf 0 tokens from (member_of ls n e) to
      member_reads z = ended (next (λ e. end_stops 0 0 (omega arith)) member_named z)

-- members and names stand in lists
member_starts : (r : MemberShape) (t : Lexeme) (ts w : List Lexeme) → ((p : Place) → t ≡ Mark sign.At p → ⊥) → ((text : List ℕ) (p : Place) → t ≡ Word text p → ⊥) → MemberOf r (t ∷ ts) w → ⊥
member_starts r t ts w no_at no_word g =
    let a = member_there r (t ∷ ts) w g in
    elim (attrs_begin a.part (t ∷ ts) a.others a.phrase) [
      | inl f ↦ no_at f.0 (let e : t ∷ ts ≡ Mark sign.At f.0 ∷ f.1 = f.2 in cc)
      | inr same ↦ no_word a.rest.part.text a.rest.part.place (let e : t ∷ ts ≡ Word a.rest.part.text a.rest.part.place ∷ a.rest.others = same ∙ name_begins a.rest.part a.others a.rest.others a.rest.phrase in cc)
    ]

pub members_brace : Listable MemberOf sign.CloseBrace 0
members_brace = record { comma_low = omega arith; closer_low = omega arith; apart = λ e. cc; no_item = λ r p ts w g. member_starts r (Mark sign.CloseBrace p) ts w (λ q e. cc) (λ text q e. cc) g }

pub members_paren : Listable MemberOf sign.Close 0
members_paren = record { comma_low = omega arith; closer_low = omega arith; apart = λ e. cc; no_item = λ r p ts w g. member_starts r (Mark sign.Close p) ts w (λ q e. cc) (λ text q e. cc) g }

pub members_listed : (s : Sign) → (s ≡ sign.CloseBrace) ⊎ (s ≡ sign.Close) → Listable MemberOf s 0
members_listed s c =
    elim c [
      | inl e ↦ subst (λ x. Listable MemberOf x 0) (sym e) members_brace
      | inr e ↦ subst (λ x. Listable MemberOf x 0) (sym e) members_paren
    ]

pub names_listed : Listable Name sign.Semicolon 0
names_listed = record { comma_low = omega arith; closer_low = omega arith; apart = λ e. cc; no_item = λ r p ts w g. let e : Mark sign.Semicolon p ∷ ts ≡ Word r.text r.place ∷ w = name_begins r (Mark sign.Semicolon p ∷ ts) w g in cc }

-- the type of a result
abbrev pub result_of : List AttrShape → ExprShape → ResultShape
result_of ls e = record { attrs = ls; ty = e }

abbrev ResultType : List AttrShape → ResultShape → List Lexeme → List Lexeme → Type 0
ResultType ls = After TypeName (λ e. Ends (result_of ls e))

abbrev pub ResultRest : ResultShape → List Lexeme → List Lexeme → Type 0
ResultRest = After (Many Attribute) ResultType

pub result_opens : Opens (Mark sign.Arrow) ResultOf ResultRest (λ r. r)
result_opens = record { there = there; back = back }
  where
    there : (r : ResultShape) (ts w : List Lexeme) → ResultOf r ts w → After (Placed (Mark sign.Arrow)) (λ p. After ResultRest (λ b. Ends b)) r ts w
    there r ts w (result s p {ts = us} {us = vs} g t) = record {
      part = p;
      others = us;
      phrase = record { is = refl };
      rest = record {
        part = r;
        others = w;
        phrase = record
            { part = r.attrs; others = vs; phrase = g; rest = record { part = r.ty; others = w; phrase = t; rest = record { same = refl; left = refl } } };
        rest = record
            { same = refl; left = refl };
      };
    }

    back : (p : Place) (b : ResultShape) (us w : List Lexeme) → ResultRest b us w → ResultOf b (Mark sign.Arrow p ∷ us) w
    back p b us w a = let e = a.rest in subst (λ x. ResultOf x (Mark sign.Arrow p ∷ us) w) (sym e.rest.same) (subst (λ l. ResultOf (result_of a.part e.part) (Mark sign.Arrow p ∷ us) l) e.rest.left (result (result_of a.part e.part) p a.phrase e.phrase))

pub result_first : BeginsWith (Mark sign.Arrow) ResultOf
result_first = opened_first result_opens

result_type_closes : (ls : List AttrShape) → Closes (ResultType ls)
result_type_closes ls = closes_after TypeName (λ e. Ends (result_of ls e)) type_closes (λ e. closes_end (result_of ls e))

module _ {tokens : List Lexeme} {from : ℕ} (h : from ≤ length tokens) where
  pub result_attrs_fail : {to : ℕ} → Fails (Many Attribute) 8 tokens from to → Fails ResultRest 0 tokens from to
  result_attrs_fail f = next_fails (λ ls. type_stops 0 8 (omega arith)) result_type_closes (begin ResultRest 0 tokens from h) f

  module _ {ls : List AttrShape} {at : ℕ} (x : Reads (Many Attribute) 8 tokens from ls at) where
    result_attrs : Stage ResultRest 0 tokens from at (ResultType ls)
    result_attrs = next (λ ls. type_stops 0 8 (omega arith)) (begin ResultRest 0 tokens from h) x

    pub result_type_fails : {to : ℕ} → Fails TypeName 0 tokens at to → Fails ResultRest 0 tokens from to
    result_type_fails f = next_fails (λ e. end_stops 0 0 (omega arith)) (λ e. closes_end (result_of ls e)) result_attrs f

    pub result_reads : {e : ExprShape} {to : ℕ} → Reads TypeName 0 tokens at e to → Reads ResultRest 0 tokens from (result_of ls e) to
    result_reads y = ended (next (λ e. end_stops 0 0 (omega arith)) result_attrs y)

-- what blocks begin with
block_begin : (b : BlockShape) (ts w : List Lexeme) → Block b ts w → ((p : Place) × (us : List Lexeme) × (ts ≡ Mark sign.At p ∷ us)) ⊎ ((p : Place) × (us : List Lexeme) × (ts ≡ Mark sign.OpenBrace p ∷ us))
block_begin b ts w (block ls p q {us = us} g s) =
    elim (attrs_begin ls ts (Mark sign.OpenBrace p ∷ us) g) [
      | inl f ↦ inl f
      | inr e ↦ inr (p, us, e)
    ]

pub block_stops : {S : Type 0} {C : BlockShape → S → List Lexeme → List Lexeme → Type 0} (n m : ℕ) → m < 8 → Stops n m (After Block C)
block_stops n m low r zs w stop a =
    elim (block_begin a.part zs a.others a.phrase) [
      | inl f ↦ subst (λ l. m < rank l) (sym f.2) low
      | inr f ↦ subst (λ l. m < rank l) (sym f.2) (omega arith)
    ]

pub block_avoids : {S : Type 0} {C : BlockShape → S → List Lexeme → List Lexeme → Type 0} (n : ℕ) (p : Place) → Avoids n (Mark sign.Arrow p) (After Block C)
block_avoids n p r zs w stop a =
    elim (block_begin a.part (Mark sign.Arrow p ∷ zs) a.others a.phrase) [
      | inl f ↦ (let e : Mark sign.Arrow p ∷ zs ≡ Mark sign.At f.0 ∷ f.1 = f.2 in cc)
      | inr f ↦ (let e : Mark sign.Arrow p ∷ zs ≡ Mark sign.OpenBrace f.0 ∷ f.1 = f.2 in cc)
    ]
