-- Attributes, part by part.
use Rattle.std.proofs.Common.{◌≡◌, refl, sym, ◌∙◌, subst, ℕ, ◌+◌, ◌<◌, ◌≤◌, ◌⊎◌, inl, inr, Bool, Option, None, Some, List, [], ◌∷◌, ◌++◌, length, drop, arith, slice_get}
use Rattle.shade_base.specs.declared.place.Place.{Place}
use Rattle.shade_ast.specs.declared.lexeme.Keyword.TheVariants as word
use Rattle.shade_ast.specs.declared.lexeme.Sign.TheVariants as sign
use Rattle.shade_ast.specs.Lexemes.{Lexeme, Word, Key, Mark}
use Rattle.shade_ast.specs.Shapes.{NameShape, ExprShapes, AttrNameShape, attr_name, attr_diagnostic, attr_const, AttrShape}
use Rattle.shade_ast.specs.Repeats.{Maybe, absent, Many, no_more, more}
use Rattle.shade_ast.specs.Statements.{Name, name, AttrName, plain_attr, diagnostic_attr, const_attr, AttrArguments, Attribute, attribute}
use Rattle.shade_ast.specs.Reads.{Near, Reads, Fails, rank}
use Rattle.shade_ast.proofs.Stages.{Stage, Closes, near_get, begin, change, closes_end, closes_after}
use Rattle.shade_ast.specs.Chains.{After, Ends, Placed}
use Rattle.shade_ast.proofs.Placed.{name_begins, some_place}
use Rattle.shade_ast.proofs.Manys.{More, more_begin, more_one, more_fails, more_ends}
use Rattle.shade_parse_simple.specs.Maybes.{Stands, ReadsMaybe}
use Rattle.shade_parse_simple.proofs.Steps.{Stops, BeginsWith, end_stops, end_avoids, maybe_stops, maybe_closes, next, next_fails, token, no_token, left, right, not_here, ended, maybe, maybe_fails, fails_later}
use Rattle.shade_parse_simple.proofs.Openings.{opened_first, arguments_opens}

abbrev AttrNamed : AttrNameShape → List Lexeme → List Lexeme → Type 0
AttrNamed = After Name (λ n. Ends (attr_name n))

abbrev AttrConst : AttrNameShape → List Lexeme → List Lexeme → Type 0
AttrConst = After (Placed (Key word.Const)) (λ p. Ends (attr_const p))

abbrev AttrOther : AttrNameShape → List Lexeme → List Lexeme → Type 0
AttrOther r ys w = AttrConst r ys w ⊎ AttrNamed r ys w

abbrev AttrDiagnostic : AttrNameShape → List Lexeme → List Lexeme → Type 0
AttrDiagnostic = After (Placed (Key word.Diagnostic)) (λ p. Ends (attr_diagnostic p))

attr_name_there : (r : AttrNameShape) (ts w : List Lexeme) → AttrName r ts w → AttrDiagnostic r ts w ⊎ AttrOther r ts w
attr_name_there r ts w (plain_attr n) = inr (inr (record { part = n; others = w; phrase = name n; rest = record { same = refl; left = refl } }))
attr_name_there r ts w (diagnostic_attr p) = inl (record { part = p; others = w; phrase = record { is = refl }; rest = record { same = refl; left = refl } })
attr_name_there r ts w (const_attr p) = inr (inl (record { part = p; others = w; phrase = record { is = refl }; rest = record { same = refl; left = refl } }))

attr_name_back : (r : AttrNameShape) (ts w : List Lexeme) → AttrDiagnostic r ts w ⊎ AttrOther r ts w → AttrName r ts w
attr_name_back r ts w c =
    elim c [
      | inl a ↦ subst (λ x. AttrName x ts w) (sym a.rest.same) (subst (λ l. AttrName (attr_diagnostic a.part) l w) (sym a.phrase.is) (subst (λ l. AttrName (attr_diagnostic a.part) (Key word.Diagnostic a.part ∷ a.others) l) a.rest.left (diagnostic_attr a.part)))
      | inr d ↦
          elim d [
            | inl a ↦ subst (λ x. AttrName x ts w) (sym a.rest.same) (subst (λ l. AttrName (attr_const a.part) l w) (sym a.phrase.is) (subst (λ l. AttrName (attr_const a.part) (Key word.Const a.part ∷ a.others) l) a.rest.left (const_attr a.part)))
            | inr a ↦ subst (λ x. AttrName x ts w) (sym a.rest.same) (subst (λ l. AttrName (attr_name a.part) l w) (sym (name_begins a.part ts a.others a.phrase)) (subst (λ l. AttrName (attr_name a.part) (Word a.part.text a.part.place ∷ a.others) l) a.rest.left (plain_attr a.part)))
          ]
    ]

pub attr_name_closes : Closes AttrName
attr_name_closes = record { tree = attr_const some_place; more = Key word.Const some_place ∷ []; closed = λ w. const_attr some_place }

no_name : (tokens : List Lexeme) (from : ℕ) (t : Lexeme) → slice_get tokens from ≡ Some t → ((n : NameShape) → t ≡ Word n.text n.place → ⊥) → (r : AttrNameShape) (ys w : List Lexeme) → AttrNamed r ys w → Near ys (drop from tokens) → ⊥
no_name tokens from t is other r ys w a near =
    let e : slice_get tokens from ≡ Some (Word a.part.text a.part.place) = near_get tokens from (Word a.part.text a.part.place) a.others (subst (λ x. Near x (drop from tokens)) (name_begins a.part ys a.others a.phrase) near) in
    let f : Some t ≡ Some (Word a.part.text a.part.place) = sym is ∙ e in
    other a.part cc

module _ {tokens : List Lexeme} {from : ℕ} (h : from ≤ length tokens) where
  attr_name_begin : Stage AttrName 0 tokens from from (λ r ys w. AttrDiagnostic r ys w ⊎ AttrOther r ys w)
  attr_name_begin = change AttrName 0 tokens from from AttrName (λ r ys w. AttrDiagnostic r ys w ⊎ AttrOther r ys w) (λ r ys w stop near g. attr_name_there r ys w g) attr_name_back (begin AttrName 0 tokens from h)

  pub attr_diagnostic_reads : (p : Place) → slice_get tokens from ≡ Some (Key word.Diagnostic p) → Reads AttrName 0 tokens from (attr_diagnostic p) (from + 1)
  attr_diagnostic_reads p is =
      ended (token (λ p. refl) p is
      (left
      (λ r ys w stop d near.
      elim d [
        | inl a ↦ not_here 0 tokens from (Key word.Const) (λ p. Ends (attr_const p)) (λ q e. let f : Some (Key word.Diagnostic p) ≡ Some (Key word.Const q) = sym is ∙ e in cc) r ys w stop a near
        | inr a ↦ no_name tokens from (Key word.Diagnostic p) is (λ n e. cc) r ys w a near
      ])
      attr_name_begin))

  module _ (never : (p : Place) → slice_get tokens from ≡ Some (Key word.Diagnostic p) → ⊥) where
    attr_other : Stage AttrName 0 tokens from from AttrOther
    attr_other = right (not_here 0 tokens from (Key word.Diagnostic) (λ p. Ends (attr_diagnostic p)) never) attr_name_begin

    pub attr_const_reads : (p : Place) → slice_get tokens from ≡ Some (Key word.Const p) → Reads AttrName 0 tokens from (attr_const p) (from + 1)
    attr_const_reads p is = ended (token (λ p. refl) p is (left (λ r ys w stop a near. no_name tokens from (Key word.Const p) is (λ n e. cc) r ys w a near) attr_other))

    module _ (nor : (p : Place) → slice_get tokens from ≡ Some (Key word.Const p) → ⊥) where
      attr_named : Stage AttrName 0 tokens from from AttrNamed
      attr_named = right (not_here 0 tokens from (Key word.Const) (λ p. Ends (attr_const p)) nor) attr_other

      pub attr_name_fails : {to : ℕ} → Fails Name 0 tokens from to → Fails AttrName 0 tokens from to
      attr_name_fails f = next_fails (λ n. end_stops 0 0 (omega arith)) (λ n. closes_end (attr_name n)) attr_named f

      pub attr_name_reads : {n : NameShape} {to : ℕ} → Reads Name 0 tokens from n to → Reads AttrName 0 tokens from (attr_name n) to
      attr_name_reads x = ended (next (λ n. end_stops 0 0 (omega arith)) attr_named x)

-- an attribute
abbrev pub attr : Place → AttrNameShape → Option (ExprShapes × Bool) → AttrShape
attr p n a = record { place = p; name = n; arguments = a }

abbrev AttrEnd : Place → AttrNameShape → AttrShape → List Lexeme → List Lexeme → Type 0
AttrEnd p n = After (Maybe AttrArguments) (λ a. Ends (attr p n a))

abbrev AttrRest : Place → AttrShape → List Lexeme → List Lexeme → Type 0
AttrRest p = After AttrName (AttrEnd p)

attr_there : (r : AttrShape) (ts w : List Lexeme) → Attribute r ts w → After (Placed (Mark sign.At)) AttrRest r ts w
attr_there r ts w (attribute a {ts = us} {us = vs} n m) = record { part = r.place; others = us; phrase = record { is = refl }; rest = record { part = r.name; others = vs; phrase = n; rest = record { part = r.arguments; others = w; phrase = m; rest = record { same = refl; left = refl } } } }

attr_back : (r : AttrShape) (ts w : List Lexeme) → After (Placed (Mark sign.At)) AttrRest r ts w → Attribute r ts w
attr_back r ts w a =
    let n = a.rest in
    let m = n.rest in
    let v = attr a.part n.part m.part in
    subst (λ x. Attribute x ts w) (sym m.rest.same) (subst (λ l. Attribute v l w) (sym a.phrase.is) (subst (λ l. Attribute v (Mark sign.At a.part ∷ a.others) l) m.rest.left (attribute v n.phrase m.phrase)))

pub arguments_first : BeginsWith (Mark sign.Open) AttrArguments
arguments_first = opened_first arguments_opens

pub attribute_first : BeginsWith (Mark sign.At) Attribute
attribute_first r ts w g = let a = attr_there r ts w g in (a.part, a.others, a.phrase.is)

end_rank : (p : Place) (n : AttrNameShape) → Stops 1 0 (AttrEnd p n)
end_rank p n = maybe_stops (Mark sign.Open) AttrArguments arguments_first 1 0 (λ p. omega arith) (end_stops 1 0 (omega arith))

end_closes : (p : Place) (n : AttrNameShape) → Closes (AttrEnd p n)
end_closes p n = closes_after (Maybe AttrArguments) (λ a. Ends (attr p n a)) (maybe_closes AttrArguments) (λ a. closes_end (attr p n a))

module _ {tokens : List Lexeme} {from : ℕ} (h : from ≤ length tokens) where
  attr_begin : Stage Attribute 1 tokens from from (After (Placed (Mark sign.At)) AttrRest)
  attr_begin = change Attribute 1 tokens from from Attribute (After (Placed (Mark sign.At)) AttrRest) (λ r ys w stop near g. attr_there r ys w g) attr_back (begin Attribute 1 tokens from h)

  pub attr_none : ((p : Place) → slice_get tokens from ≡ Some (Mark sign.At p) → ⊥) → Fails Attribute 1 tokens from from
  attr_none never = no_token (λ p. closes_after AttrName (AttrEnd p) attr_name_closes (end_closes p)) never attr_begin

  module _ (p : Place) (is : slice_get tokens from ≡ Some (Mark sign.At p)) where
    attr_at : Stage Attribute 1 tokens from (from + 1) (AttrRest p)
    attr_at = token (λ p. refl) p is attr_begin

    pub attr_named_fails : {to : ℕ} → Fails AttrName 0 tokens (from + 1) to → Fails Attribute 1 tokens from to
    attr_named_fails f = next_fails (end_rank p) (end_closes p) attr_at f

    module _ {n : AttrNameShape} {at : ℕ} (x : Reads AttrName 0 tokens (from + 1) n at) where
      attr_ends : Stage Attribute 1 tokens from at (AttrEnd p n)
      attr_ends = next (end_rank p) attr_at x

      pub attr_arguments_fails : {to : ℕ} → Stands (Mark sign.Open) tokens at → at < to → Fails AttrArguments 0 tokens at to → Fails Attribute 1 tokens from to
      attr_arguments_fails t lt f = maybe_fails (Mark sign.Open) AttrArguments arguments_first (λ a. end_stops 1 0 (omega arith)) (λ q. end_avoids 1 (Mark sign.Open q) (omega arith)) (λ a. closes_end (attr p n (Some a))) attr_ends t lt f

      pub attr_reads : (a : Option (ExprShapes × Bool)) (to : ℕ) → ReadsMaybe (Mark sign.Open) AttrArguments 0 tokens at a to → Reads Attribute 1 tokens from (attr p n a) to
      attr_reads a to y = ended (maybe (Mark sign.Open) AttrArguments arguments_first (λ a. end_stops 1 0 (omega arith)) (λ q. end_avoids 1 (Mark sign.Open q) (omega arith)) attr_ends y)

-- any number of them
many_rank : (n m : ℕ) → m < 8 → m ≤ n → (r : List AttrShape) (zs w : List Lexeme) → n < rank w → Many Attribute r zs w → m < rank zs
many_rank n m low le r zs w stop no_more = omega arith
many_rank n m low le r zs w stop (more {r = a} {us = us} g l) = let f = attribute_first a zs us g in subst (λ x. m < rank x) (sym f.2) low

pub many_closes : {R : Type 0} (X : R → List Lexeme → List Lexeme → Type 0) → Closes (Many X)
many_closes X = record { tree = []; more = []; closed = λ w. no_more }

-- what begins with attributes, or with what follows them
pub attributes_stop : {S : Type 0} {C : List AttrShape → S → List Lexeme → List Lexeme → Type 0} (n m : ℕ) → m < 8 → ((ls : List AttrShape) → Stops n m (C ls)) → Stops n m (After (Many Attribute) C)
attributes_stop n m low stops r zs w stop a = many_rank m m low (omega arith) a.part zs a.others (stops a.part r a.others w stop a.rest) a.phrase

abbrev pub Attributes : List AttrShape → List AttrShape → List Lexeme → List Lexeme → Type 0
Attributes ls = More Attribute ls

attributes_rank : (ls : List AttrShape) (r : List AttrShape) (zs w : List Lexeme) (s : AttrShape) → 8 < rank w → Attributes (ls ++ s ∷ []) r zs w → 1 < rank zs
attributes_rank ls r zs w s stop m = many_rank 8 1 (omega arith) (omega arith) m.others zs w stop m.phrases

module _ {tokens : List Lexeme} {from : ℕ} where
  pub attributes_begin : from ≤ length tokens → Stage (Many Attribute) 8 tokens from from (Attributes [])
  attributes_begin h = more_begin Attribute 8 tokens from h

  module _ {at : ℕ} {ls : List AttrShape} (s : Stage (Many Attribute) 8 tokens from at (Attributes ls)) where
    pub attributes_end : ((p : Place) → slice_get tokens at ≡ Some (Mark sign.At p) → ⊥) → Reads (Many Attribute) 8 tokens from ls at
    attributes_end never =
        more_ends Attribute (Many Attribute) 8 tokens from at ls ls refl
        (λ r ys w g near. let f = attribute_first r ys w g in never f.0 (near_get tokens at (Mark sign.At f.0) f.1 (subst (λ x. Near x (drop at tokens)) f.2 near)))
        s

    module _ (p : Place) (is : slice_get tokens at ≡ Some (Mark sign.At p)) {to : ℕ} where
      pub attributes_fail : Fails Attribute 1 tokens at to → Fails (Many Attribute) 8 tokens from to
      attributes_fail f = more_fails Attribute (Many Attribute) 8 tokens from 1 at to ls (attributes_rank ls) (Mark sign.At p) is (omega arith) (fails_later (attr p (attr_const p) None) (Key word.Const p ∷ []) (omega arith) is (attribute (attr p (attr_const p) None) (const_attr p) absent) f) s f

      pub attributes_more : at < to → {a : AttrShape} (es : List AttrShape) → es ≡ ls ++ a ∷ [] → Reads Attribute 1 tokens at a to → Stage (Many Attribute) 8 tokens from to (Attributes es)
      attributes_more lt {a = a} es same x = more_one Attribute (Many Attribute) 8 tokens from 1 at to ls (attributes_rank ls) (Mark sign.At p) is (omega arith) lt s a es same x
