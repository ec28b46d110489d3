-- What stands behind `const` and `let`, and a declaration by `var`, part by part.
use Rattle.std.proofs.Common.{◌≡◌, refl, sym, subst, ℕ, ◌+◌, ◌<◌, ◌≤◌, Bool, Option, None, Some, List, ◌∷◌, ◌++◌, length, arith, slice_get}
use Rattle.shade_base.specs.declared.place.Place.{Place}
use Rattle.shade_ast.specs.declared.lexeme.Keyword.TheVariants as word
use Rattle.shade_ast.specs.declared.lexeme.Sign.TheVariants as sign
use Rattle.shade_ast.specs.Lexemes.{Lexeme, Word, Key, Mark}
use Rattle.shade_ast.specs.Shapes.{NameShape, ExprShape, VarSpaceShape, VarShape, BindingShape}
use Rattle.shade_ast.specs.Repeats.{Maybe}
use Rattle.shade_ast.specs.Statements.{Name, name, OfType, HasValue, VarSpace, var_space, Var, var}
use Rattle.shade_ast.specs.Reads.{Reads, Fails}
use Rattle.shade_ast.proofs.Stages.{Stage, Closes, begin, change, closes_end, closes_after}
use Rattle.shade_ast.specs.Chains.{After, Ends, Placed}
use Rattle.shade_ast.proofs.Placed.{placed_closes, name_closes, name_begins}
use Rattle.shade_parse_simple.specs.Maybes.{Stands, ReadsMaybe}
use Rattle.shade_parse_simple.specs.Rests.{Bound, bound, ending, SpaceEnd, space_end}
use Rattle.shade_parse_simple.proofs.Steps.{Stops, Avoids, BeginsWith, end_stops, end_avoids, name_stops, name_avoids, maybe_stops, maybe_avoids, maybe_closes, next, next_fails, token, no_token, ended, maybe, maybe_fails}
use Rattle.shade_parse_simple.proofs.Openings.{Opens, opened_first, opened_closes, begins_stops, begins_avoids, expression_closes, of_type_opens, has_value_opens}
use Rattle.shade_parse_simple.proofs.Endings.{space_closes, space_stops}

pub of_type_first : BeginsWith (Mark sign.Colon) OfType
of_type_first = opened_first of_type_opens

pub has_value_first : BeginsWith (Mark sign.Equal) HasValue
has_value_first = opened_first has_value_opens

pub has_value_closes : Closes HasValue
has_value_closes = opened_closes has_value_opens expression_closes

pub no_colon : (p q : Place) → Mark sign.Colon p ≡ Mark sign.Equal q → ⊥
no_colon p q e = cc

module _ (keyword : Place) where
  abbrev binding : NameShape → Option ExprShape → ExprShape → BindingShape
  binding n t e = record { place = keyword; name = n; ty = t; value = e }

  abbrev BoundValue : NameShape → Option ExprShape → BindingShape → List Lexeme → List Lexeme → Type 0
  BoundValue n t = After HasValue (λ e. Ends (binding n t e))

  abbrev BoundType : NameShape → BindingShape → List Lexeme → List Lexeme → Type 0
  BoundType n = After (Maybe OfType) (BoundValue n)

  bound_there : (r : BindingShape) (ts w : List Lexeme) → Bound keyword r ts w → After Name BoundType r ts w
  bound_there r ts w (bound b {ts = us} {us = vs} same t v) = record {
    part = b.name;
    others = us;
    phrase = name b.name;
    rest = record {
      part = b.ty;
      others = vs;
      phrase = t;
      rest = record
          { part = b.value; others = w; phrase = v; rest = record { same = λ i. record { place = same i; name = b.name; ty = b.ty; value = b.value }; left = refl } };
    };
  }

  bound_back : (r : BindingShape) (ts w : List Lexeme) → After Name BoundType r ts w → Bound keyword r ts w
  bound_back r ts w a =
      let b = a.rest in
      let c = b.rest in
      subst (λ l. Bound keyword r l w) (sym (name_begins a.part ts a.others a.phrase))
      (subst (λ x. Bound keyword x (Word a.part.text a.part.place ∷ a.others) w) (sym c.rest.same)
      (subst (λ l. Bound keyword (binding a.part b.part c.part) (Word a.part.text a.part.place ∷ a.others) l) c.rest.left (bound (binding a.part b.part c.part) refl b.phrase c.phrase)))

  value_stops : (n : NameShape) (t : Option ExprShape) → Stops 7 0 (BoundValue n t)
  value_stops n t = begins_stops (Mark sign.Equal) HasValue has_value_first 7 0 (λ p. omega arith)

  type_stops : (n : NameShape) → Stops 7 0 (BoundType n)
  type_stops n = maybe_stops (Mark sign.Colon) OfType of_type_first 7 0 (λ p. omega arith) (value_stops n None)

  value_avoids : (n : NameShape) (p : Place) → Avoids 7 (Mark sign.Colon p) (BoundValue n None)
  value_avoids n p = begins_avoids (Mark sign.Equal) HasValue has_value_first 7 (Mark sign.Colon p) (no_colon p)

  value_closes : (n : NameShape) (t : Option ExprShape) → Closes (BoundValue n t)
  value_closes n t = closes_after HasValue (λ e. Ends (binding n t e)) has_value_closes (λ e. closes_end (binding n t e))

  module _ {tokens : List Lexeme} {from : ℕ} (h : from ≤ length tokens) where
    bound_begin : Stage (Bound keyword) 7 tokens from from (After Name BoundType)
    bound_begin = change (Bound keyword) 7 tokens from from (Bound keyword) (After Name BoundType) (λ r ys w stop near g. bound_there r ys w g) bound_back (begin (Bound keyword) 7 tokens from h)

    pub bound_name_fails : {to : ℕ} → Fails Name 0 tokens from to → Fails (Bound keyword) 7 tokens from to
    bound_name_fails f = next_fails type_stops (λ n. closes_after (Maybe OfType) (BoundValue n) (maybe_closes OfType) (value_closes n)) bound_begin f

    module _ {n : NameShape} {at : ℕ} (x : Reads Name 0 tokens from n at) where
      bound_named : Stage (Bound keyword) 7 tokens from at (BoundType n)
      bound_named = next type_stops bound_begin x

      pub bound_type_fails : {to : ℕ} → Stands (Mark sign.Colon) tokens at → at < to → Fails OfType 0 tokens at to → Fails (Bound keyword) 7 tokens from to
      bound_type_fails t lt f = maybe_fails (Mark sign.Colon) OfType of_type_first (λ b. value_stops n (Some b)) (value_avoids n) (λ b. value_closes n (Some b)) bound_named t lt f

      module _ (t : Option ExprShape) (then : ℕ) (y : ReadsMaybe (Mark sign.Colon) OfType 0 tokens at t then) where
        bound_typed : Stage (Bound keyword) 7 tokens from then (BoundValue n t)
        bound_typed = maybe (Mark sign.Colon) OfType of_type_first (λ b. value_stops n (Some b)) (value_avoids n) bound_named y

        pub bound_value_fails : {to : ℕ} → Fails HasValue 7 tokens then to → Fails (Bound keyword) 7 tokens from to
        bound_value_fails f = next_fails (λ e. end_stops 7 7 (omega arith)) (λ e. closes_end (binding n t e)) bound_typed f

        pub bound_reads : {e : ExprShape} {to : ℕ} → Reads HasValue 7 tokens then e to → Reads (Bound keyword) 7 tokens from (binding n t e) to
        bound_reads z = ended (next (λ e. end_stops 7 7 (omega arith)) bound_typed z)

-- the template list of a `var`
abbrev pub space : NameShape → Option NameShape × Bool → VarSpaceShape
space n e = record { space = n; access = e.0; trailing = e.1 }

abbrev pub SpaceRest : VarSpaceShape → List Lexeme → List Lexeme → Type 0
SpaceRest = After Name (λ n. After SpaceEnd (λ e. Ends (space n e)))

pub var_space_opens : Opens (Mark sign.OpenTemplate) VarSpace SpaceRest (λ s. s)
var_space_opens = record { there = there; back = back }
  where
    there : (r : VarSpaceShape) (ts w : List Lexeme) → VarSpace r ts w → After (Placed (Mark sign.OpenTemplate)) (λ p. After SpaceRest (λ b. Ends b)) r ts w
    there r ts w (var_space s p q {ts = us} {us = vs} a m) = record {
      part = p;
      others = Word r.space.text r.space.place ∷ us;
      phrase = record { is = refl };
      rest = record {
        part = r;
        others = w;
        phrase = record {
          part = r.space;
          others = us;
          phrase = name r.space;
          rest = record
              { part = (r.access, r.trailing); others = w; phrase = space_end a (ending q m); rest = record { same = refl; left = refl } };
        };
        rest = record { same = refl; left = refl };
      };
    }

    space_by : (n : NameShape) (e : Option NameShape × Bool) (p : Place) (us w : List Lexeme) → SpaceEnd e us w → VarSpace (space n e) (Mark sign.OpenTemplate p ∷ (Word n.text n.place ∷ us)) w
    space_by n e p us w (space_end {access = a} {trailing = t} m (ending q k)) = var_space (space n (a, t)) p q m k

    back : (p : Place) (b : VarSpaceShape) (us w : List Lexeme) → SpaceRest b us w → VarSpace b (Mark sign.OpenTemplate p ∷ us) w
    back p b us w a =
        let e = a.rest in
        subst (λ x. VarSpace x (Mark sign.OpenTemplate p ∷ us) w) (sym e.rest.same)
        (subst (λ l. VarSpace (space a.part e.part) (Mark sign.OpenTemplate p ∷ l) w) (sym (name_begins a.part us a.others a.phrase))
        (subst (λ l. VarSpace (space a.part e.part) (Mark sign.OpenTemplate p ∷ (Word a.part.text a.part.place ∷ a.others)) l) e.rest.left (space_by a.part e.part p a.others e.others e.phrase)))

pub var_space_first : BeginsWith (Mark sign.OpenTemplate) VarSpace
var_space_first = opened_first var_space_opens

rest_closes : (n : NameShape) → Closes (After SpaceEnd (λ e. Ends (space n e)))
rest_closes n = closes_after SpaceEnd (λ e. Ends (space n e)) space_closes (λ e. closes_end (space n e))

pub space_rest_closes : Closes SpaceRest
space_rest_closes = closes_after Name (λ n. After SpaceEnd (λ e. Ends (space n e))) name_closes rest_closes

module _ {tokens : List Lexeme} {from : ℕ} (h : from ≤ length tokens) where
  pub space_rest_name_fails : {to : ℕ} → Fails Name 0 tokens from to → Fails SpaceRest 0 tokens from to
  space_rest_name_fails f = next_fails (λ n. space_stops 0 0 (omega arith)) rest_closes (begin SpaceRest 0 tokens from h) f

  module _ {n : NameShape} {at : ℕ} (x : Reads Name 0 tokens from n at) where
    space_rest_named : Stage SpaceRest 0 tokens from at (After SpaceEnd (λ e. Ends (space n e)))
    space_rest_named = next (λ n. space_stops 0 0 (omega arith)) (begin SpaceRest 0 tokens from h) x

    pub space_rest_end_fails : {to : ℕ} → Fails SpaceEnd 0 tokens at to → Fails SpaceRest 0 tokens from to
    space_rest_end_fails f = next_fails (λ e. end_stops 0 0 (omega arith)) (λ e. closes_end (space n e)) space_rest_named f

    pub space_rest_reads : {e : Option NameShape × Bool} {to : ℕ} → Reads SpaceEnd 0 tokens at e to → Reads SpaceRest 0 tokens from (space n e) to
    space_rest_reads y = ended (next (λ e. end_stops 0 0 (omega arith)) space_rest_named y)

-- a declaration by `var`
abbrev pub variable : Place → Option VarSpaceShape → NameShape → Option ExprShape → Option ExprShape → VarShape
variable p s n t v = record { place = p; space = s; name = n; ty = t; value = v }

abbrev VarValue : Place → Option VarSpaceShape → NameShape → Option ExprShape → VarShape → List Lexeme → List Lexeme → Type 0
VarValue p s n t = After (Maybe HasValue) (λ v. Ends (variable p s n t v))

abbrev VarType : Place → Option VarSpaceShape → NameShape → VarShape → List Lexeme → List Lexeme → Type 0
VarType p s n = After (Maybe OfType) (VarValue p s n)

abbrev VarName : Place → Option VarSpaceShape → VarShape → List Lexeme → List Lexeme → Type 0
VarName p s = After Name (VarType p s)

abbrev VarRest : Place → VarShape → List Lexeme → List Lexeme → Type 0
VarRest p = After (Maybe VarSpace) (VarName p)

var_there : (r : VarShape) (ts w : List Lexeme) → Var r ts w → After (Placed (Key word.Var)) VarRest r ts w
var_there r ts w (var v {ts = us} {us = vs} {vs = xs} s t e) =
    record { part = r.place; others = us; phrase = record { is = refl }; rest = record { part = r.space; others = Word r.name.text r.name.place ∷ vs; phrase = s; rest = record { part = r.name; others = vs; phrase = name r.name; rest = record { part = r.ty; others = xs; phrase = t; rest = record { part = r.value; others = w; phrase = e; rest = record { same = refl; left = refl } } } } } }

var_back : (r : VarShape) (ts w : List Lexeme) → After (Placed (Key word.Var)) VarRest r ts w → Var r ts w
var_back r ts w a =
    let s = a.rest in
    let n = s.rest in
    let t = n.rest in
    let e = t.rest in
    let v = variable a.part s.part n.part t.part e.part in
    subst (λ x. Var x ts w) (sym e.rest.same)
    (subst (λ l. Var v l w) (sym a.phrase.is)
    (subst (λ l. Var v (Key word.Var a.part ∷ a.others) l) e.rest.left
    (var v (subst (λ l. Maybe VarSpace s.part a.others l) (name_begins n.part s.others n.others n.phrase) s.phrase) t.phrase e.phrase)))

optional_value_stops : (p : Place) (s : Option VarSpaceShape) (n : NameShape) (t : Option ExprShape) → Stops 8 0 (VarValue p s n t)
optional_value_stops p s n t = maybe_stops (Mark sign.Equal) HasValue has_value_first 8 0 (λ p. omega arith) (end_stops 8 0 (omega arith))

optional_type_stops : (p : Place) (s : Option VarSpaceShape) (n : NameShape) → Stops 8 0 (VarType p s n)
optional_type_stops p s n = maybe_stops (Mark sign.Colon) OfType of_type_first 8 0 (λ p. omega arith) (optional_value_stops p s n None)

optional_value_avoids : (p : Place) (s : Option VarSpaceShape) (n : NameShape) (q : Place) → Avoids 8 (Mark sign.Colon q) (VarValue p s n None)
optional_value_avoids p s n q = maybe_avoids (Mark sign.Equal) HasValue has_value_first 8 (Mark sign.Colon q) (no_colon q) (end_avoids 8 (Mark sign.Colon q) (omega arith))

optional_value_closes : (p : Place) (s : Option VarSpaceShape) (n : NameShape) (t : Option ExprShape) → Closes (VarValue p s n t)
optional_value_closes p s n t = closes_after (Maybe HasValue) (λ v. Ends (variable p s n t v)) (maybe_closes HasValue) (λ v. closes_end (variable p s n t v))

optional_type_closes : (p : Place) (s : Option VarSpaceShape) (n : NameShape) → Closes (VarType p s n)
optional_type_closes p s n = closes_after (Maybe OfType) (VarValue p s n) (maybe_closes OfType) (optional_value_closes p s n)

var_name_closes : (p : Place) (s : Option VarSpaceShape) → Closes (VarName p s)
var_name_closes p s = closes_after Name (VarType p s) name_closes (optional_type_closes p s)

module _ {tokens : List Lexeme} {from : ℕ} (h : from ≤ length tokens) where
  var_begin : Stage Var 8 tokens from from (After (Placed (Key word.Var)) VarRest)
  var_begin = change Var 8 tokens from from Var (After (Placed (Key word.Var)) VarRest) (λ r ys w stop near g. var_there r ys w g) var_back (begin Var 8 tokens from h)

  pub var_none : ((p : Place) → slice_get tokens from ≡ Some (Key word.Var p) → ⊥) → Fails Var 8 tokens from from
  var_none never = no_token (λ p. closes_after (Maybe VarSpace) (VarName p) (maybe_closes VarSpace) (var_name_closes p)) never var_begin

  module _ (p : Place) (is : slice_get tokens from ≡ Some (Key word.Var p)) where
    var_keyword : Stage Var 8 tokens from (from + 1) (VarRest p)
    var_keyword = token (λ p. refl) p is var_begin

    pub var_space_fails : {to : ℕ} → Stands (Mark sign.OpenTemplate) tokens (from + 1) → from + 1 < to → Fails VarSpace 0 tokens (from + 1) to → Fails Var 8 tokens from to
    var_space_fails t lt f = maybe_fails (Mark sign.OpenTemplate) VarSpace var_space_first (λ s. name_stops 8 0 (omega arith)) (λ q. name_avoids 8 (Mark sign.OpenTemplate q) (λ text o e. cc)) (λ s. var_name_closes p (Some s)) var_keyword t lt f

    module _ (s : Option VarSpaceShape) (at : ℕ) (x : ReadsMaybe (Mark sign.OpenTemplate) VarSpace 0 tokens (from + 1) s at) where
      var_spaced : Stage Var 8 tokens from at (VarName p s)
      var_spaced = maybe (Mark sign.OpenTemplate) VarSpace var_space_first (λ s. name_stops 8 0 (omega arith)) (λ q. name_avoids 8 (Mark sign.OpenTemplate q) (λ text o e. cc)) var_keyword x

      pub var_name_fails : {to : ℕ} → Fails Name 0 tokens at to → Fails Var 8 tokens from to
      var_name_fails f = next_fails (optional_type_stops p s) (optional_type_closes p s) var_spaced f

      module _ {n : NameShape} {second : ℕ} (y : Reads Name 0 tokens at n second) where
        var_named : Stage Var 8 tokens from second (VarType p s n)
        var_named = next (optional_type_stops p s) var_spaced y

        pub var_type_fails : {to : ℕ} → Stands (Mark sign.Colon) tokens second → second < to → Fails OfType 0 tokens second to → Fails Var 8 tokens from to
        var_type_fails t lt f = maybe_fails (Mark sign.Colon) OfType of_type_first (λ b. optional_value_stops p s n (Some b)) (optional_value_avoids p s n) (λ b. optional_value_closes p s n (Some b)) var_named t lt f

        module _ (t : Option ExprShape) (third : ℕ) (z : ReadsMaybe (Mark sign.Colon) OfType 0 tokens second t third) where
          var_typed : Stage Var 8 tokens from third (VarValue p s n t)
          var_typed = maybe (Mark sign.Colon) OfType of_type_first (λ b. optional_value_stops p s n (Some b)) (optional_value_avoids p s n) var_named z

          pub var_value_fails : {to : ℕ} → Stands (Mark sign.Equal) tokens third → third < to → Fails HasValue 7 tokens third to → Fails Var 8 tokens from to
          var_value_fails stands lt f = maybe_fails (Mark sign.Equal) HasValue has_value_first (λ v. end_stops 8 7 (omega arith)) (λ q. end_avoids 8 (Mark sign.Equal q) (omega arith)) (λ v. closes_end (variable p s n t (Some v))) var_typed stands lt f

          pub var_reads : (v : Option ExprShape) (to : ℕ) → ReadsMaybe (Mark sign.Equal) HasValue 7 tokens third v to → Reads Var 8 tokens from (variable p s n t v) to
          var_reads v to u = ended (maybe (Mark sign.Equal) HasValue has_value_first (λ v. end_stops 8 7 (omega arith)) (λ q. end_avoids 8 (Mark sign.Equal q) (omega arith)) var_typed u)

pub bound_closes : (keyword : Place) → Closes (Bound keyword)
bound_closes keyword =
    let c = closes_after Name (BoundType keyword) name_closes (λ n. closes_after (Maybe OfType) (BoundValue keyword n) (maybe_closes OfType) (value_closes keyword n)) in
    record { tree = c.tree; more = c.more; closed = λ w. bound_back keyword c.tree (c.more ++ w) w (c.closed w) }

pub var_begins : BeginsWith (Key word.Var) Var
var_begins r ts w g = let a = var_there r ts w g in (a.part, a.others, a.phrase.is)

pub var_closes : Closes Var
var_closes =
    let c = closes_after (Placed (Key word.Var)) VarRest (placed_closes (Key word.Var)) (λ p. closes_after (Maybe VarSpace) (VarName p) (maybe_closes VarSpace) (var_name_closes p)) in
    record { tree = c.tree; more = c.more; closed = λ w. var_back c.tree (c.more ++ w) w (c.closed w) }
