-- Phrases that are a token and a phrase behind it.
use Rattle.std.proofs.Common.{◌≡◌, refl, sym, ap, subst, ℕ, ◌+◌, ◌<◌, ◌≤◌, Bool, Some, List, [], ◌∷◌, ◌++◌, length, slice_get, false}
use Rattle.shade_base.specs.declared.place.Place.{Place}
use Rattle.shade_ast.specs.declared.lexeme.Sign.TheVariants as sign
use Rattle.shade_ast.specs.Lexemes.{Lexeme, Word, Mark}
use Rattle.shade_ast.specs.Shapes.{ExprShape, ExprShapes, named}
use Rattle.shade_ast.specs.Shaped.{expr_shapes}
use Rattle.shade_ast.specs.Repeats.{MaybeListed, nothing}
use Rattle.shade_ast.specs.Expressions.{TypeName, plain_type, Expression, relational, shifted}
use Rattle.shade_ast.specs.Statements.{AttrArguments, attr_arguments, OfType, of_type, HasValue, has_value}
use Rattle.shade_ast.specs.Reads.{Reads, Fails, rank, rank_of}
use Rattle.shade_ast.proofs.Stages.{Stage, Closes, begin, change, closes_end, closes_after}
use Rattle.shade_ast.specs.Chains.{After, Ends, Placed, Closed}
use Rattle.shade_ast.proofs.Placed.{lexeme_place, some_place}
use Rattle.shade_ast.proofs.ExprLists.{expr_list, expr_list_back, maybe_exprs_there, maybe_exprs_here}
use Rattle.shade_parse_expr.proofs.Ranks.{some_shift}
use Rattle.shade_parse_simple.proofs.Steps.{Stops, Avoids, BeginsWith, fails_later, end_stops, next, next_fails, token, no_token, ended}

-- `X` is such a token and a phrase of `B`
pub record Opens {R S : Type 0} (kind : Place → Lexeme) (X : R → List Lexeme → List Lexeme → Type 0) (B : S → List Lexeme → List Lexeme → Type 0) (build : S → R) : Type 0 where
  pub there : (r : R) (ts w : List Lexeme) → X r ts w → After (Placed kind) (λ p. After B (λ b. Ends (build b))) r ts w
  pub back : (p : Place) (b : S) (us w : List Lexeme) → B b us w → X (build b) (kind p ∷ us) w

module _ {R S : Type 0} {kind : Place → Lexeme} {X : R → List Lexeme → List Lexeme → Type 0} {B : S → List Lexeme → List Lexeme → Type 0} {build : S → R} (o : Opens kind X B build) where
  pub opened_first : BeginsWith kind X
  opened_first r ts w x = let a = o.there r ts w x in (a.part, a.others, a.phrase.is)

  opened_back : (r : R) (ts w : List Lexeme) → After (Placed kind) (λ p. After B (λ b. Ends (build b))) r ts w → X r ts w
  opened_back r ts w a =
      subst (λ l. X r l w) (sym a.phrase.is)
      (subst (λ x. X x (kind a.part ∷ a.others) w) (sym a.rest.rest.same)
      (subst (λ l. X (build a.rest.part) (kind a.part ∷ a.others) l) a.rest.rest.left (o.back a.part a.rest.part a.others a.rest.others a.rest.phrase)))

  pub opened_closes : Closes B → Closes X
  opened_closes c = record { tree = build c.tree; more = kind some_place ∷ c.more; closed = λ w. o.back some_place c.tree (c.more ++ w) w (c.closed w) }

  -- it fails behind its first token
  pub opened_later : {n : ℕ} {tokens : List Lexeme} {from to : ℕ} → n < 10 → Closes B → (p : Place) → slice_get tokens from ≡ Some (kind p) → Fails X n tokens from to → from < to
  opened_later small c p is f = fails_later (build c.tree) (c.more ++ []) small is (o.back p c.tree (c.more ++ []) [] (c.closed [])) f

  module _ {n m : ℕ} {tokens : List Lexeme} {from : ℕ} (le : m ≤ n) (h : from ≤ length tokens) where
    opened_begin : Stage X n tokens from from (After (Placed kind) (λ p. After B (λ b. Ends (build b))))
    opened_begin = change X n tokens from from X (After (Placed kind) (λ p. After B (λ b. Ends (build b)))) (λ r ys w stop near g. o.there r ys w g) opened_back (begin X n tokens from h)

    pub opened_none : Closes B → ((p : Place) → slice_get tokens from ≡ Some (kind p) → ⊥) → Fails X n tokens from from
    opened_none c never = no_token (λ p. closes_after B (λ b. Ends (build b)) c (λ b. closes_end (build b))) never opened_begin

    module _ (place : (p : Place) → lexeme_place (kind p) ≡ p) (p : Place) (is : slice_get tokens from ≡ Some (kind p)) {to : ℕ} where
      pub opened_reads : {b : S} → Reads B m tokens (from + 1) b to → Reads X n tokens from (build b) to
      opened_reads x = ended (next (λ b. end_stops n m le) (token place p is opened_begin) x)

      pub opened_fails : Fails B m tokens (from + 1) to → Fails X n tokens from to
      opened_fails x = next_fails (λ b. end_stops n m le) (λ b. closes_end (build b)) (token place p is opened_begin) x

-- what follows such a phrase
module _ {R S : Type 0} {C : S → R → List Lexeme → List Lexeme → Type 0} (kind : Place → Lexeme) (X : S → List Lexeme → List Lexeme → Type 0) (first : BeginsWith kind X) where
  pub begins_stops : (n m : ℕ) → ((p : Place) → m < rank_of (kind p)) → Stops n m (After X C)
  begins_stops n m low r zs w stop a = let f = first a.part zs a.others a.phrase in subst (λ x. m < rank x) (sym f.2) (low f.0)

  pub begins_avoids : (n : ℕ) (t : Lexeme) → ((p : Place) → t ≡ kind p → ⊥) → Avoids n t (After X C)
  begins_avoids n t other r zs w stop a = let f = first a.part (t ∷ zs) a.others a.phrase in other f.0 (let e : t ∷ zs ≡ kind f.0 ∷ f.1 = f.2 in cc)

pub type_closes : Closes TypeName
type_closes = record { tree = named some_place []; more = Word [] some_place ∷ []; closed = λ w. plain_type some_place [] }

pub expression_closes : Closes Expression
expression_closes = record { tree = named some_place []; more = Word [] some_place ∷ []; closed = λ w. relational (shifted (some_shift w)) }

-- `:` and a type
pub of_type_opens : Opens (Mark sign.Colon) OfType TypeName (λ e. e)
of_type_opens = record { there = there; back = λ p b us w g. of_type p g }
  where
    there : (r : ExprShape) (ts w : List Lexeme) → OfType r ts w → After (Placed (Mark sign.Colon)) (λ p. After TypeName (λ b. Ends b)) r ts w
    there r ts w (of_type p {ts = us} g) = record { part = p; others = us; phrase = record { is = refl }; rest = record { part = r; others = w; phrase = g; rest = record { same = refl; left = refl } } }

-- `=` and an expression
pub has_value_opens : Opens (Mark sign.Equal) HasValue Expression (λ e. e)
has_value_opens = record { there = there; back = λ p b us w g. has_value p g }
  where
    there : (r : ExprShape) (ts w : List Lexeme) → HasValue r ts w → After (Placed (Mark sign.Equal)) (λ p. After Expression (λ b. Ends b)) r ts w
    there r ts w (has_value p {ts = us} g) = record { part = p; others = us; phrase = record { is = refl }; rest = record { part = r; others = w; phrase = g; rest = record { same = refl; left = refl } } }

-- `(` and arguments
abbrev pub Arguments : List ExprShape × Bool → List Lexeme → List Lexeme → Type 0
Arguments = Closed (MaybeListed Expression) (Mark sign.Close)

abbrev pub listed : List ExprShape × Bool → ExprShapes × Bool
listed r = (expr_shapes r.0, r.1)

pub arguments_opens : Opens (Mark sign.Open) AttrArguments Arguments listed
arguments_opens = record { there = there; back = λ p b us w g. attr_arguments p g.place (maybe_exprs_here b us (Mark sign.Close g.place ∷ w) g.list) }
  where
    there : (r : ExprShapes × Bool) (ts w : List Lexeme) → AttrArguments r ts w → After (Placed (Mark sign.Open)) (λ p. After Arguments (λ b. Ends (listed b))) r ts w
    there r ts w (attr_arguments p q {ts = us} g) = record {
      part = p;
      others = us;
      phrase = record { is = refl };
      rest = record {
        part = (expr_list r.0, r.1);
        others = w;
        phrase = record { place = q; list = maybe_exprs_there r us (Mark sign.Close q ∷ w) g };
        rest = record
            { same = ap (λ x. (x, r.1)) (sym (expr_list_back r.0)); left = refl };
      };
    }

pub arguments_close : Closes Arguments
arguments_close = record { tree = ([], false); more = Mark sign.Close some_place ∷ []; closed = λ w. record { place = some_place; list = nothing } }
