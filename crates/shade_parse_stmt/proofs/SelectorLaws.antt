-- Selectors of a `case`.
use Rattle.std.proofs.Common.{◌≡◌, refl, sym, ap, subst, ℕ, ◌+◌, ◌≤◌, List, [], ◌∷◌, length, drop, arith, Some, slice_get}
use Rattle.shade_base.specs.declared.place.Place.{Place}
use Rattle.shade_ast.specs.declared.lexeme.Keyword.TheVariants as word
use Rattle.shade_ast.specs.declared.stmt.Selector.TheVariants as selector
use Rattle.shade_ast.specs.Lexemes.{Lexeme, Key}
use Rattle.shade_ast.specs.Shapes.{ExprShape, SelectorShape, default_selector, value_selector}
use Rattle.shade_ast.specs.Shaped.{expr_shape}
use Rattle.shade_ast.specs.Expressions.{Expression}
use Rattle.shade_ast.specs.Statements.{Selects, selects_default, selects_value}
use Rattle.shade_ast.specs.Reads.{Near}
use Rattle.shade_ast.proofs.Firsts.{BeginsExpr, first_is, expression_first}
use Rattle.shade_ast.specs.Chains.{After, Ends}
use Rattle.shade_ast.proofs.Stages.{near_get}
use Rattle.shade_cursor.specs.declared.part.Part.{Part}
use Rattle.shade_parse_expr.specs.Parts.{ReadsTree}
use Rattle.shade_parse_stmt.specs.Follows.{Above, FailsBy, ReadsOfBy}
use Rattle.shade_parse_simple.specs.Readings.{expr_seen}
use Rattle.shade_parse_stmt.specs.StatementParts.{selector_seen}
use Rattle.shade_parse_stmt.proofs.FollowSteps.{Step, begin, change, consume, finish_ends}
use Rattle.shade_parse_stmt.proofs.Handing.{expr_read, as_read}
use Rattle.shade_parse_stmt.proofs.Closings.{last_fails, last_reads}

no_default : (e : ExprShape) (p : Place) (ts w : List Lexeme) → Expression e (Key word.Default p ∷ ts) w → ⊥
no_default e p ts w g = first_is BeginsExpr (Key word.Default p) ts (expression_first e (Key word.Default p ∷ ts) w g)

module _ (tokens : List Lexeme) (from : ℕ) (h : from ≤ length tokens) where
  pub default_tree : (names : List (List ℕ)) (node : ℕ) (p : Place) → slice_get tokens from ≡ Some (Key word.Default p) → ReadsOfBy selector_seen Selects (Above 7) tokens names from node (record { tree = selector.Default p; end = from + 1; node = node })
  default_tree names node p is = record {
    reads =
        finish_ends Selects (Above 7) tokens from (from + 1) (default_selector p) (default_selector p) refl
        (change Selects (Above 7) tokens from (from + 1) (λ r zs w. Selects r (Key word.Default p ∷ zs) w) (Ends (default_selector p)) (λ r zs w stop near g. there r (Key word.Default p ∷ zs) zs w refl g)
        (λ r zs w e. subst (λ x. Selects x (Key word.Default p ∷ zs) w) (sym e.same) (subst (Selects (default_selector p) (Key word.Default p ∷ zs)) e.left (selects_default p)))
        (consume Selects (Above 7) tokens from from Selects (Key word.Default p) is (begin Selects (Above 7) tokens from h)));
    known = omega arith;
    nodes = refl;
  }
    where
      there : (r : SelectorShape) (ts zs w : List Lexeme) → ts ≡ Key word.Default p ∷ zs → Selects r ts w → Ends (default_selector p) r zs w
      there r ts zs w e (selects_default q) =
          let both : Key word.Default q ∷ w ≡ Key word.Default p ∷ zs = e in
          let place : q ≡ p = cc in
          let rest : zs ≡ w = cc in
          record { same = ap default_selector place; left = rest }
      there r ts zs w e (selects_value {e = v} g) = absurd (no_default v p zs w (subst (λ x. Expression v x w) e g))

  module _ (never : (p : Place) → slice_get tokens from ≡ Some (Key word.Default p) → ⊥) where
    value_there : (r : SelectorShape) (ys w : List Lexeme) → Near ys (drop from tokens) → Selects r ys w → After Expression (λ e. Ends (value_selector e)) r ys w
    value_there r ys w near (selects_default p) = absurd (never p (near_get tokens from (Key word.Default p) w near))
    value_there r ys w near (selects_value {e = v} g) = record { part = v; others = w; phrase = g; rest = record { same = refl; left = refl } }

    value_stage : Step Selects (Above 7) tokens from from (After Expression (λ e. Ends (value_selector e)))
    value_stage =
        change Selects (Above 7) tokens from from Selects (After Expression (λ e. Ends (value_selector e))) (λ r ys w stop near g. value_there r ys w near g)
        (λ r ys w a. subst (λ x. Selects x ys w) (sym a.rest.same) (selects_value (subst (Expression a.part ys) a.rest.left a.phrase)))
        (begin Selects (Above 7) tokens from h)

    pub value_fails : (to : ℕ) → FailsBy Expression (Above 7) tokens from to → FailsBy Selects (Above 7) tokens from to
    value_fails to x = last_fails Selects (Above 7) tokens from Expression (Above 7) value_selector (λ w k. k) from value_stage to x

    pub value_tree : (names : List (List ℕ)) (node : ℕ) (p : Part) → ReadsTree Expression 7 tokens names [] from node p → ReadsOfBy selector_seen Selects (Above 7) tokens names from node (record { tree = selector.Value p.expr; end = p.end; node = p.node })
    value_tree names node p x =
        let y : ReadsOfBy expr_seen Expression (Above 7) tokens names from node (as_read p) = expr_read Expression 7 tokens names from node p x in
        record { reads = last_reads Selects (Above 7) tokens from Expression (Above 7) value_selector (λ w k. k) from value_stage p.end (expr_shape names p.expr) y.reads; known = y.known; nodes = y.nodes }
