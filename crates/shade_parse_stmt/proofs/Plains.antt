-- Statements that hold no others.
use Rattle.std.proofs.Common.{◌≡◌, refl, sym, ap, ◌∙◌, subst, ℕ, ◌+◌, ◌≤◌, None, Some, List, [], ◌∷◌, length, arith, slice_get}
use Rattle.shade_base.specs.declared.place.Place.{Place}
use Rattle.shade_ast.specs.declared.lexeme.Sign.TheVariants as sign
use Rattle.shade_ast.specs.declared.expr.Expr.{Expr}
use Rattle.shade_ast.specs.declared.stmt.Simple.{Simple}
use Rattle.shade_ast.specs.declared.stmt.Stmt.{Stmt}
use Rattle.shade_ast.specs.declared.stmt.StmtKind.TheVariants as kind
use Rattle.shade_ast.specs.declared.stmt.Update.{Update}
use Rattle.shade_ast.specs.Lexemes.{Lexeme, Mark}
use Rattle.shade_ast.specs.Shapes.{ExprShape, SimpleShape, UpdateShape, simple_place, simple_stmt}
use Rattle.shade_ast.specs.Shaped.{simple_shape}
use Rattle.shade_ast.specs.Needs.{simple_needs}
use Rattle.shade_ast.specs.Nodes.{simple_nodes}
use Rattle.shade_ast.proofs.StmtLayers.{shape-Simple, needs-Simple}
use Rattle.shade_ast.proofs.StmtNodes.{nodes-Simple}
use Rattle.shade_parse_stmt.specs.Trees.{simple_first}
use Rattle.shade_parse_stmt.proofs.StatementTrees.{statement_tree, simple_place_same}
use Rattle.shade_ast.specs.Expressions.{Expression}
use Rattle.shade_ast.specs.Statements.{SimpleStatement, UpdateOf}
use Rattle.shade_ast.proofs.Firsts.{BeginsExpr, first_is, expression_first}
use Rattle.shade_cursor.specs.declared.part.Part.{Part}
use Rattle.shade_parse_expr.specs.Parts.{ReadsTree}
use Rattle.shade_parse_simple.specs.declared.read.Read.{Read}
use Rattle.shade_parse_simple.specs.Readings.{ReadsOf, simple_seen, update_seen, expr_seen}
use Rattle.shade_parse_stmt.specs.StatementParts.{stmt_seen, UntilValue, UntilSimple, UntilUpdate, ValueEnd, Leaves, SimpleEnd, value_seen, maybe_simple_seen, maybe_update_seen, leave_seen}
use Rattle.shade_parse_stmt.specs.Follows.{Above, Anything, FailsBy, ReadsOfBy}
use Rattle.shade_parse_stmt.proofs.FollowSteps.{begin}
use Rattle.shade_parse_stmt.proofs.Handing.{expr_read, ranked_read, as_read, as_before}
use Rattle.shade_parse_stmt.proofs.StatementFirsts.{BeginsSimple, BeginsUpdate, simple_first as simple_begins, update_first}
use Rattle.shade_parse_stmt.proofs.Closings.{closed_fails, closed_open, closed_reads, until_fails, until_open, none_tree, some_tree}

no_value : (e : ExprShape) (p : Place) (ts w : List Lexeme) → Expression e (Mark sign.Semicolon p ∷ ts) w → ⊥
no_value e p ts w g = first_is BeginsExpr (Mark sign.Semicolon p) ts (expression_first e (Mark sign.Semicolon p ∷ ts) w g)

no_simple : (s : SimpleShape) (p : Place) (ts w : List Lexeme) → SimpleStatement s (Mark sign.Semicolon p ∷ ts) w → ⊥
no_simple s p ts w g = first_is BeginsSimple (Mark sign.Semicolon p) ts (simple_begins s (Mark sign.Semicolon p ∷ ts) w g)

no_update : (u : UpdateShape) (p : Place) (ts w : List Lexeme) → UpdateOf u (Mark sign.Close p ∷ ts) w → ⊥
no_update u p ts w g = first_is BeginsUpdate (Mark sign.Close p) ts (update_first u (Mark sign.Close p ∷ ts) w g)

module _ (tokens : List Lexeme) (from : ℕ) (h : from ≤ length tokens) where
  -- an expression and a `;`
  pub value_end_fails : (to : ℕ) → FailsBy Expression (Above 7) tokens from to → FailsBy ValueEnd Anything tokens from to
  value_end_fails to x = closed_fails ValueEnd Anything tokens from Expression (Above 7) (Mark sign.Semicolon) (λ p. refl) (λ p ts. omega arith) (λ b p. b) from (begin ValueEnd Anything tokens from h) to x

  module _ (names : List (List ℕ)) (node : ℕ) (p : Part) (x : ReadsTree Expression 7 tokens names [] from node p) where
    value_read : ReadsOfBy expr_seen Expression (Above 7) tokens names from node (as_read p)
    value_read = expr_read Expression 7 tokens names from node p x

    pub value_end_open : ((q : Place) → slice_get tokens p.end ≡ Some (Mark sign.Semicolon q) → ⊥) → FailsBy ValueEnd Anything tokens from p.end
    value_end_open never = closed_open ValueEnd Anything tokens from Expression (Above 7) (Mark sign.Semicolon) (λ p. refl) (λ p ts. omega arith) (λ b p. b) from (begin ValueEnd Anything tokens from h) p.end (expr_seen.shape names p.expr) value_read.reads never

    pub value_end_tree : (q : Place) → slice_get tokens p.end ≡ Some (Mark sign.Semicolon q) → ReadsOfBy expr_seen ValueEnd Anything tokens names from node (record { tree = p.expr; end = p.end + 1; node = p.node })
    value_end_tree q is = record {
      reads = closed_reads ValueEnd Anything tokens from Expression (Above 7) (Mark sign.Semicolon) (λ p. refl) (λ p ts. omega arith) (λ b p. b) from
          (begin ValueEnd Anything tokens from h) p.end (expr_seen.shape names p.expr) value_read.reads q is;
      known = value_read.known;
      nodes = value_read.nodes;
    }

    pub value_open : ((q : Place) → slice_get tokens from ≡ Some (Mark sign.Semicolon q) → ⊥) → ((q : Place) → slice_get tokens p.end ≡ Some (Mark sign.Semicolon q) → ⊥) → FailsBy UntilValue Anything tokens from p.end
    value_open never isnt = until_open (Mark sign.Semicolon) (λ p. refl) Expression (Above 7) (λ p ts. omega arith) no_value Anything tokens from h never p.end (expr_seen.shape names p.expr) value_read.reads isnt

    pub value_some : ((q : Place) → slice_get tokens from ≡ Some (Mark sign.Semicolon q) → ⊥) → (q : Place) → slice_get tokens p.end ≡ Some (Mark sign.Semicolon q) → ReadsOfBy value_seen UntilValue Anything tokens names from node (record { tree = Some p.expr; end = p.end + 1; node = p.node })
    value_some never q is = some_tree (Mark sign.Semicolon) (λ p. refl) Expression (Above 7) (λ p ts. omega arith) no_value Anything tokens from h expr_seen names node never (as_read p) value_read q is

  -- an expression, if one stands there, and a `;`
  pub value_fails : ((q : Place) → slice_get tokens from ≡ Some (Mark sign.Semicolon q) → ⊥) → (to : ℕ) → FailsBy Expression (Above 7) tokens from to → FailsBy UntilValue Anything tokens from to
  value_fails never to x = until_fails (Mark sign.Semicolon) (λ p. refl) Expression (Above 7) (λ p ts. omega arith) no_value Anything tokens from h never to x

  pub value_none : (names : List (List ℕ)) (node : ℕ) (q : Place) → slice_get tokens from ≡ Some (Mark sign.Semicolon q) → ReadsOfBy value_seen UntilValue Anything tokens names from node (record { tree = None; end = from + 1; node = node })
  value_none names node q is = none_tree (Mark sign.Semicolon) (λ p. refl) Expression (Above 7) (λ p ts. omega arith) no_value Anything tokens from h expr_seen names node q is

-- a simple statement or an update, if one stands there, and a mark
module _ (tokens : List Lexeme) (from : ℕ) (h : from ≤ length tokens) where
  pub no_simple_tree : (names : List (List ℕ)) (node : ℕ) (q : Place) → slice_get tokens from ≡ Some (Mark sign.Semicolon q) → ReadsOfBy maybe_simple_seen UntilSimple Anything tokens names from node (record { tree = None; end = from + 1; node = node })
  no_simple_tree names node q is = none_tree (Mark sign.Semicolon) (λ p. refl) SimpleStatement (Above 8) (λ p ts. omega arith) no_simple Anything tokens from h simple_seen names node q is

  pub no_update_tree : (names : List (List ℕ)) (node : ℕ) (q : Place) → slice_get tokens from ≡ Some (Mark sign.Close q) → ReadsOfBy maybe_update_seen UntilUpdate Anything tokens names from node (record { tree = None; end = from + 1; node = node })
  no_update_tree names node q is = none_tree (Mark sign.Close) (λ p. refl) UpdateOf (Above 7) (λ p ts. omega arith) no_update Anything tokens from h update_seen names node q is

  module _ (never : ((q : Place) → slice_get tokens from ≡ Some (Mark sign.Semicolon q) → ⊥)) where
    pub maybe_simple_fails : (to : ℕ) → FailsBy SimpleStatement (Above 8) tokens from to → FailsBy UntilSimple Anything tokens from to
    maybe_simple_fails to x = until_fails (Mark sign.Semicolon) (λ p. refl) SimpleStatement (Above 8) (λ p ts. omega arith) no_simple Anything tokens from h never to x

    module _ (names : List (List ℕ)) (node : ℕ) (r : Read Simple) (x : ReadsOf simple_seen SimpleStatement 8 tokens names from node r) where
      simple_read : ReadsOfBy simple_seen SimpleStatement (Above 8) tokens names from node r
      simple_read = ranked_read simple_seen SimpleStatement 8 tokens names from node r x

      pub maybe_simple_open : ((q : Place) → slice_get tokens r.end ≡ Some (Mark sign.Semicolon q) → ⊥) → FailsBy UntilSimple Anything tokens from r.end
      maybe_simple_open isnt = until_open (Mark sign.Semicolon) (λ p. refl) SimpleStatement (Above 8) (λ p ts. omega arith) no_simple Anything tokens from h never r.end (simple_seen.shape names r.tree) simple_read.reads isnt

      pub some_simple_tree : (q : Place) → slice_get tokens r.end ≡ Some (Mark sign.Semicolon q) → (whole : Read Simple) → whole.tree ≡ r.tree → whole.end ≡ r.end + 1 → whole.node ≡ r.node →
          ReadsOfBy maybe_simple_seen UntilSimple Anything tokens names from node (record { tree = Some whole.tree; end = whole.end; node = whole.node })
      some_simple_tree q is whole tree end next = subst
          (λ y. ReadsOfBy maybe_simple_seen UntilSimple Anything tokens names from node (record { tree = Some y.tree; end = y.end; node = y.node })) (sym (as_before r whole tree end next))
          (some_tree (Mark sign.Semicolon) (λ p. refl) SimpleStatement (Above 8) (λ p ts. omega arith) no_simple Anything tokens from h simple_seen names node never r simple_read q is)

  module _ (never : ((q : Place) → slice_get tokens from ≡ Some (Mark sign.Close q) → ⊥)) where
    pub maybe_update_fails : (to : ℕ) → FailsBy UpdateOf (Above 7) tokens from to → FailsBy UntilUpdate Anything tokens from to
    maybe_update_fails to x = until_fails (Mark sign.Close) (λ p. refl) UpdateOf (Above 7) (λ p ts. omega arith) no_update Anything tokens from h never to x

    module _ (names : List (List ℕ)) (node : ℕ) (r : Read Update) (x : ReadsOf update_seen UpdateOf 7 tokens names from node r) where
      update_read : ReadsOfBy update_seen UpdateOf (Above 7) tokens names from node r
      update_read = ranked_read update_seen UpdateOf 7 tokens names from node r x

      pub maybe_update_open : ((q : Place) → slice_get tokens r.end ≡ Some (Mark sign.Close q) → ⊥) → FailsBy UntilUpdate Anything tokens from r.end
      maybe_update_open isnt = until_open (Mark sign.Close) (λ p. refl) UpdateOf (Above 7) (λ p ts. omega arith) no_update Anything tokens from h never r.end (update_seen.shape names r.tree) update_read.reads isnt

      pub some_update_tree : (q : Place) → slice_get tokens r.end ≡ Some (Mark sign.Close q) → (whole : Read Update) → whole.tree ≡ r.tree → whole.end ≡ r.end + 1 → whole.node ≡ r.node →
          ReadsOfBy maybe_update_seen UntilUpdate Anything tokens names from node (record { tree = Some whole.tree; end = whole.end; node = whole.node })
      some_update_tree q is whole tree end next = subst
          (λ y. ReadsOfBy maybe_update_seen UntilUpdate Anything tokens names from node (record { tree = Some y.tree; end = y.end; node = y.node })) (sym (as_before r whole tree end next))
          (some_tree (Mark sign.Close) (λ p. refl) UpdateOf (Above 7) (λ p ts. omega arith) no_update Anything tokens from h update_seen names node never r update_read q is)

  -- an expression, a `;` and a `}`
  pub leave_fails : (to : ℕ) → FailsBy ValueEnd Anything tokens from to → FailsBy Leaves Anything tokens from to
  leave_fails to x = closed_fails Leaves Anything tokens from ValueEnd Anything (Mark sign.CloseBrace) (λ p. refl) (λ p ts. tt) (λ e q. (e, q)) from (begin Leaves Anything tokens from h) to x

  module _ (names : List (List ℕ)) (node : ℕ) (r : Read Expr) (x : ReadsOfBy expr_seen ValueEnd Anything tokens names from node r) where
    pub leave_open : ((q : Place) → slice_get tokens r.end ≡ Some (Mark sign.CloseBrace q) → ⊥) → FailsBy Leaves Anything tokens from r.end
    leave_open never = closed_open Leaves Anything tokens from ValueEnd Anything (Mark sign.CloseBrace) (λ p. refl) (λ p ts. tt) (λ e q. (e, q)) from (begin Leaves Anything tokens from h) r.end (expr_seen.shape names r.tree) x.reads never

    pub leave_tree : (q : Place) → slice_get tokens r.end ≡ Some (Mark sign.CloseBrace q) → ReadsOfBy leave_seen Leaves Anything tokens names from node (record { tree = record { condition = r.tree; end = q }; end = r.end + 1; node = r.node })
    leave_tree q is = record { reads = closed_reads Leaves Anything tokens from ValueEnd Anything (Mark sign.CloseBrace) (λ p. refl) (λ p ts. tt) (λ e q. (e, q)) from (begin Leaves Anything tokens from h) r.end (expr_seen.shape names r.tree) x.reads q is; known = x.known; nodes = x.nodes }

  -- a simple statement and a `;`
  pub simple_end_fails : (to : ℕ) → FailsBy SimpleStatement (Above 8) tokens from to → FailsBy SimpleEnd Anything tokens from to
  simple_end_fails to x = closed_fails SimpleEnd Anything tokens from SimpleStatement (Above 8) (Mark sign.Semicolon) (λ p. refl) (λ p ts. omega arith) (λ s p. simple_stmt (simple_place s) s) from (begin SimpleEnd Anything tokens from h) to x

  module _ (names : List (List ℕ)) (node : ℕ) (r : Read Simple) (x : ReadsOf simple_seen SimpleStatement 8 tokens names from node r) where
    simple_part : ReadsOfBy simple_seen SimpleStatement (Above 8) tokens names from node r
    simple_part = ranked_read simple_seen SimpleStatement 8 tokens names from node r x

    pub simple_end_open : ((q : Place) → slice_get tokens r.end ≡ Some (Mark sign.Semicolon q) → ⊥) → FailsBy SimpleEnd Anything tokens from r.end
    simple_end_open never = closed_open SimpleEnd Anything tokens from SimpleStatement (Above 8) (Mark sign.Semicolon) (λ p. refl) (λ p ts. omega arith)
        (λ s p. simple_stmt (simple_place s) s) from (begin SimpleEnd Anything tokens from h) r.end (simple_seen.shape names r.tree) simple_part.reads never

    pub simple_end_tree : (q : Place) → slice_get tokens r.end ≡ Some (Mark sign.Semicolon q) → (whole : Read Simple) → whole.tree ≡ r.tree → whole.end ≡ r.end + 1 → whole.node ≡ r.node →
        (place : Place) → place ≡ simple_first whole.tree → (s : Read Stmt) →
        s ≡ record { tree = record { node = whole.node; place = place; kind = kind.Simple whole.tree }; end = whole.end; node = whole.node + 1 } →
        ReadsOfBy stmt_seen SimpleEnd Anything tokens names from node s
    simple_end_tree q is whole tree end next place first s same =
        subst (ReadsOfBy stmt_seen SimpleEnd Anything tokens names from node) (sym (same ∙ ap (λ y. record { tree = record { node = whole.node; place = y; kind = kind.Simple whole.tree }; end = whole.end; node = whole.node + 1 }) first))
        (subst (λ y. ReadsOfBy stmt_seen SimpleEnd Anything tokens names from node (record { tree = record { node = y.node; place = simple_first y.tree; kind = kind.Simple y.tree }; end = y.end; node = y.node + 1 })) (sym (as_before r whole tree end next))
        (statement_tree SimpleEnd Anything tokens names from node (kind.Simple r.tree) (simple_first r.tree) (r.end + 1) r.node (simple_stmt (simple_place (simple_shape names r.tree)) (simple_shape names r.tree)) (simple_needs r.tree) (simple_nodes r.tree)
        (shape-Simple names (simple_first r.tree) r.tree ∙ ap (λ y. simple_stmt y (simple_shape names r.tree)) (sym (simple_place_same names r.tree)))
        (needs-Simple r.tree) x.known (nodes-Simple r.tree) x.nodes
        (closed_reads SimpleEnd Anything tokens from SimpleStatement (Above 8) (Mark sign.Semicolon) (λ p. refl) (λ p ts. omega arith) (λ s p. simple_stmt (simple_place s) s) from (begin SimpleEnd Anything tokens from h) r.end (simple_seen.shape names r.tree) simple_part.reads q is)))
