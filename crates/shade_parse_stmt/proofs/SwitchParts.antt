-- What follows the keyword of a `switch`.
use Rattle.std.proofs.Common.{◌≡◌, refl, ℕ, ◌+◌, ◌≤◌, Some, List, [], ◌++◌, length, arith, slice_get}
use Rattle.shade_base.specs.declared.place.Place.{Place}
use Rattle.shade_ast.specs.declared.attr.Attr.{Attr}
use Rattle.shade_ast.specs.declared.lexeme.Sign.TheVariants as sign
use Rattle.shade_ast.specs.declared.stmt.Clause.{Clause}
use Rattle.shade_ast.specs.Lexemes.{Lexeme, Mark}
use Rattle.shade_ast.specs.Names.{Grows}
use Rattle.shade_ast.specs.Needs.{most_of, attrs_need, expr_needs}
use Rattle.shade_ast.specs.Nodes.{joined_of, attrs_nodes, expr_nodes}
use Rattle.shade_ast.specs.Shapes.{AttrShape, ExprShape, ClauseShapes}
use Rattle.shade_ast.specs.Shaped.{attr_shapes, expr_shape, clause_shapes}
use Rattle.shade_ast.specs.Repeats.{Many}
use Rattle.shade_ast.specs.Expressions.{Expression}
use Rattle.shade_ast.specs.Statements.{Attribute}
use Rattle.shade_ast.specs.Chains.{After, Ends}
use Rattle.shade_ast.proofs.Stages.{Closes, closes_end, closes_after}
use Rattle.shade_ast.proofs.Placed.{some_place}
use Rattle.shade_ast.proofs.ShapeLaws.{grows_trans}
use Rattle.shade_ast.specs.StmtParts.{clause_count, clause_numbers}
use Rattle.shade_cursor.specs.declared.part.Part.{Part}
use Rattle.shade_parse_expr.specs.Parts.{ReadsTree}
use Rattle.shade_parse_expr.proofs.Trees.{count_join}
use Rattle.shade_parse_simple.specs.declared.read.Read.{Read}
use Rattle.shade_parse_simple.specs.Readings.{attrs_seen, ReadsOf, expr_seen}
use Rattle.shade_parse_stmt.specs.Follows.{Above, Anything, Marked, ReadsBy, FailsBy, ReadsOfBy}
use Rattle.shade_parse_stmt.specs.StatementParts.{OneClause, SwitchShape, SwitchRest, clauses_seen, switch_seen}
use Rattle.shade_parse_stmt.proofs.FollowSteps.{Step, begin, phrase, phrase_fails, mark, stuck_mark, marked_stops, closes_marked}
use Rattle.shade_parse_stmt.proofs.StatementFirsts.{brace_stops}
use Rattle.shade_parse_stmt.proofs.Grown.{grown, expr_steady, attrs_steady}
use Rattle.shade_parse_stmt.proofs.Handing.{expr_read, as_read, ranked_read}
use Rattle.shade_parse_stmt.proofs.Closings.{many_closes, closed_fails, closed_open, closed_reads}

abbrev switched : ExprShape → List AttrShape → List (ClauseShapes → ClauseShapes) → Place → SwitchShape
switched e inner l q = record { selector = e; inner = inner; clauses = clause_shapes l; end = q }

-- clauses and a `}`, and what stands before them
abbrev ClausesOf : ExprShape → List AttrShape → SwitchShape → List Lexeme → List Lexeme → Type 0
ClausesOf e inner = After (Many OneClause) (λ l. Marked (Mark sign.CloseBrace) (λ q. Ends (switched e inner l q)))

abbrev BracedOf : ExprShape → List AttrShape → SwitchShape → List Lexeme → List Lexeme → Type 0
BracedOf e inner = Marked (Mark sign.OpenBrace) (λ p. ClausesOf e inner)

abbrev AttrsOf : ExprShape → SwitchShape → List Lexeme → List Lexeme → Type 0
AttrsOf e = After (Many Attribute) (BracedOf e)

clauses_of_closes : (e : ExprShape) (inner : List AttrShape) → Closes (ClausesOf e inner)
clauses_of_closes e inner = closes_after (Many OneClause) (λ l. Marked (Mark sign.CloseBrace) (λ q. Ends (switched e inner l q))) (many_closes OneClause) (λ l. closes_marked (Mark sign.CloseBrace) (λ q. Ends (switched e inner l q)) (closes_end (switched e inner l some_place)))

braced_of_closes : (e : ExprShape) (inner : List AttrShape) → Closes (BracedOf e inner)
braced_of_closes e inner = closes_marked (Mark sign.OpenBrace) (λ p. ClausesOf e inner) (clauses_of_closes e inner)

attrs_of_closes : (e : ExprShape) → Closes (AttrsOf e)
attrs_of_closes e = closes_after (Many Attribute) (BracedOf e) (many_closes Attribute) (braced_of_closes e)

attrs_of_stops : (e : ExprShape) (r : SwitchShape) (zs w : List Lexeme) → AttrsOf e r zs w → Above 7 zs
attrs_of_stops e r zs w k = brace_stops 7 (omega arith) k.part zs k.others k.rest.others k.rest.place k.phrase k.rest.split

braced_of_stops : (e : ExprShape) (inner : List AttrShape) (r : SwitchShape) (zs w : List Lexeme) → BracedOf e inner r zs w → Above 8 zs
braced_of_stops e inner r zs w k = marked_stops (Above 8) (Mark sign.OpenBrace) (λ p. ClausesOf e inner) (λ p ts. omega arith) r zs w k

module _ (tokens : List Lexeme) (from : ℕ) (h : from ≤ length tokens) where
  pub switch_value_fails : (to : ℕ) → FailsBy Expression (Above 7) tokens from to → FailsBy SwitchRest Anything tokens from to
  switch_value_fails to x = phrase_fails SwitchRest Anything tokens from Expression (Above 7) AttrsOf (λ e r zs w stop k. attrs_of_stops e r zs w k) from to attrs_of_closes (begin SwitchRest Anything tokens from h) x

  attrs_stage : (e : ExprShape) (at : ℕ) → ReadsBy Expression (Above 7) tokens from e at → Step SwitchRest Anything tokens from at (AttrsOf e)
  attrs_stage e at x = phrase SwitchRest Anything tokens from Expression (Above 7) AttrsOf (λ e r zs w stop k. attrs_of_stops e r zs w k) from at e (begin SwitchRest Anything tokens from h) x

  brace_stage : (e : ExprShape) (at : ℕ) → ReadsBy Expression (Above 7) tokens from e at → (inner : List AttrShape) (to : ℕ) → ReadsBy (Many Attribute) (Above 8) tokens at inner to → Step SwitchRest Anything tokens from to (BracedOf e inner)
  brace_stage e at x inner to y = phrase SwitchRest Anything tokens from (Many Attribute) (Above 8) (BracedOf e) (λ b r zs w stop k. braced_of_stops e b r zs w k) at to inner (attrs_stage e at x) y

  clauses_stage : (e : ExprShape) (at : ℕ) → ReadsBy Expression (Above 7) tokens from e at → (inner : List AttrShape) (to : ℕ) → ReadsBy (Many Attribute) (Above 8) tokens at inner to →
      (p : Place) → slice_get tokens to ≡ Some (Mark sign.OpenBrace p) → Step SwitchRest Anything tokens from (to + 1) (ClausesOf e inner)
  clauses_stage e at x inner to y p is = mark SwitchRest Anything tokens from (Mark sign.OpenBrace) (λ p. ClausesOf e inner) (λ p. refl) to p is (brace_stage e at x inner to y)

  module _ (first : List (List ℕ)) (node : ℕ) (e : Part) (x : ReadsTree Expression 7 tokens first [] from node e) where
    pub switch_attrs_fails : (to : ℕ) → FailsBy (Many Attribute) (Above 8) tokens e.end to → FailsBy SwitchRest Anything tokens from to
    switch_attrs_fails to y = phrase_fails SwitchRest Anything tokens from (Many Attribute) (Above 8) (BracedOf (expr_shape first e.expr))
        (λ b r zs w stop k. braced_of_stops (expr_shape first e.expr) b r zs w k) e.end to (braced_of_closes (expr_shape first e.expr))
        (attrs_stage (expr_shape first e.expr) e.end (expr_read Expression 7 tokens first from node e x).reads) y

    module _ (mid : List (List ℕ)) (a : Read (List Attr)) (y : ReadsOf attrs_seen (Many Attribute) 8 tokens mid e.end e.node a) where
      pub switch_open : ((p : Place) → slice_get tokens a.end ≡ Some (Mark sign.OpenBrace p) → ⊥) → FailsBy SwitchRest Anything tokens from a.end
      switch_open never =
          stuck_mark SwitchRest Anything tokens from (Mark sign.OpenBrace) (λ p. ClausesOf (expr_shape first e.expr) (attr_shapes mid a.tree)) (clauses_of_closes (expr_shape first e.expr) (attr_shapes mid a.tree)) a.end never
          (brace_stage (expr_shape first e.expr) e.end (expr_read Expression 7 tokens first from node e x).reads (attr_shapes mid a.tree) a.end (ranked_read attrs_seen (Many Attribute) 8 tokens mid e.end e.node a y).reads)

      module _ (p : Place) (is : slice_get tokens a.end ≡ Some (Mark sign.OpenBrace p)) where
        inside : Step SwitchRest Anything tokens from (a.end + 1) (ClausesOf (expr_shape first e.expr) (attr_shapes mid a.tree))
        inside = clauses_stage (expr_shape first e.expr) e.end (expr_read Expression 7 tokens first from node e x).reads (attr_shapes mid a.tree) a.end (ranked_read attrs_seen (Many Attribute) 8 tokens mid e.end e.node a y).reads p is

        pub switch_clauses_fails : (to : ℕ) → FailsBy (Many OneClause) (Above 9) tokens (a.end + 1) to → FailsBy SwitchRest Anything tokens from to
        switch_clauses_fails to z = closed_fails SwitchRest Anything tokens from (Many OneClause) (Above 9) (Mark sign.CloseBrace) (λ q. refl) (λ q ts. omega arith) (switched (expr_shape first e.expr) (attr_shapes mid a.tree)) (a.end + 1) inside to z

        pub switch_end_open : (new : List (List ℕ)) (l : Read (List Clause)) → ReadsOfBy clauses_seen (Many OneClause) (Above 9) tokens new (a.end + 1) a.node l → ((q : Place) → slice_get tokens l.end ≡ Some (Mark sign.CloseBrace q) → ⊥) → FailsBy SwitchRest Anything tokens from l.end
        switch_end_open new l z never = closed_open SwitchRest Anything tokens from (Many OneClause) (Above 9) (Mark sign.CloseBrace) (λ q. refl) (λ q ts. omega arith) (switched (expr_shape first e.expr) (attr_shapes mid a.tree)) (a.end + 1) inside l.end (clauses_seen.shape new l.tree) z.reads never

  pub switch_rest_tree : (first mid new : List (List ℕ)) (node : ℕ) (e : Part) → ReadsTree Expression 7 tokens first [] from node e → Grows first mid → (a : Read (List Attr)) →
      ReadsOf attrs_seen (Many Attribute) 8 tokens mid e.end e.node a → (p : Place) → slice_get tokens a.end ≡ Some (Mark sign.OpenBrace p) → Grows mid new → (l : Read (List Clause)) →
      ReadsOfBy clauses_seen (Many OneClause) (Above 9) tokens new (a.end + 1) a.node l → (q : Place) → slice_get tokens l.end ≡ Some (Mark sign.CloseBrace q) →
      ReadsOfBy switch_seen SwitchRest Anything tokens new from node
      (record { tree = record { selector = e.expr; inner = a.tree; clauses = l.tree; end = q }; end = l.end + 1; node = l.node })
  switch_rest_tree first mid new node e x g a y p is k l z q closes =
      let e_new : ReadsOfBy expr_seen Expression (Above 7) tokens new from node (as_read e) = grown expr_seen expr_steady Expression (Above 7) tokens first new from node (as_read e) (grows_trans first mid new g k) (expr_read Expression 7 tokens first from node e x) in
      let a_new : ReadsOfBy attrs_seen (Many Attribute) (Above 8) tokens new e.end e.node a = grown attrs_seen attrs_steady (Many Attribute) (Above 8) tokens mid new e.end e.node a k (ranked_read attrs_seen (Many Attribute) 8 tokens mid e.end e.node a y) in
      let need_e : expr_needs e.expr ≤ length new = e_new.known in
      let need_a : attrs_need a.tree ≤ length new = a_new.known in
      let need_l : most_of clause_count l.tree ≤ length new = z.known in
      record {
        reads =
            closed_reads SwitchRest Anything tokens from (Many OneClause) (Above 9) (Mark sign.CloseBrace) (λ q. refl) (λ q ts. omega arith) (switched (expr_shape new e.expr) (attr_shapes new a.tree)) (a.end + 1)
            (clauses_stage (expr_shape new e.expr) e.end e_new.reads (attr_shapes new a.tree) a.end a_new.reads p is)
            l.end (clauses_seen.shape new l.tree) z.reads q closes;
        known = omega arith;
        nodes = count_join (expr_nodes e.expr) (attrs_nodes a.tree ++ joined_of clause_numbers l.tree) node e.node l.node e_new.nodes (count_join (attrs_nodes a.tree) (joined_of clause_numbers l.tree) e.node a.node l.node a_new.nodes z.nodes);
      }
