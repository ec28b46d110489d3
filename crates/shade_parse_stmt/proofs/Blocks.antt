-- Blocks, and conditions with a block.
use Rattle.std.proofs.Common.{◌≡◌, refl, sym, ap, ◌∙◌, subst, ℕ, ◌+◌, ◌≤◌, max, Some, List, [], ◌∷◌, ◌++◌, length, map, arith, slice_get}
use Rattle.shade_base.specs.declared.place.Place.{Place}
use Rattle.shade_ast.specs.declared.attr.Attr.{Attr}
use Rattle.shade_ast.specs.declared.lexeme.Sign.TheVariants as sign
use Rattle.shade_ast.specs.declared.stmt.Block.{Block as BlockTree, out-Block}
use Rattle.shade_ast.specs.declared.stmt.Stmt.{Stmt}
use Rattle.shade_ast.specs.Lexemes.{Lexeme, Mark}
use Rattle.shade_ast.specs.Names.{Grows}
use Rattle.shade_ast.specs.Needs.{most_of, attrs_need, expr_needs, block_needs, stmt_needs}
use Rattle.shade_ast.specs.Nodes.{joined_of, attrs_nodes, expr_nodes, block_nodes, stmt_nodes, CountFrom}
use Rattle.shade_ast.specs.Shapes.{AttrShape, first_place, ExprShape, BlockShape, braces, StmtShape}
use Rattle.shade_ast.specs.Shaped.{attr_shapes, expr_shape, block_shape, stmt_shape, stmt_shapes}
use Rattle.shade_ast.specs.Repeats.{Many}
use Rattle.shade_ast.specs.Expressions.{Expression}
use Rattle.shade_ast.specs.Statements.{Attribute, Block, Statement}
use Rattle.shade_ast.specs.Chains.{After, Ends}
use Rattle.shade_ast.proofs.Stages.{Closes, closes_end, closes_after}
use Rattle.shade_ast.proofs.Placed.{some_place}
use Rattle.shade_ast.proofs.StmtLayers.{block_is, block_counts}
use Rattle.shade_ast.proofs.StmtNodes.{block_numbered}
use Rattle.shade_cursor.specs.declared.part.Part.{Part}
use Rattle.shade_parse_expr.specs.Parts.{ReadsTree}
use Rattle.shade_parse_expr.proofs.Trees.{count_join}
use Rattle.shade_parse_simple.specs.declared.read.Read.{Read}
use Rattle.shade_parse_stmt.specs.declared.parts.Body.{Body}
use Rattle.shade_parse_simple.specs.Readings.{attrs_seen, ReadsOf, expr_seen, first_of}
use Rattle.shade_parse_stmt.specs.StatementParts.{block_seen, Braced, Guards, stmts_seen, body_seen, guarded_seen}
use Rattle.shade_parse_stmt.specs.Follows.{Above, Anything, Closing, Marked, ReadsBy, FailsBy, ReadsOfBy}
use Rattle.shade_parse_stmt.proofs.FollowSteps.{Step, begin, change, phrase, phrase_fails, mark, stuck_mark, marked_stops, closes_marked, by_rank, to_rank}
use Rattle.shade_parse_stmt.proofs.StatementFirsts.{block_stops}
use Rattle.shade_parse_stmt.proofs.StatementTrees.{count_last, first_same}
use Rattle.shade_parse_stmt.proofs.Phrasings.{BlockRest, block_there, block_back}
use Rattle.shade_parse_stmt.proofs.Grown.{grown, attrs_steady, expr_steady}
use Rattle.shade_parse_stmt.proofs.Handing.{expr_read, ranked_read, as_read}
use Rattle.shade_parse_stmt.proofs.Closings.{block_closes, many_closes, last_fails, last_reads, closed_fails, closed_open, closed_reads}

-- statements and a `}`
module _ (tokens : List Lexeme) (from : ℕ) (h : from ≤ length tokens) where
  pub braced_fails : (to : ℕ) → FailsBy (Many Statement) Closing tokens from to → FailsBy Braced Anything tokens from to
  braced_fails to x = closed_fails Braced Anything tokens from (Many Statement) Closing (Mark sign.CloseBrace) (λ p. refl) (λ p ts. tt) (λ l q. (l, q)) from (begin Braced Anything tokens from h) to x

  module _ (names : List (List ℕ)) (node : ℕ) (r : Read (List Stmt)) (x : ReadsOfBy stmts_seen (Many Statement) Closing tokens names from node r) where
    pub braced_open : ((q : Place) → slice_get tokens r.end ≡ Some (Mark sign.CloseBrace q) → ⊥) → FailsBy Braced Anything tokens from r.end
    braced_open never = closed_open Braced Anything tokens from (Many Statement) Closing (Mark sign.CloseBrace) (λ p. refl) (λ p ts. tt) (λ l q. (l, q)) from (begin Braced Anything tokens from h) r.end (stmts_seen.shape names r.tree) x.reads never

    pub braced_tree : (q : Place) → slice_get tokens r.end ≡ Some (Mark sign.CloseBrace q) → ReadsOfBy body_seen Braced Anything tokens names from node (record { tree = record { statements = r.tree; end = q }; end = r.end + 1; node = r.node })
    braced_tree q is = record { reads = closed_reads Braced Anything tokens from (Many Statement) Closing (Mark sign.CloseBrace) (λ p. refl) (λ p ts. tt) (λ l q. (l, q)) from (begin Braced Anything tokens from h) r.end (stmts_seen.shape names r.tree) x.reads q is; known = x.known; nodes = x.nodes }

pub braced_closes : Closes Braced
braced_closes = closes_after (Many Statement) (λ l. Marked (Mark sign.CloseBrace) (λ q. Ends (l, q))) (many_closes Statement) (λ l. closes_marked (Mark sign.CloseBrace) (λ q. Ends (l, q)) (closes_end (l, some_place)))

-- the tree of a block
module _ (b : BlockTree) (attrs : List Attr) (place : Place) (body : List Stmt) (end : Place) (node : ℕ) (parts : out-Block b ≡ record { node = node; place = first_of attrs place; attrs = attrs; body = body; end = end }) where
  pub block_shaped_as : (names : List (List ℕ)) → block_shape names b ≡ braces (first_place (attr_shapes names attrs) place) (attr_shapes names attrs) (stmt_shapes (map (stmt_shape names) body)) end
  block_shaped_as names =
      block_is names b
      ∙ ap (λ o. braces o.place (attr_shapes names o.attrs) (stmt_shapes (map (stmt_shape names) o.body)) o.end) parts
      ∙ ap (λ p. braces p (attr_shapes names attrs) (stmt_shapes (map (stmt_shape names) body)) end) (sym (first_same names attrs place))

  pub block_needs_as : block_needs b ≡ max (attrs_need attrs) (most_of stmt_needs body)
  block_needs_as = block_counts b ∙ ap (λ o. max (attrs_need o.attrs) (most_of stmt_needs o.body)) parts

  pub block_nodes_as : block_nodes b ≡ attrs_nodes attrs ++ (joined_of stmt_nodes body ++ node ∷ [])
  block_nodes_as = block_numbered b ∙ ap (λ o. attrs_nodes o.attrs ++ (joined_of stmt_nodes o.body ++ o.node ∷ [])) parts

pub attributed_count : (xs ys : List ℕ) (from at last : ℕ) → CountFrom from xs at → CountFrom at ys last → CountFrom from (xs ++ (ys ++ last ∷ [])) (last + 1)
attributed_count xs ys from at last a b = count_join xs (ys ++ last ∷ []) from at (last + 1) a (count_last ys at last b)

module _ (tokens : List Lexeme) (from : ℕ) (h : from ≤ length tokens) where
  abbrev BodyOf : List AttrShape → BlockShape → List Lexeme → List Lexeme → Type 0
  BodyOf attrs = Marked (Mark sign.OpenBrace) (λ p. After Braced (λ b. Ends (braces (first_place attrs p) attrs (stmt_shapes b.0) b.1)))

  body_of_closes : (attrs : List AttrShape) → Closes (BodyOf attrs)
  body_of_closes attrs = closes_marked (Mark sign.OpenBrace) (λ p. After Braced (λ b. Ends (braces (first_place attrs p) attrs (stmt_shapes b.0) b.1)))
      (closes_after Braced (λ b. Ends (braces (first_place attrs some_place) attrs (stmt_shapes b.0) b.1)) braced_closes
      (λ b. closes_end (braces (first_place attrs some_place) attrs (stmt_shapes b.0) b.1)))

  block_stage : Step Block (Above 0) tokens from from BlockRest
  block_stage = change Block (Above 0) tokens from from Block BlockRest (λ r ys w stop near g. block_there r ys w g) block_back (begin Block (Above 0) tokens from h)

  body_of_stops : (attrs : List AttrShape) (r : BlockShape) (zs w : List Lexeme) → Above 0 w → BodyOf attrs r zs w → Above 8 zs
  body_of_stops attrs r zs w stop c = marked_stops (Above 8) (Mark sign.OpenBrace) (λ p. After Braced (λ b. Ends (braces (first_place attrs p) attrs (stmt_shapes b.0) b.1))) (λ p ts. omega arith) r zs w c

  pub block_attrs_fails : (to : ℕ) → FailsBy (Many Attribute) (Above 8) tokens from to → FailsBy Block (Above 0) tokens from to
  block_attrs_fails to x = phrase_fails Block (Above 0) tokens from (Many Attribute) (Above 8) BodyOf body_of_stops from to body_of_closes block_stage x

  module _ (names : List (List ℕ)) (node : ℕ) (a : Read (List Attr)) (x : ReadsOf attrs_seen (Many Attribute) 8 tokens names from node a) where
    attrs_read : ReadsOfBy attrs_seen (Many Attribute) (Above 8) tokens names from node a
    attrs_read = ranked_read attrs_seen (Many Attribute) 8 tokens names from node a x

    body_of_stage : Step Block (Above 0) tokens from a.end (BodyOf (attr_shapes names a.tree))
    body_of_stage = phrase Block (Above 0) tokens from (Many Attribute) (Above 8) BodyOf body_of_stops from a.end (attr_shapes names a.tree) block_stage attrs_read.reads

    pub block_open : ((p : Place) → slice_get tokens a.end ≡ Some (Mark sign.OpenBrace p) → ⊥) → FailsBy Block (Above 0) tokens from a.end
    block_open never = stuck_mark Block (Above 0) tokens from (Mark sign.OpenBrace)
        (λ p. After Braced (λ b. Ends (braces (first_place (attr_shapes names a.tree) p) (attr_shapes names a.tree) (stmt_shapes b.0) b.1)))
        (closes_after Braced (λ b. Ends (braces (first_place (attr_shapes names a.tree) some_place) (attr_shapes names a.tree) (stmt_shapes b.0) b.1)) braced_closes
        (λ b. closes_end (braces (first_place (attr_shapes names a.tree) some_place) (attr_shapes names a.tree) (stmt_shapes b.0) b.1))) a.end never body_of_stage

    module _ (p : Place) (is : slice_get tokens a.end ≡ Some (Mark sign.OpenBrace p)) where
      inside : Step Block (Above 0) tokens from (a.end + 1) (After Braced (λ b. Ends (braces (first_place (attr_shapes names a.tree) p) (attr_shapes names a.tree) (stmt_shapes b.0) b.1)))
      inside = mark Block (Above 0) tokens from (Mark sign.OpenBrace) (λ p. After Braced (λ b. Ends (braces (first_place (attr_shapes names a.tree) p) (attr_shapes names a.tree) (stmt_shapes b.0) b.1))) (λ p. refl) a.end p is body_of_stage

      pub block_body_fails : (to : ℕ) → FailsBy Braced Anything tokens (a.end + 1) to → FailsBy Block (Above 0) tokens from to
      block_body_fails to y = last_fails Block (Above 0) tokens from Braced Anything (λ b. braces (first_place (attr_shapes names a.tree) p) (attr_shapes names a.tree) (stmt_shapes b.0) b.1) (λ w k. tt) (a.end + 1) inside to y

      block_reads : (b : List StmtShape × Place) (to : ℕ) → ReadsBy Braced Anything tokens (a.end + 1) b to → ReadsBy Block (Above 0) tokens from (braces (first_place (attr_shapes names a.tree) p) (attr_shapes names a.tree) (stmt_shapes b.0) b.1) to
      block_reads b to y = last_reads Block (Above 0) tokens from Braced Anything (λ b. braces (first_place (attr_shapes names a.tree) p) (attr_shapes names a.tree) (stmt_shapes b.0) b.1) (λ w k. tt) (a.end + 1) inside to b y

  pub block_tree : (mid new : List (List ℕ)) (node : ℕ) (a : Read (List Attr)) → ReadsOf attrs_seen (Many Attribute) 8 tokens mid from node a → (p : Place) →
      slice_get tokens a.end ≡ Some (Mark sign.OpenBrace p) → Grows mid new → (b : Read Body) → ReadsOfBy body_seen Braced Anything tokens new (a.end + 1) a.node b → (r : Read BlockTree) →
      out-Block r.tree ≡ record { node = b.node; place = first_of a.tree p; attrs = a.tree; body = b.tree.statements; end = b.tree.end } → r.end ≡ b.end → r.node ≡ b.node + 1 →
      ReadsOf block_seen Block 0 tokens new from node r
  block_tree mid new node a x p is g b y r parts end next =
      let later : ReadsOfBy attrs_seen (Many Attribute) (Above 8) tokens new from node a = grown attrs_seen attrs_steady (Many Attribute) (Above 8) tokens mid new from node a g (ranked_read attrs_seen (Many Attribute) 8 tokens mid from node a x) in
      let back : ReadsOf attrs_seen (Many Attribute) 8 tokens new from node a = record { reads = to_rank (Many Attribute) 8 tokens from (attr_shapes new a.tree) a.end later.reads; known = later.known; nodes = later.nodes } in
      let needs : block_needs r.tree ≡ max (attrs_need a.tree) (most_of stmt_needs b.tree.statements) = block_needs_as r.tree a.tree p b.tree.statements b.tree.end b.node parts in
      record {
        reads = to_rank Block 0 tokens from (block_shape new r.tree) r.end
            (subst (ReadsBy Block (Above 0) tokens from (block_shape new r.tree)) (sym end)
            (subst (λ s. ReadsBy Block (Above 0) tokens from s b.end) (sym (block_shaped_as r.tree a.tree p b.tree.statements b.tree.end b.node parts new))
            (block_reads new node a back p is (body_seen.shape new b.tree) b.end y.reads)));
        known = (let k : attrs_need a.tree ≤ length new = later.known in let l : most_of stmt_needs b.tree.statements ≤ length new = y.known in omega arith);
        nodes = subst (CountFrom node (block_nodes r.tree)) (sym next)
            (subst (λ l. CountFrom node l (b.node + 1)) (sym (block_nodes_as r.tree a.tree p b.tree.statements b.tree.end b.node parts))
            (attributed_count (attrs_nodes a.tree) (joined_of stmt_nodes b.tree.statements) node a.node b.node later.nodes y.nodes));
      }

  -- a condition and a block
  abbrev GuardBody : ExprShape → ExprShape × BlockShape → List Lexeme → List Lexeme → Type 0
  GuardBody e = After Block (λ b. Ends (e, b))

  guard_stops : (e : ExprShape) (r : ExprShape × BlockShape) (zs w : List Lexeme) → Above 0 w → GuardBody e r zs w → Above 7 zs
  guard_stops e r zs w stop c = block_stops 7 (omega arith) c.part zs c.others c.phrase

  pub guard_fails : (to : ℕ) → FailsBy Expression (Above 7) tokens from to → FailsBy Guards (Above 0) tokens from to
  guard_fails to x = phrase_fails Guards (Above 0) tokens from Expression (Above 7) GuardBody guard_stops from to (λ e. closes_after Block (λ b. Ends (e, b)) block_closes (λ b. closes_end (e, b))) (begin Guards (Above 0) tokens from h) x

  guard_stage : (e : ExprShape) (at : ℕ) → ReadsBy Expression (Above 7) tokens from e at → Step Guards (Above 0) tokens from at (GuardBody e)
  guard_stage e at x = phrase Guards (Above 0) tokens from Expression (Above 7) GuardBody guard_stops from at e (begin Guards (Above 0) tokens from h) x

  pub guard_body_fails : (names : List (List ℕ)) (node : ℕ) (e : Part) → ReadsTree Expression 7 tokens names [] from node e → (to : ℕ) → FailsBy Block (Above 0) tokens e.end to → FailsBy Guards (Above 0) tokens from to
  guard_body_fails names node e x to y = last_fails Guards (Above 0) tokens from Block (Above 0) (λ b. (expr_shape names e.expr, b)) (λ w k. k) e.end (guard_stage (expr_shape names e.expr) e.end (expr_read Expression 7 tokens names from node e x).reads) to y

  pub guard_tree : (mid new : List (List ℕ)) (node : ℕ) (e : Part) → ReadsTree Expression 7 tokens mid [] from node e → Grows mid new → (b : Read BlockTree) →
      ReadsOf block_seen Block 0 tokens new e.end e.node b →
      ReadsOfBy guarded_seen Guards (Above 0) tokens new from node (record { tree = record { condition = e.expr; body = b.tree }; end = b.end; node = b.node })
  guard_tree mid new node e x g b y =
      let later : ReadsOfBy expr_seen Expression (Above 7) tokens new from node (as_read e) = grown expr_seen expr_steady Expression (Above 7) tokens mid new from node (as_read e) g (expr_read Expression 7 tokens mid from node e x) in
      record {
        reads = last_reads Guards (Above 0) tokens from Block (Above 0) (λ b. (expr_shape new e.expr, b)) (λ w k. k) e.end (guard_stage (expr_shape new e.expr) e.end later.reads) b.end (block_shape new b.tree) (by_rank Block 0 tokens e.end (block_shape new b.tree) b.end y.reads);
        known = (let k : expr_needs e.expr ≤ length new = later.known in let l : block_needs b.tree ≤ length new = y.known in omega arith);
        nodes = count_join (expr_nodes e.expr) (block_nodes b.tree) node e.node b.node later.nodes y.nodes;
      }
