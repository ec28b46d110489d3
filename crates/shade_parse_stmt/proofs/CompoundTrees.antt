-- Trees of statements that attributes may stand before.
use Rattle.std.proofs.Common.{◌≡◌, refl, sym, ap, ◌∙◌, subst, ℕ, ◌+◌, ◌≤◌, max, Option, Some, List, [], ◌∷◌, ◌++◌, length, map, arith, append_assoc, slice_get}
use Rattle.std.specs.Prelude.{option_map}
use Rattle.shade_base.specs.declared.place.Place.{Place}
use Rattle.shade_ast.specs.declared.attr.Attr.{Attr}
use Rattle.shade_ast.specs.declared.lexeme.Keyword.TheVariants as word
use Rattle.shade_ast.specs.declared.lexeme.Sign.TheVariants as sign
use Rattle.shade_ast.specs.declared.stmt.Stmt.{Stmt}
use Rattle.shade_ast.specs.declared.stmt.StmtKind.TheVariants as kind
use Rattle.shade_ast.specs.Lexemes.{Lexeme, Key, Mark}
use Rattle.shade_ast.specs.Names.{Grows}
use Rattle.shade_ast.specs.Needs.{most_of, attrs_need, stmt_needs, block_needs, expr_needs, simple_needs, update_needs, maybe_of as maybe_needs}
use Rattle.shade_ast.specs.Nodes.{joined_of, attrs_nodes, stmt_nodes, block_nodes, expr_nodes, simple_nodes, update_nodes, CountFrom, maybe_of as maybe_nodes}
use Rattle.shade_ast.specs.Shapes.{AttrShape, first_place, ExprShape, BlockShape, braces, StmtShape, ArmShapes, block_stmt, if_stmt, switch_stmt, loop_stmt, for_stmt, while_stmt}
use Rattle.shade_ast.specs.Shaped.{attr_shapes, block_shape, stmt_shape, stmt_shapes, expr_shape, clause_shapes, maybe_continuing, simple_shape, update_shape, arm_shapes}
use Rattle.shade_ast.specs.Repeats.{Many, no_more, more, Maybe, absent, present}
use Rattle.shade_ast.specs.Statements.{Attribute}
use Rattle.shade_ast.specs.Chains.{After, Ends}
use Rattle.shade_ast.proofs.Stages.{Closes, closes_end, closes_after}
use Rattle.shade_ast.specs.StmtParts.{clause_shaped, continuing_shaped}
use Rattle.shade_ast.proofs.StmtLayers.{shape-Block, shape-If, shape-Switch, shape-Loop, shape-For, shape-While, needs-Block, needs-If, needs-Switch, needs-Loop, needs-For, needs-While}
use Rattle.shade_ast.proofs.StmtNodes.{nodes-Block, nodes-If, nodes-Switch, nodes-Loop, nodes-For, nodes-While}
use Rattle.shade_parse_expr.proofs.Trees.{count_join}
use Rattle.shade_parse_simple.specs.declared.read.Read.{Read}
use Rattle.shade_parse_stmt.specs.declared.parts.Body.{Body}
use Rattle.shade_parse_stmt.specs.declared.parts.Branches.{Branches}
use Rattle.shade_parse_stmt.specs.declared.parts.ForParts.{ForParts}
use Rattle.shade_parse_stmt.specs.declared.parts.Guarded.{Guarded}
use Rattle.shade_parse_stmt.specs.declared.parts.LoopParts.{LoopParts}
use Rattle.shade_parse_stmt.specs.declared.parts.SwitchParts.{SwitchParts}
use Rattle.shade_parse_simple.specs.Readings.{attrs_seen, ReadsOf, first_of}
use Rattle.shade_parse_stmt.specs.StatementParts.{stmt_seen, Braced, Guards, AllArms, ArmsEnd, OneArm, LastArm, ForRest, SwitchRest, LoopRest, Compound, body_seen, guarded_seen, branches_seen, for_seen, switch_seen, loop_seen}
use Rattle.shade_parse_stmt.specs.Follows.{Above, Anything, Free, ReadsBy, FailsBy, ReadsOfBy}
use Rattle.shade_parse_stmt.specs.Trees.{IsBlockStatement}
use Rattle.shade_parse_stmt.proofs.FollowSteps.{Step, phrase, phrase_fails}
use Rattle.shade_parse_stmt.proofs.StatementFirsts.{free_above}
use Rattle.shade_parse_stmt.proofs.StatementTrees.{statement_tree, first_same}
use Rattle.shade_parse_stmt.proofs.Grown.{grown, guarded_steady}
use Rattle.shade_parse_stmt.proofs.Blocks.{block_shaped_as, block_needs_as, block_nodes_as, attributed_count}
use Rattle.shade_parse_stmt.proofs.Closings.{many_closes, maybe_closes, last_fails, last_reads}
use Rattle.shade_parse_stmt.proofs.Compounds.{head_stage, attrs_later, one_fails, one_tree}

-- what may begin what follows the first block of an `if`
pub last_above : (o : Option ArmShapes) (ys us w : List Lexeme) → Maybe LastArm o ys us → us ≡ w → Free w → Above 0 ys
last_above o ys us w absent e stop = subst (Above 0) (sym e) (free_above w stop)
last_above o ys us w (present g) e stop = subst (Above 0) (sym g.split) (omega arith)

arms_above : (l : List (ArmShapes → ArmShapes)) (o : Option ArmShapes) (ys us vs w : List Lexeme) → Many OneArm l ys us → Maybe LastArm o us vs → vs ≡ w → Free w → Above 0 ys
arms_above l o ys us vs w no_more m e stop = last_above o ys vs w m e stop
arms_above l o ys us vs w (more g k) m e stop = subst (Above 0) (sym g.split) (omega arith)

all_arms_above : (a : ArmShapes) (ys us w : List Lexeme) → AllArms a ys us → us ≡ w → Free w → Above 0 ys
all_arms_above a ys us w k e stop = arms_above k.part k.rest.part ys k.others k.rest.others w k.phrase k.rest.phrase (k.rest.rest.left ∙ e) stop

pub arms_end_closes : (l : List (ArmShapes → ArmShapes)) → Closes (ArmsEnd l)
arms_end_closes l = closes_after (Maybe LastArm) (λ o. Ends (arm_shapes l o)) (maybe_closes LastArm) (λ o. closes_end (arm_shapes l o))

all_arms_closes : Closes AllArms
all_arms_closes = closes_after (Many OneArm) ArmsEnd (many_closes OneArm) arms_end_closes

module _ (tokens : List Lexeme) (from : ℕ) (h : from ≤ length tokens) where
  -- a block
  pub in_block_fails : (names : List (List ℕ)) (node : ℕ) (a : Read (List Attr)) → ReadsOf attrs_seen (Many Attribute) 8 tokens names from node a → (p : Place) →
      slice_get tokens a.end ≡ Some (Mark sign.OpenBrace p) → (to : ℕ) → FailsBy Braced Anything tokens (a.end + 1) to → FailsBy Compound Free tokens from to
  in_block_fails names node a x p is to y = one_fails tokens from h body_seen Braced Anything (λ w k. tt) (Mark sign.OpenBrace p) (λ attrs b. block_stmt (first_place attrs p) (braces (first_place attrs p) attrs (stmt_shapes b.0) b.1)) (λ attrs. refl) names node a x is to y

  pub in_block_tree : (mid new : List (List ℕ)) (node : ℕ) (a : Read (List Attr)) → ReadsOf attrs_seen (Many Attribute) 8 tokens mid from node a → (p : Place) →
      slice_get tokens a.end ≡ Some (Mark sign.OpenBrace p) → Grows mid new → (b : Read Body) → ReadsOfBy body_seen Braced Anything tokens new (a.end + 1) a.node b → (s : Read Stmt) →
      IsBlockStatement a.tree p b.tree b.node s.tree → s.end ≡ b.end → s.node ≡ b.node + 2 → ReadsOfBy stmt_seen Compound Free tokens new from node s
  in_block_tree mid new node a x p is g b y s k end next =
      let far : b.node + 2 ≡ b.node + 1 + 1 = omega arith in
      one_tree tokens from h body_seen Braced Anything (λ w k. tt) (Mark sign.OpenBrace p)
      (λ attrs b. block_stmt (first_place attrs p) (braces (first_place attrs p) attrs (stmt_shapes b.0) b.1)) (λ attrs. refl) (kind.Block k.block) (first_of a.tree p) mid new node a x
      is g b y (max (attrs_need a.tree) (most_of stmt_needs b.tree.statements)) (attrs_nodes a.tree ++ (joined_of stmt_nodes b.tree.statements ++ b.node ∷ [])) (b.node + 1)
      (shape-Block new (first_of a.tree p) k.block
      ∙ (λ i. block_stmt (sym (first_same new a.tree p) i) (block_shaped_as k.block a.tree p b.tree.statements b.tree.end b.node k.parts new i)))
      (needs-Block k.block ∙ block_needs_as k.block a.tree p b.tree.statements b.tree.end b.node k.parts)
      (λ m n. omega arith)
      (nodes-Block k.block ∙ block_nodes_as k.block a.tree p b.tree.statements b.tree.end b.node k.parts)
      (λ c d. attributed_count (attrs_nodes a.tree) (joined_of stmt_nodes b.tree.statements) node a.node b.node c d)
      s
      (λ i. record { tree = k.whole i; end = end i; node = (next ∙ far) i })

  -- a `while`
  pub while_fails : (names : List (List ℕ)) (node : ℕ) (a : Read (List Attr)) → ReadsOf attrs_seen (Many Attribute) 8 tokens names from node a → (p : Place) →
      slice_get tokens a.end ≡ Some (Key word.While p) → (to : ℕ) → FailsBy Guards (Above 0) tokens (a.end + 1) to → FailsBy Compound Free tokens from to
  while_fails names node a x p is to y = one_fails tokens from h guarded_seen Guards (Above 0) free_above (Key word.While p) (λ attrs g. while_stmt (first_place attrs p) attrs p g.0 g.1) (λ attrs. refl) names node a x is to y

  pub while_tree : (mid new : List (List ℕ)) (node : ℕ) (a : Read (List Attr)) → ReadsOf attrs_seen (Many Attribute) 8 tokens mid from node a → (p : Place) →
      slice_get tokens a.end ≡ Some (Key word.While p) → Grows mid new → (b : Read Guarded) → ReadsOfBy guarded_seen Guards (Above 0) tokens new (a.end + 1) a.node b → (s : Read Stmt) →
      s ≡ record { tree = record { node = b.node; place = first_of a.tree p; kind = kind.While a.tree p b.tree.condition b.tree.body }; end = b.end; node = b.node + 1 } →
      ReadsOfBy stmt_seen Compound Free tokens new from node s
  while_tree mid new node a x p is g b y s same =
      one_tree tokens from h guarded_seen Guards (Above 0) free_above (Key word.While p) (λ attrs g. while_stmt (first_place attrs p) attrs p g.0 g.1) (λ attrs. refl)
      (kind.While a.tree p b.tree.condition b.tree.body) (first_of a.tree p) mid new node a x is g b y (max (attrs_need a.tree) (guarded_seen.needs b.tree))
      (attrs_nodes a.tree ++ guarded_seen.nodes b.tree) b.node
      (shape-While new (first_of a.tree p) a.tree p b.tree.condition b.tree.body ∙ ap (λ q. while_stmt q (attr_shapes new a.tree) p (expr_shape new b.tree.condition) (block_shape new b.tree.body)) (sym (first_same new a.tree p)))
      (needs-While a.tree p b.tree.condition b.tree.body)
      (λ m n. omega arith)
      (nodes-While a.tree p b.tree.condition b.tree.body)
      (λ c d. count_join (attrs_nodes a.tree) (guarded_seen.nodes b.tree) node a.node b.node c d)
      s same

  -- a `switch`
  pub switch_fails : (names : List (List ℕ)) (node : ℕ) (a : Read (List Attr)) → ReadsOf attrs_seen (Many Attribute) 8 tokens names from node a → (p : Place) →
      slice_get tokens a.end ≡ Some (Key word.Switch p) → (to : ℕ) → FailsBy SwitchRest Anything tokens (a.end + 1) to → FailsBy Compound Free tokens from to
  switch_fails names node a x p is to y = one_fails tokens from h switch_seen SwitchRest Anything (λ w k. tt) (Key word.Switch p) (λ attrs s. switch_stmt (first_place attrs p) attrs p s.selector s.inner s.clauses s.end) (λ attrs. refl) names node a x is to y

  pub switch_tree : (mid new : List (List ℕ)) (node : ℕ) (a : Read (List Attr)) → ReadsOf attrs_seen (Many Attribute) 8 tokens mid from node a → (p : Place) →
      slice_get tokens a.end ≡ Some (Key word.Switch p) → Grows mid new → (b : Read SwitchParts) → ReadsOfBy switch_seen SwitchRest Anything tokens new (a.end + 1) a.node b →
      (s : Read Stmt) →
      s ≡ record
      { tree = record { node = b.node; place = first_of a.tree p; kind = kind.Switch a.tree p b.tree.selector b.tree.inner b.tree.clauses b.tree.end }; end = b.end; node = b.node + 1 } →
      ReadsOfBy stmt_seen Compound Free tokens new from node s
  switch_tree mid new node a x p is g b y s same =
      one_tree tokens from h switch_seen SwitchRest Anything (λ w k. tt) (Key word.Switch p) (λ attrs s. switch_stmt (first_place attrs p) attrs p s.selector s.inner s.clauses s.end)
      (λ attrs. refl) (kind.Switch a.tree p b.tree.selector b.tree.inner b.tree.clauses b.tree.end) (first_of a.tree p) mid new node a x is g b y
      (max (attrs_need a.tree) (switch_seen.needs b.tree)) (attrs_nodes a.tree ++ switch_seen.nodes b.tree) b.node
      (shape-Switch new (first_of a.tree p) a.tree p b.tree.selector b.tree.inner b.tree.clauses b.tree.end ∙ ap
      (λ q. switch_stmt q (attr_shapes new a.tree) p (expr_shape new b.tree.selector) (attr_shapes new b.tree.inner) (clause_shapes (map (clause_shaped new) b.tree.clauses))
      b.tree.end) (sym (first_same new a.tree p)))
      (needs-Switch a.tree p b.tree.selector b.tree.inner b.tree.clauses b.tree.end)
      (λ m n. omega arith)
      (nodes-Switch a.tree p b.tree.selector b.tree.inner b.tree.clauses b.tree.end)
      (λ c d. count_join (attrs_nodes a.tree) (switch_seen.nodes b.tree) node a.node b.node c d)
      s same

  -- a `loop`
  pub loop_fails : (names : List (List ℕ)) (node : ℕ) (a : Read (List Attr)) → ReadsOf attrs_seen (Many Attribute) 8 tokens names from node a → (p : Place) →
      slice_get tokens a.end ≡ Some (Key word.Loop p) → (to : ℕ) → FailsBy LoopRest Anything tokens (a.end + 1) to → FailsBy Compound Free tokens from to
  loop_fails names node a x p is to y = one_fails tokens from h loop_seen LoopRest Anything (λ w k. tt) (Key word.Loop p) (λ attrs l. loop_stmt (first_place attrs p) attrs p l.inner (stmt_shapes l.body) l.continuing l.end) (λ attrs. refl) names node a x is to y

  pub loop_tree : (mid new : List (List ℕ)) (node : ℕ) (a : Read (List Attr)) → ReadsOf attrs_seen (Many Attribute) 8 tokens mid from node a → (p : Place) →
      slice_get tokens a.end ≡ Some (Key word.Loop p) → Grows mid new → (b : Read LoopParts) → ReadsOfBy loop_seen LoopRest Anything tokens new (a.end + 1) a.node b → (s : Read Stmt) →
      s ≡ record
      { tree = record { node = b.node; place = first_of a.tree p; kind = kind.Loop a.tree p b.tree.inner b.tree.body b.tree.continuing b.tree.end }; end = b.end; node = b.node + 1 } →
      ReadsOfBy stmt_seen Compound Free tokens new from node s
  loop_tree mid new node a x p is g b y s same =
      one_tree tokens from h loop_seen LoopRest Anything (λ w k. tt) (Key word.Loop p) (λ attrs l. loop_stmt (first_place attrs p) attrs p l.inner (stmt_shapes l.body) l.continuing l.end)
      (λ attrs. refl) (kind.Loop a.tree p b.tree.inner b.tree.body b.tree.continuing b.tree.end) (first_of a.tree p) mid new node a x is g b y
      (max (attrs_need a.tree) (loop_seen.needs b.tree)) (attrs_nodes a.tree ++ loop_seen.nodes b.tree) b.node
      (shape-Loop new (first_of a.tree p) a.tree p b.tree.inner b.tree.body b.tree.continuing b.tree.end ∙ ap
      (λ q. loop_stmt q (attr_shapes new a.tree) p (attr_shapes new b.tree.inner) (stmt_shapes (map (stmt_shape new) b.tree.body))
      (maybe_continuing (option_map (continuing_shaped new) b.tree.continuing)) b.tree.end) (sym (first_same new a.tree p)))
      (needs-Loop a.tree p b.tree.inner b.tree.body b.tree.continuing b.tree.end)
      (λ m n. omega arith)
      (nodes-Loop a.tree p b.tree.inner b.tree.body b.tree.continuing b.tree.end)
      (λ c d. count_join (attrs_nodes a.tree) (loop_seen.nodes b.tree) node a.node b.node c d)
      s same

  -- a `for`
  pub for_fails : (names : List (List ℕ)) (node : ℕ) (a : Read (List Attr)) → ReadsOf attrs_seen (Many Attribute) 8 tokens names from node a → (p : Place) →
      slice_get tokens a.end ≡ Some (Key word.For p) → (to : ℕ) → FailsBy ForRest (Above 0) tokens (a.end + 1) to → FailsBy Compound Free tokens from to
  for_fails names node a x p is to y = one_fails tokens from h for_seen ForRest (Above 0) free_above (Key word.For p) (λ attrs f. for_stmt (first_place attrs p) attrs p f.head.initial f.head.condition f.head.update f.body) (λ attrs. refl) names node a x is to y

  four : (xs ys zs us : List ℕ) → xs ++ (ys ++ (zs ++ us)) ≡ (xs ++ (ys ++ zs)) ++ us
  four xs ys zs us = ap (λ l. xs ++ l) (sym (append_assoc ys zs us)) ∙ sym (append_assoc xs (ys ++ zs) us)

  pub for_tree : (mid new : List (List ℕ)) (node : ℕ) (a : Read (List Attr)) → ReadsOf attrs_seen (Many Attribute) 8 tokens mid from node a → (p : Place) →
      slice_get tokens a.end ≡ Some (Key word.For p) → Grows mid new → (b : Read ForParts) → ReadsOfBy for_seen ForRest (Above 0) tokens new (a.end + 1) a.node b → (s : Read Stmt) →
      s ≡ record {
        tree = record { node = b.node; place = first_of a.tree p; kind = kind.For a.tree p b.tree.head.initial b.tree.head.condition b.tree.head.update b.tree.body };
        end = b.end;
        node =
            b.node + 1;
      } → ReadsOfBy stmt_seen Compound Free tokens new from node s
  for_tree mid new node a x p is g b y s same =
      one_tree tokens from h for_seen ForRest (Above 0) free_above (Key word.For p) (λ attrs f. for_stmt (first_place attrs p) attrs p f.head.initial f.head.condition f.head.update f.body)
      (λ attrs. refl) (kind.For a.tree p b.tree.head.initial b.tree.head.condition b.tree.head.update b.tree.body) (first_of a.tree p) mid new node a x is g b y
      (max (attrs_need a.tree)
      (max (maybe_needs simple_needs b.tree.head.initial)
      (max (maybe_needs expr_needs b.tree.head.condition) (max (maybe_needs update_needs b.tree.head.update) (block_needs b.tree.body)))))
      (attrs_nodes a.tree ++ for_seen.nodes b.tree) b.node
      (shape-For new (first_of a.tree p) a.tree p b.tree.head.initial b.tree.head.condition b.tree.head.update b.tree.body ∙ ap
      (λ q. for_stmt q (attr_shapes new a.tree) p (option_map (simple_shape new) b.tree.head.initial) (option_map (expr_shape new) b.tree.head.condition)
      (option_map (update_shape new) b.tree.head.update) (block_shape new b.tree.body)) (sym (first_same new a.tree p)))
      (needs-For a.tree p b.tree.head.initial b.tree.head.condition b.tree.head.update b.tree.body)
      (λ m n. omega arith)
      (nodes-For a.tree p b.tree.head.initial b.tree.head.condition b.tree.head.update b.tree.body ∙ ap (λ l. attrs_nodes a.tree ++ l)
      (four (maybe_nodes simple_nodes b.tree.head.initial) (maybe_nodes expr_nodes b.tree.head.condition) (maybe_nodes update_nodes b.tree.head.update) (block_nodes b.tree.body)))
      (λ c d. count_join (attrs_nodes a.tree) (for_seen.nodes b.tree) node a.node b.node c d)
      s same

  -- an `if`
  abbrev IfEnd : List AttrShape → Place → ExprShape × BlockShape → StmtShape → List Lexeme → List Lexeme → Type 0
  IfEnd attrs p g = After AllArms (λ a. Ends (if_stmt (first_place attrs p) attrs p g.0 g.1 a))

  if_stops : (attrs : List AttrShape) (p : Place) (g : ExprShape × BlockShape) (r : StmtShape) (zs w : List Lexeme) → Free w → IfEnd attrs p g r zs w → Above 0 zs
  if_stops attrs p g r zs w stop k = all_arms_above k.part zs k.others w k.phrase k.rest.left stop

  if_end_closes : (attrs : List AttrShape) (p : Place) (g : ExprShape × BlockShape) → Closes (IfEnd attrs p g)
  if_end_closes attrs p g = closes_after AllArms (λ a. Ends (if_stmt (first_place attrs p) attrs p g.0 g.1 a)) all_arms_closes (λ a. closes_end (if_stmt (first_place attrs p) attrs p g.0 g.1 a))

  module _ (names : List (List ℕ)) (node : ℕ) (a : Read (List Attr)) (x : ReadsOf attrs_seen (Many Attribute) 8 tokens names from node a) (p : Place) (is : slice_get tokens a.end ≡ Some (Key word.If p)) where
    pub if_first_fails : (to : ℕ) → FailsBy Guards (Above 0) tokens (a.end + 1) to → FailsBy Compound Free tokens from to
    if_first_fails to y = phrase_fails Compound Free tokens from Guards (Above 0) (IfEnd (attr_shapes names a.tree) p) (if_stops (attr_shapes names a.tree) p) (a.end + 1) to (if_end_closes (attr_shapes names a.tree) p) (head_stage tokens from h names node a x (Key word.If p) is) y

    if_stage : (g : ExprShape × BlockShape) (at : ℕ) → ReadsBy Guards (Above 0) tokens (a.end + 1) g at → Step Compound Free tokens from at (IfEnd (attr_shapes names a.tree) p g)
    if_stage g at y = phrase Compound Free tokens from Guards (Above 0) (IfEnd (attr_shapes names a.tree) p) (if_stops (attr_shapes names a.tree) p) (a.end + 1) at g (head_stage tokens from h names node a x (Key word.If p) is) y

    if_others_fails_at : (g : ExprShape × BlockShape) (at : ℕ) → ReadsBy Guards (Above 0) tokens (a.end + 1) g at → (to : ℕ) → FailsBy AllArms Free tokens at to → FailsBy Compound Free tokens from to
    if_others_fails_at g at y to z = last_fails Compound Free tokens from AllArms Free (λ o. if_stmt (first_place (attr_shapes names a.tree) p) (attr_shapes names a.tree) p g.0 g.1 o) (λ w k. k) at (if_stage g at y) to z

    if_reads : (g : ExprShape × BlockShape) (at : ℕ) → ReadsBy Guards (Above 0) tokens (a.end + 1) g at → (o : ArmShapes) (to : ℕ) → ReadsBy AllArms Free tokens at o to → ReadsBy Compound Free tokens from (if_stmt (first_place (attr_shapes names a.tree) p) (attr_shapes names a.tree) p g.0 g.1 o) to
    if_reads g at y o to z = last_reads Compound Free tokens from AllArms Free (λ o. if_stmt (first_place (attr_shapes names a.tree) p) (attr_shapes names a.tree) p g.0 g.1 o) (λ w k. k) at (if_stage g at y) to o z

  pub if_others_fails : (mid new : List (List ℕ)) (node : ℕ) (a : Read (List Attr)) → ReadsOf attrs_seen (Many Attribute) 8 tokens mid from node a → (p : Place) →
      slice_get tokens a.end ≡ Some (Key word.If p) → Grows mid new → (b : Read Guarded) → ReadsOfBy guarded_seen Guards (Above 0) tokens new (a.end + 1) a.node b → (to : ℕ) →
      FailsBy AllArms Free tokens b.end to → FailsBy Compound Free tokens from to
  if_others_fails mid new node a x p is g b y to z = if_others_fails_at new node a (attrs_later tokens from h mid new node a g x) p is (guarded_seen.shape new b.tree) b.end y.reads to z

  pub if_tree : (first mid new : List (List ℕ)) (node : ℕ) (a : Read (List Attr)) → ReadsOf attrs_seen (Many Attribute) 8 tokens first from node a → (p : Place) →
      slice_get tokens a.end ≡ Some (Key word.If p) → Grows first mid → (b : Read Guarded) → ReadsOfBy guarded_seen Guards (Above 0) tokens mid (a.end + 1) a.node b → Grows mid new →
      (o : Read Branches) → ReadsOfBy branches_seen AllArms Free tokens new b.end b.node o → (s : Read Stmt) →
      s ≡ record
      { tree = record { node = o.node; place = first_of a.tree p; kind = kind.If a.tree p b.tree.condition b.tree.body o.tree.arms o.tree.otherwise }; end = o.end; node = o.node + 1 } →
      ReadsOfBy stmt_seen Compound Free tokens new from node s
  if_tree first mid new node a x p is g b y k o z s same =
      let mid_a : ReadsOf attrs_seen (Many Attribute) 8 tokens mid from node a = attrs_later tokens from h first mid node a g x in
      let new_a : ReadsOf attrs_seen (Many Attribute) 8 tokens new from node a = attrs_later tokens from h mid new node a k mid_a in
      let new_b : ReadsOfBy guarded_seen Guards (Above 0) tokens new (a.end + 1) a.node b = grown guarded_seen guarded_steady Guards (Above 0) tokens mid new (a.end + 1) a.node b k y in
      let need_a : attrs_need a.tree ≤ length new = new_a.known in
      let need_b : guarded_seen.needs b.tree ≤ length new = new_b.known in
      let need_o : branches_seen.needs o.tree ≤ length new = z.known in
      subst (ReadsOfBy stmt_seen Compound Free tokens new from node) (sym same)
      (statement_tree Compound Free tokens new from node (kind.If a.tree p b.tree.condition b.tree.body o.tree.arms o.tree.otherwise) (first_of a.tree p) o.end o.node
      (if_stmt (first_place (attr_shapes new a.tree) p) (attr_shapes new a.tree) p (expr_shape new b.tree.condition) (block_shape new b.tree.body) (branches_seen.shape new o.tree))
      (max (attrs_need a.tree) (max (expr_needs b.tree.condition) (max (block_needs b.tree.body) (branches_seen.needs o.tree))))
      (attrs_nodes a.tree ++ (expr_nodes b.tree.condition ++ (block_nodes b.tree.body ++ branches_seen.nodes o.tree)))
      (shape-If new (first_of a.tree p) a.tree p b.tree.condition b.tree.body o.tree.arms o.tree.otherwise ∙ ap (λ q. if_stmt q (attr_shapes new a.tree) p (expr_shape new b.tree.condition) (block_shape new b.tree.body) (branches_seen.shape new o.tree)) (sym (first_same new a.tree p)))
      (needs-If a.tree p b.tree.condition b.tree.body o.tree.arms o.tree.otherwise)
      (omega arith)
      (nodes-If a.tree p b.tree.condition b.tree.body o.tree.arms o.tree.otherwise)
      (count_join (attrs_nodes a.tree) (expr_nodes b.tree.condition ++ (block_nodes b.tree.body ++ branches_seen.nodes o.tree)) node a.node o.node new_a.nodes
      (subst (λ l. CountFrom a.node l o.node) (append_assoc (expr_nodes b.tree.condition) (block_nodes b.tree.body) (branches_seen.nodes o.tree))
      (count_join (guarded_seen.nodes b.tree) (branches_seen.nodes o.tree) a.node b.node o.node new_b.nodes z.nodes)))
      (if_reads new node a new_a p is (guarded_seen.shape new b.tree) b.end new_b.reads (branches_seen.shape new o.tree) o.end z.reads))
