-- What follows the keyword of a `for`.
use Rattle.std.proofs.Common.{◌≡◌, refl, sym, ap, ◌∙◌, subst, ℕ, ◌+◌, ◌≤◌, Option, Some, List, ◌++◌, length, arith, slice_get}
use Rattle.shade_base.specs.declared.place.Place.{Place}
use Rattle.shade_ast.specs.declared.expr.Expr.{Expr}
use Rattle.shade_ast.specs.declared.lexeme.Sign.TheVariants as sign
use Rattle.shade_ast.specs.declared.stmt.Block.{Block as BlockTree}
use Rattle.shade_ast.specs.declared.stmt.Simple.{Simple}
use Rattle.shade_ast.specs.declared.stmt.Update.{Update}
use Rattle.shade_ast.specs.Lexemes.{Lexeme, Mark}
use Rattle.shade_ast.specs.Names.{Grows}
use Rattle.shade_ast.specs.Needs.{block_needs, expr_needs, simple_needs, update_needs, maybe_of as maybe_needs}
use Rattle.shade_ast.specs.Nodes.{block_nodes, expr_nodes, simple_nodes, update_nodes, maybe_of as maybe_nodes}
use Rattle.shade_ast.specs.Shapes.{ExprShape, SimpleShape, UpdateShape}
use Rattle.shade_ast.specs.Shaped.{block_shape}
use Rattle.shade_ast.specs.Repeats.{Maybe}
use Rattle.shade_ast.specs.Expressions.{Expression}
use Rattle.shade_ast.specs.Statements.{SimpleStatement, UpdateOf, Block}
use Rattle.shade_ast.specs.Chains.{After, Ends}
use Rattle.shade_ast.proofs.Stages.{Closes, closes_end, closes_after}
use Rattle.shade_parse_expr.proofs.Trees.{count_join}
use Rattle.shade_parse_simple.specs.declared.read.Read.{Read}
use Rattle.shade_parse_stmt.specs.declared.parts.ForHeader.{ForHeader}
use Rattle.shade_parse_stmt.specs.StatementParts.{block_seen, Until, UntilValue, UntilSimple, UntilUpdate, ForHeadShape, ForHead, ForShape, ForRest, value_seen, maybe_simple_seen, maybe_update_seen, for_head_seen, for_seen}
use Rattle.shade_parse_simple.specs.Readings.{ReadsOf}
use Rattle.shade_parse_stmt.specs.Follows.{Above, Anything, Marked, ReadsBy, FailsBy, ReadsOfBy}
use Rattle.shade_parse_stmt.proofs.FollowSteps.{Step, begin, phrase, phrase_fails, mark, stuck_mark, closes_marked, by_rank}
use Rattle.shade_parse_stmt.proofs.Grown.{grown, Steady, value_steady, maybe_simple_steady, maybe_update_steady}
use Rattle.shade_parse_stmt.proofs.Closings.{block_closes, maybe_closes, last_fails, last_reads}

until_closes : {S : Type 0} (closer : Place → Lexeme) (B : S → List Lexeme → List Lexeme → Type 0) → Closes (Until closer B)
until_closes closer B = closes_after (Maybe B) (λ o. Marked closer (λ p. Ends o)) (maybe_closes B) (λ o. closes_marked closer (λ p. Ends o) (closes_end o))

abbrev Updates : Option SimpleShape → Option ExprShape → ForHeadShape → List Lexeme → List Lexeme → Type 0
Updates i c = After UntilUpdate (λ u. Ends (record { initial = i; condition = c; update = u }))

abbrev Conditions : Option SimpleShape → ForHeadShape → List Lexeme → List Lexeme → Type 0
Conditions i = After UntilValue (Updates i)

abbrev Initials : ForHeadShape → List Lexeme → List Lexeme → Type 0
Initials = After UntilSimple Conditions

updates_closes : (i : Option SimpleShape) (c : Option ExprShape) → Closes (Updates i c)
updates_closes i c = closes_after UntilUpdate (λ u. Ends (record { initial = i; condition = c; update = u })) (until_closes (Mark sign.Close) UpdateOf) (λ u. closes_end (record { initial = i; condition = c; update = u }))

conditions_closes : (i : Option SimpleShape) → Closes (Conditions i)
conditions_closes i = closes_after UntilValue (Updates i) (until_closes (Mark sign.Semicolon) Expression) (updates_closes i)

initials_closes : Closes Initials
initials_closes = closes_after UntilSimple Conditions (until_closes (Mark sign.Semicolon) SimpleStatement) conditions_closes

head_closes : Closes ForHead
head_closes = closes_marked (Mark sign.Open) (λ p. Initials) initials_closes

module _ (tokens : List Lexeme) (from : ℕ) (h : from ≤ length tokens) where
  pub for_stuck : ((p : Place) → slice_get tokens from ≡ Some (Mark sign.Open p) → ⊥) → FailsBy ForHead Anything tokens from from
  for_stuck never = stuck_mark ForHead Anything tokens from (Mark sign.Open) (λ p. Initials) initials_closes from never (begin ForHead Anything tokens from h)

  module _ (p : Place) (is : slice_get tokens from ≡ Some (Mark sign.Open p)) where
    initial_stage : Step ForHead Anything tokens from (from + 1) Initials
    initial_stage = mark ForHead Anything tokens from (Mark sign.Open) (λ p. Initials) (λ p. refl) from p is (begin ForHead Anything tokens from h)

    pub initial_fails : (to : ℕ) → FailsBy UntilSimple Anything tokens (from + 1) to → FailsBy ForHead Anything tokens from to
    initial_fails to x = phrase_fails ForHead Anything tokens from UntilSimple Anything Conditions (λ b r zs w stop c. tt) (from + 1) to conditions_closes initial_stage x

    module _ (i : Option SimpleShape) (at : ℕ) (x : ReadsBy UntilSimple Anything tokens (from + 1) i at) where
      condition_stage : Step ForHead Anything tokens from at (Conditions i)
      condition_stage = phrase ForHead Anything tokens from UntilSimple Anything Conditions (λ b r zs w stop c. tt) (from + 1) at i initial_stage x

      condition_fails_at : (to : ℕ) → FailsBy UntilValue Anything tokens at to → FailsBy ForHead Anything tokens from to
      condition_fails_at to y = phrase_fails ForHead Anything tokens from UntilValue Anything (Updates i) (λ b r zs w stop c. tt) at to (updates_closes i) condition_stage y

      module _ (c : Option ExprShape) (next : ℕ) (y : ReadsBy UntilValue Anything tokens at c next) where
        update_stage : Step ForHead Anything tokens from next (Updates i c)
        update_stage = phrase ForHead Anything tokens from UntilValue Anything (Updates i) (λ b r zs w stop c. tt) at next c condition_stage y

        update_fails_at : (to : ℕ) → FailsBy UntilUpdate Anything tokens next to → FailsBy ForHead Anything tokens from to
        update_fails_at to z = last_fails ForHead Anything tokens from UntilUpdate Anything (λ u. record { initial = i; condition = c; update = u }) (λ w k. k) next update_stage to z

        head_reads : (u : Option UpdateShape) (to : ℕ) → ReadsBy UntilUpdate Anything tokens next u to → ReadsBy ForHead Anything tokens from (record { initial = i; condition = c; update = u }) to
        head_reads u to z = last_reads ForHead Anything tokens from UntilUpdate Anything (λ u. record { initial = i; condition = c; update = u }) (λ w k. k) next update_stage to u z

    pub condition_fails : (names : List (List ℕ)) (node : ℕ) (i : Read (Option Simple)) → ReadsOfBy maybe_simple_seen UntilSimple Anything tokens names (from + 1) node i → (to : ℕ) → FailsBy UntilValue Anything tokens i.end to → FailsBy ForHead Anything tokens from to
    condition_fails names node i x to y = condition_fails_at (maybe_simple_seen.shape names i.tree) i.end x.reads to y

    pub update_fails : (mid new : List (List ℕ)) (node : ℕ) (i : Read (Option Simple)) → ReadsOfBy maybe_simple_seen UntilSimple Anything tokens mid (from + 1) node i → Grows mid new →
        (c : Read (Option Expr)) → ReadsOfBy value_seen UntilValue Anything tokens new i.end i.node c → (to : ℕ) → FailsBy UntilUpdate Anything tokens c.end to →
        FailsBy ForHead Anything tokens from to
    update_fails mid new node i x g c y to z = update_fails_at (maybe_simple_seen.shape mid i.tree) i.end x.reads (value_seen.shape new c.tree) c.end y.reads to z

    pub for_head_tree : (first mid new : List (List ℕ)) (node : ℕ) (i : Read (Option Simple)) → ReadsOfBy maybe_simple_seen UntilSimple Anything tokens first (from + 1) node i →
        Grows first mid → (c : Read (Option Expr)) → ReadsOfBy value_seen UntilValue Anything tokens mid i.end i.node c → Grows mid new → (u : Read (Option Update)) →
        ReadsOfBy maybe_update_seen UntilUpdate Anything tokens new c.end c.node u → (initial : Option Simple) → initial ≡ i.tree → (parts : Option Simple × Option Expr) →
        parts ≡ (initial, c.tree) →
        ReadsOfBy for_head_seen ForHead Anything tokens new from node (record { tree = record { initial = parts.0; condition = parts.1; update = u.tree }; end = u.end; node = u.node })
    for_head_tree first mid new node i x g c y k u z initial is_initial parts is_parts =
        let i_mid : ReadsOfBy maybe_simple_seen UntilSimple Anything tokens mid (from + 1) node i = grown maybe_simple_seen maybe_simple_steady UntilSimple Anything tokens first mid (from + 1) node i g x in
        let i_new : ReadsOfBy maybe_simple_seen UntilSimple Anything tokens new (from + 1) node i = grown maybe_simple_seen maybe_simple_steady UntilSimple Anything tokens mid new (from + 1) node i k i_mid in
        let c_new : ReadsOfBy value_seen UntilValue Anything tokens new i.end i.node c = grown value_seen value_steady UntilValue Anything tokens mid new i.end i.node c k y in
        let need_i : maybe_needs simple_needs i.tree ≤ length new = i_new.known in
        let need_c : maybe_needs expr_needs c.tree ≤ length new = c_new.known in
        let need_u : maybe_needs update_needs u.tree ≤ length new = z.known in
        let both : parts ≡ (i.tree, c.tree) = is_parts ∙ ap (λ v. (v, c.tree)) is_initial in
        subst (λ v. ReadsOfBy for_head_seen ForHead Anything tokens new from node (record { tree = record { initial = v.0; condition = v.1; update = u.tree }; end = u.end; node = u.node })) (sym both)
        (record {
          reads = head_reads (maybe_simple_seen.shape new i.tree) i.end i_new.reads (value_seen.shape new c.tree) c.end c_new.reads (maybe_update_seen.shape new u.tree) u.end z.reads;
          known = omega arith;
          nodes = count_join (maybe_nodes simple_nodes i.tree) (maybe_nodes expr_nodes c.tree ++ maybe_nodes update_nodes u.tree) node i.node u.node i_new.nodes (count_join (maybe_nodes expr_nodes c.tree) (maybe_nodes update_nodes u.tree) i.node c.node u.node c_new.nodes z.nodes);
        })

  -- the head and a block
  abbrev ForBody : ForHeadShape → ForShape → List Lexeme → List Lexeme → Type 0
  ForBody t = After Block (λ b. Ends (record { head = t; body = b }))

  pub for_head_fails : (to : ℕ) → FailsBy ForHead Anything tokens from to → FailsBy ForRest (Above 0) tokens from to
  for_head_fails to x = phrase_fails ForRest (Above 0) tokens from ForHead Anything ForBody (λ b r zs w stop c. tt) from to (λ t. closes_after Block (λ b. Ends (record { head = t; body = b })) block_closes (λ b. closes_end (record { head = t; body = b }))) (begin ForRest (Above 0) tokens from h) x

  body_stage : (t : ForHeadShape) (at : ℕ) → ReadsBy ForHead Anything tokens from t at → Step ForRest (Above 0) tokens from at (ForBody t)
  body_stage t at x = phrase ForRest (Above 0) tokens from ForHead Anything ForBody (λ b r zs w stop c. tt) from at t (begin ForRest (Above 0) tokens from h) x

  pub for_body_fails : (names : List (List ℕ)) (node : ℕ) (t : Read ForHeader) → ReadsOfBy for_head_seen ForHead Anything tokens names from node t → (to : ℕ) → FailsBy Block (Above 0) tokens t.end to → FailsBy ForRest (Above 0) tokens from to
  for_body_fails names node t x to y = last_fails ForRest (Above 0) tokens from Block (Above 0) (λ b. record { head = for_head_seen.shape names t.tree; body = b }) (λ w k. k) t.end (body_stage (for_head_seen.shape names t.tree) t.end x.reads) to y

  for_head_steady : Steady for_head_seen
  for_head_steady old new t n g = λ i. record { initial = maybe_simple_steady old new t.initial (omega arith) g i; condition = value_steady old new t.condition (omega arith) g i; update = maybe_update_steady old new t.update (omega arith) g i }

  pub for_rest_tree : (mid new : List (List ℕ)) (node : ℕ) (t : Read ForHeader) → ReadsOfBy for_head_seen ForHead Anything tokens mid from node t → Grows mid new → (b : Read BlockTree) →
      ReadsOf block_seen Block 0 tokens new t.end t.node b → (first : Read ForHeader) → first ≡ t →
      ReadsOfBy for_seen ForRest (Above 0) tokens new from node (record { tree = record { head = first.tree; body = b.tree }; end = b.end; node = b.node })
  for_rest_tree mid new node t x g b y first same =
      let t_new : ReadsOfBy for_head_seen ForHead Anything tokens new from node t = grown for_head_seen for_head_steady ForHead Anything tokens mid new from node t g x in
      let need_t : for_head_seen.needs t.tree ≤ length new = t_new.known in
      let need_b : block_needs b.tree ≤ length new = y.known in
      subst (λ v. ReadsOfBy for_seen ForRest (Above 0) tokens new from node (record { tree = record { head = v.tree; body = b.tree }; end = b.end; node = b.node })) (sym same)
      (record {
        reads = last_reads ForRest (Above 0) tokens from Block (Above 0) (λ b. record { head = for_head_seen.shape new t.tree; body = b }) (λ w k. k) t.end
            (body_stage (for_head_seen.shape new t.tree) t.end t_new.reads) b.end (block_shape new b.tree) (by_rank Block 0 tokens t.end (block_shape new b.tree) b.end y.reads);
        known = omega arith;
        nodes = count_join (for_head_seen.nodes t.tree) (block_nodes b.tree) node t.node b.node t_new.nodes y.nodes;
      })
