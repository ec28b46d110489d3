-- Statements that no attributes stand before, by their first tokens.
use Rattle.std.proofs.Common.{◌≡◌, refl, sym, ap, ◌∙◌, subst, ℕ, ◌+◌, ◌≤◌, Option, None, Some, List, [], ◌∷◌, length, arith, slice_get}
use Rattle.shade_base.specs.declared.place.Place.{Place}
use Rattle.shade_ast.specs.declared.expr.Expr.{Expr}
use Rattle.shade_ast.specs.declared.lexeme.Keyword.{Keyword}
use Rattle.shade_ast.specs.declared.lexeme.Keyword.TheVariants as word
use Rattle.shade_ast.specs.declared.lexeme.Sign.TheVariants as sign
use Rattle.shade_ast.specs.declared.stmt.Stmt.{Stmt}
use Rattle.shade_ast.specs.declared.stmt.StmtKind.{StmtKind}
use Rattle.shade_ast.specs.declared.stmt.StmtKind.TheVariants as kind
use Rattle.shade_ast.specs.Lexemes.{Lexeme, Key, Mark}
use Rattle.shade_ast.specs.Shapes.{StmtShape, empty_stmt, return_stmt, break_stmt, continue_stmt, discard_stmt, assert_stmt}
use Rattle.shade_ast.specs.Shaped.{expr_shape}
use Rattle.shade_ast.specs.Needs.{expr_needs, maybe_of as maybe_needs}
use Rattle.shade_ast.specs.Nodes.{expr_nodes, maybe_of as maybe_nodes}
use Rattle.shade_ast.proofs.Firsts.{first_is}
use Rattle.shade_ast.specs.Chains.{After, Ends}
use Rattle.shade_ast.proofs.Stages.{closes_end}
use Rattle.shade_ast.proofs.StmtLayers.{stmt_kind_shaped, stmt_kind_count, shape-Empty, shape-Return, shape-Break, shape-Continue, shape-Discard, shape-ConstAssert, needs-Empty, needs-Return, needs-Break, needs-Continue, needs-Discard, needs-ConstAssert}
use Rattle.shade_ast.proofs.StmtNodes.{stmt_kind_numbers, nodes-Empty, nodes-Return, nodes-Break, nodes-Continue, nodes-Discard, nodes-ConstAssert}
use Rattle.shade_cursor.specs.Operators.{found}
use Rattle.shade_cursor.proofs.Tokens.{Told, told, untold, some_one}
use Rattle.shade_parse_stmt.specs.declared.marks.Jump.{Jump}
use Rattle.shade_parse_stmt.specs.declared.marks.Jump.TheVariants as jump
use Rattle.shade_parse_simple.specs.declared.read.Read.{Read}
use Rattle.shade_parse_stmt.specs.StatementParts.{stmt_seen, UntilValue, ValueEnd, SimpleEnd, PlainAt, Plain, value_seen}
use Rattle.shade_parse_stmt.specs.Follows.{Anything, Marked, ReadsBy, FailsBy, ReadsOfBy}
use Rattle.shade_parse_simple.specs.Readings.{expr_seen}
use Rattle.shade_parse_stmt.specs.Trees.{jump_of, kind_of}
use Rattle.shade_parse_stmt.proofs.FollowSteps.{Step, begin, take_head, skip_head, mark, stuck_mark, finish_ends, then_reads, then_fails}
use Rattle.shade_parse_stmt.proofs.StatementFirsts.{BeginsSimple, simple_first}
use Rattle.shade_parse_stmt.proofs.StatementTrees.{statement_tree}
use Rattle.shade_parse_stmt.proofs.Closings.{last_fails, last_reads}

-- statements of one keyword
abbrev jump_word : Jump → Keyword
jump_word jump.Break = word.Break
jump_word jump.Continue = word.Continue
jump_word jump.Discard = word.Discard

abbrev jump_shape : Jump → Place → StmtShape
jump_shape jump.Break p = break_stmt p
jump_shape jump.Continue p = continue_stmt p
jump_shape jump.Discard p = discard_stmt p

abbrev at : Jump → Place → Jump × Place
at j p = (j, p)

jump_token : (t : Lexeme) (j : Jump) (p : Place) → jump_of t ≡ Some (at j p) → t ≡ Key (jump_word j) p
jump_token (Key word.Break q) j p e = let both : at jump.Break q ≡ at j p = some_one (at jump.Break q) (at j p) e in ap (λ x. Key (jump_word x.0) x.1) both
jump_token (Key word.Continue q) j p e = let both : at jump.Continue q ≡ at j p = some_one (at jump.Continue q) (at j p) e in ap (λ x. Key (jump_word x.0) x.1) both
jump_token (Key word.Discard q) j p e = let both : at jump.Discard q ≡ at j p = some_one (at jump.Discard q) (at j p) e in ap (λ x. Key (jump_word x.0) x.1) both
jump_token _ j p e = absurd (let bad : None ≡ Some (at j p) = e in cc)

jump_simple : (j : Jump) (p : Place) → BeginsSimple (Key (jump_word j) p) → ⊥
jump_simple jump.Break p h = h
jump_simple jump.Continue p h = h
jump_simple jump.Discard p h = h

module _ (names : List (List ℕ)) where
  jump_shaped : (j : Jump) (p : Place) → stmt_kind_shaped names (kind_of j) p ≡ jump_shape j p
  jump_shaped jump.Break p = shape-Break names p
  jump_shaped jump.Continue p = shape-Continue names p
  jump_shaped jump.Discard p = shape-Discard names p

jump_counted : (j : Jump) → stmt_kind_count (kind_of j) ≡ 0
jump_counted jump.Break = needs-Break
jump_counted jump.Continue = needs-Continue
jump_counted jump.Discard = needs-Discard

jump_numbered : (j : Jump) → stmt_kind_numbers (kind_of j) ≡ []
jump_numbered jump.Break = nodes-Break
jump_numbered jump.Continue = nodes-Continue
jump_numbered jump.Discard = nodes-Discard

module _ (tokens : List Lexeme) (from : ℕ) (h : from ≤ length tokens) where
  plain_head : (t : Lexeme) → slice_get tokens from ≡ Some t → (BeginsSimple t → ⊥) → Step Plain Anything tokens from (from + 1) (PlainAt t)
  plain_head t is never = take_head Plain Anything tokens from from PlainAt SimpleEnd t is (λ r zs w stop d. never (first_is BeginsSimple t zs (simple_first d.part (t ∷ zs) d.others d.phrase))) (begin Plain Anything tokens from h)

  pub plain_empty : (names : List (List ℕ)) (node : ℕ) (p : Place) → slice_get tokens from ≡ Some (Mark sign.Semicolon p) → (s : Read Stmt) →
      s ≡ record { tree = record { node = node; place = p; kind = kind.Empty }; end = from + 1; node = node + 1 } → ReadsOfBy stmt_seen Plain Anything tokens names from node s
  plain_empty names node p is s same =
      subst (ReadsOfBy stmt_seen Plain Anything tokens names from node) (sym same)
      (statement_tree Plain Anything tokens names from node kind.Empty p (from + 1) node (empty_stmt p) 0 [] (shape-Empty names p) needs-Empty (omega arith) nodes-Empty refl
      (finish_ends Plain Anything tokens from (from + 1) (empty_stmt p) (empty_stmt p) refl (plain_head (Mark sign.Semicolon p) is (λ b. b))))

  module _ (j : Jump) (p : Place) (is : Some (at j p) ≡ found jump_of (slice_get tokens from)) where
    jump_stands : slice_get tokens from ≡ Some (Key (jump_word j) p)
    jump_stands = let t : Told jump_of (slice_get tokens from) (at j p) = told jump_of (slice_get tokens from) (at j p) is in t.stands ∙ ap Some (jump_token t.token j p t.tells)

    jump_at : (k : Jump) → Step Plain Anything tokens from (from + 1) (PlainAt (Key (jump_word k) p)) → Step Plain Anything tokens from (from + 1) (Marked (Mark sign.Semicolon) (λ q. Ends (jump_shape k p)))
    jump_at jump.Break s = s
    jump_at jump.Continue s = s
    jump_at jump.Discard s = s

    jump_stage : Step Plain Anything tokens from (from + 1) (Marked (Mark sign.Semicolon) (λ q. Ends (jump_shape j p)))
    jump_stage = jump_at j (plain_head (Key (jump_word j) p) jump_stands (jump_simple j p))

    pub jump_open : ((q : Place) → slice_get tokens (from + 1) ≡ Some (Mark sign.Semicolon q) → ⊥) → FailsBy Plain Anything tokens from (from + 1)
    jump_open never = stuck_mark Plain Anything tokens from (Mark sign.Semicolon) (λ q. Ends (jump_shape j p)) (closes_end (jump_shape j p)) (from + 1) never jump_stage

    jump_reads : (q : Place) → slice_get tokens (from + 1) ≡ Some (Mark sign.Semicolon q) → ReadsBy Plain Anything tokens from (jump_shape j p) (from + 1 + 1)
    jump_reads q closes = finish_ends Plain Anything tokens from (from + 1 + 1) (jump_shape j p) (jump_shape j p) refl (mark Plain Anything tokens from (Mark sign.Semicolon) (λ q. Ends (jump_shape j p)) (λ q. refl) (from + 1) q closes jump_stage)

    pub jump_tree : (names : List (List ℕ)) (node : ℕ) (q : Place) → slice_get tokens (from + 1) ≡ Some (Mark sign.Semicolon q) → (k : StmtKind) → k ≡ kind_of j → (s : Read Stmt) →
        s ≡ record { tree = record { node = node; place = p; kind = k }; end = from + 2; node = node + 1 } → ReadsOfBy stmt_seen Plain Anything tokens names from node s
    jump_tree names node q closes k is_kind s same =
        let far : from + 1 + 1 ≡ from + 2 = omega arith in
        subst (ReadsOfBy stmt_seen Plain Anything tokens names from node) (sym (same ∙ ap (λ y. record { tree = record { node = node; place = p; kind = y }; end = from + 2; node = node + 1 }) is_kind))
        (statement_tree Plain Anything tokens names from node (kind_of j) p (from + 2) node (jump_shape j p) 0 [] (jump_shaped names j p) (jump_counted j) (omega arith) (jump_numbered j) refl
        (subst (ReadsBy Plain Anything tokens from (jump_shape j p)) far (jump_reads q closes)))

  module _ (p : Place) (is : slice_get tokens from ≡ Some (Key word.Return p)) where
    return_stage : Step Plain Anything tokens from (from + 1) (After UntilValue (λ e. Ends (return_stmt p e)))
    return_stage = plain_head (Key word.Return p) is (λ b. b)

    pub return_fails : (to : ℕ) → FailsBy UntilValue Anything tokens (from + 1) to → FailsBy Plain Anything tokens from to
    return_fails to x = last_fails Plain Anything tokens from UntilValue Anything (return_stmt p) (λ w k. k) (from + 1) return_stage to x

    pub return_tree : (names : List (List ℕ)) (node : ℕ) (v : Read (Option Expr)) → ReadsOfBy value_seen UntilValue Anything tokens names (from + 1) node v → (s : Read Stmt) →
        s ≡ record { tree = record { node = v.node; place = p; kind = kind.Return v.tree }; end = v.end; node = v.node + 1 } → ReadsOfBy stmt_seen Plain Anything tokens names from node s
    return_tree names node v x s same =
        subst (ReadsOfBy stmt_seen Plain Anything tokens names from node) (sym same)
        (statement_tree Plain Anything tokens names from node (kind.Return v.tree) p v.end v.node (return_stmt p (value_seen.shape names v.tree)) (maybe_needs expr_needs v.tree) (maybe_nodes expr_nodes v.tree) (shape-Return names p v.tree) (needs-Return v.tree) x.known (nodes-Return v.tree) x.nodes
        (last_reads Plain Anything tokens from UntilValue Anything (return_stmt p) (λ w k. k) (from + 1) return_stage v.end (value_seen.shape names v.tree) x.reads))

  module _ (p : Place) (is : slice_get tokens from ≡ Some (Key word.ConstAssert p)) where
    assert_stage : Step Plain Anything tokens from (from + 1) (After ValueEnd (λ e. Ends (assert_stmt p e)))
    assert_stage = plain_head (Key word.ConstAssert p) is (λ b. b)

    pub assert_fails : (to : ℕ) → FailsBy ValueEnd Anything tokens (from + 1) to → FailsBy Plain Anything tokens from to
    assert_fails to x = last_fails Plain Anything tokens from ValueEnd Anything (assert_stmt p) (λ w k. k) (from + 1) assert_stage to x

    pub assert_tree : (names : List (List ℕ)) (node : ℕ) (v : Read Expr) → ReadsOfBy expr_seen ValueEnd Anything tokens names (from + 1) node v → (s : Read Stmt) →
        s ≡ record { tree = record { node = v.node; place = p; kind = kind.ConstAssert v.tree }; end = v.end; node = v.node + 1 } →
        ReadsOfBy stmt_seen Plain Anything tokens names from node s
    assert_tree names node v x s same =
        subst (ReadsOfBy stmt_seen Plain Anything tokens names from node) (sym same)
        (statement_tree Plain Anything tokens names from node (kind.ConstAssert v.tree) p v.end v.node (assert_stmt p (expr_shape names v.tree)) (expr_needs v.tree) (expr_nodes v.tree) (shape-ConstAssert names p v.tree) (needs-ConstAssert v.tree) x.known (nodes-ConstAssert v.tree) x.nodes
        (last_reads Plain Anything tokens from ValueEnd Anything (assert_stmt p) (λ w k. k) (from + 1) assert_stage v.end (expr_shape names v.tree) x.reads))

  -- none of these tokens stands here
  module _ (no_mark : (p : Place) → slice_get tokens from ≡ Some (Mark sign.Semicolon p) → ⊥) (no_jump : None ≡ found jump_of (slice_get tokens from)) (no_return : (p : Place) → slice_get tokens from ≡ Some (Key word.Return p) → ⊥) (no_assert : (p : Place) → slice_get tokens from ≡ Some (Key word.ConstAssert p) → ⊥) where
    none_at : (t : Lexeme) (r : StmtShape) (zs w : List Lexeme) → slice_get tokens from ≡ Some t → PlainAt t r zs w → ⊥
    none_at (Mark sign.Semicolon p) r zs w is a = no_mark p is
    none_at (Key word.Return p) r zs w is a = no_return p is
    none_at (Key word.ConstAssert p) r zs w is a = no_assert p is
    none_at (Key word.Break p) r zs w is a = let bad : Some (at jump.Break p) ≡ None = untold jump_of (slice_get tokens from) (Key word.Break p) no_jump is in cc
    none_at (Key word.Continue p) r zs w is a = let bad : Some (at jump.Continue p) ≡ None = untold jump_of (slice_get tokens from) (Key word.Continue p) no_jump is in cc
    none_at (Key word.Discard p) r zs w is a = let bad : Some (at jump.Discard p) ≡ None = untold jump_of (slice_get tokens from) (Key word.Discard p) no_jump is in cc
    none_at _ r zs w is a = a

    simple_stage : Step Plain Anything tokens from from SimpleEnd
    simple_stage = skip_head Plain Anything tokens from from PlainAt SimpleEnd none_at (begin Plain Anything tokens from h)

    pub plain_simple_fails : (to : ℕ) → FailsBy SimpleEnd Anything tokens from to → FailsBy Plain Anything tokens from to
    plain_simple_fails to x = then_fails Plain Anything tokens from from to SimpleEnd simple_stage x

    pub plain_simple_tree : (names : List (List ℕ)) (node : ℕ) (s : Read Stmt) → ReadsOfBy stmt_seen SimpleEnd Anything tokens names from node s → ReadsOfBy stmt_seen Plain Anything tokens names from node s
    plain_simple_tree names node s x = record { reads = then_reads Plain Anything tokens from from s.end SimpleEnd (stmt_seen.shape names s.tree) simple_stage x.reads; known = x.known; nodes = x.nodes }
