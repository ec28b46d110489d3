-- Clauses of a `switch`, and what stands around them.
use Rattle.std.proofs.Common.{◌≡◌, refl, sym, subst, ℕ, ◌+◌, ◌≤◌, max, Bool, true, false, Some, List, [], ◌∷◌, ◌++◌, length, map, drop, arith, slice_get}
use Rattle.shade_base.specs.declared.place.Place.{Place}
use Rattle.shade_ast.specs.declared.lexeme.Keyword.TheVariants as word
use Rattle.shade_ast.specs.declared.lexeme.Sign.TheVariants as sign
use Rattle.shade_ast.specs.declared.stmt.Block.{Block as BlockTree}
use Rattle.shade_ast.specs.declared.stmt.Clause.{Clause}
use Rattle.shade_ast.specs.declared.stmt.Clause.TheVariants as clause
use Rattle.shade_ast.specs.Lexemes.{Lexeme, Key, Mark}
use Rattle.shade_ast.specs.Names.{Grows}
use Rattle.shade_ast.specs.Needs.{most_of, selector_needs, block_needs}
use Rattle.shade_ast.specs.Nodes.{joined_of, selector_nodes, block_nodes, CountFrom}
use Rattle.shade_ast.specs.Shapes.{BlockShape, SelectorShape, ClauseShapes, case_clause, default_clause}
use Rattle.shade_ast.specs.Shaped.{block_shape, selector_shape}
use Rattle.shade_ast.specs.Repeats.{Listed}
use Rattle.shade_ast.specs.Statements.{Block, MaybeMark, no_mark, some_mark, Selects}
use Rattle.shade_ast.specs.Reads.{Near}
use Rattle.shade_ast.proofs.Firsts.{first_is}
use Rattle.shade_ast.specs.Chains.{After, Ends}
use Rattle.shade_ast.proofs.Stages.{Closes, closes_end, closes_after, near_get}
use Rattle.shade_ast.proofs.Placed.{some_place}
use Rattle.shade_ast.specs.StmtParts.{clause_count}
use Rattle.shade_ast.proofs.StmtLayers.{shape-Case, shape-Default, needs-Case, needs-Default}
use Rattle.shade_ast.proofs.StmtNodes.{nodes-Case, nodes-Default}
use Rattle.shade_parse_expr.proofs.Trees.{count_join}
use Rattle.shade_parse_simple.specs.declared.read.Read.{Read}
use Rattle.shade_parse_stmt.specs.declared.parts.ClauseBody.{ClauseBody}
use Rattle.shade_parse_stmt.specs.declared.parts.Selectors.{Selectors}
use Rattle.shade_parse_stmt.specs.StatementParts.{block_seen, ColonBlock, ClauseAt, OneClause, clause_body_seen, selectors_seen, clause_seen}
use Rattle.shade_parse_simple.specs.Readings.{ReadsOf}
use Rattle.shade_parse_stmt.specs.Follows.{Above, Selected, SelectedToken, ReadsBy, FailsBy, ReadsOfBy}
use Rattle.shade_parse_stmt.proofs.FollowSteps.{Step, begin, change, consume, phrase, phrase_fails, head, stuck, by_rank}
use Rattle.shade_parse_stmt.proofs.StatementFirsts.{BeginsBlock, block_first, first_stops}
use Rattle.shade_parse_stmt.proofs.Grown.{grown, selectors_steady}
use Rattle.shade_parse_stmt.proofs.Closings.{block_closes, last_fails, last_reads}

-- a block, and whether a `:` stands before it
module _ (tokens : List Lexeme) (from : ℕ) (h : from ≤ length tokens) where
  colon_there : (p : Place) (r : Bool × BlockShape) (ts zs w : List Lexeme) → ts ≡ Mark sign.Colon p ∷ zs → ColonBlock r ts w → After Block (λ b. Ends (true, b)) r zs w
  colon_there p r ts zs w e k = by k.part ts k.others k.phrase e k.rest.part k.rest.others k.rest.phrase k.rest.rest.same k.rest.rest.left
    where
      by : (c : Bool) (ts us : List Lexeme) → MaybeMark sign.Colon c ts us → ts ≡ Mark sign.Colon p ∷ zs → (b : BlockShape) (vs : List Lexeme) → Block b us vs → r ≡ (c, b) → vs ≡ w → After Block (λ b. Ends (true, b)) r zs w
      by c ts us no_mark e b vs g same left = absurd (first_is BeginsBlock (Mark sign.Colon p) zs (block_first b (Mark sign.Colon p ∷ zs) vs (subst (λ x. Block b x vs) e g)))
      by c ts us (some_mark q) e b vs g same left =
          let both : Mark sign.Colon q ∷ us ≡ Mark sign.Colon p ∷ zs = e in
          let rest : us ≡ zs = cc in
          record { part = b; others = vs; phrase = subst (λ x. Block b x vs) rest g; rest = record { same = same; left = left } }

  colon_stage : (p : Place) → slice_get tokens from ≡ Some (Mark sign.Colon p) → Step ColonBlock (Above 0) tokens from (from + 1) (After Block (λ b. Ends (true, b)))
  colon_stage p is =
      change ColonBlock (Above 0) tokens from (from + 1) (λ r zs w. ColonBlock r (Mark sign.Colon p ∷ zs) w) (After Block (λ b. Ends (true, b))) (λ r zs w stop near k. colon_there p r (Mark sign.Colon p ∷ zs) zs w refl k)
      (λ r zs w a. record { part = true; others = zs; phrase = some_mark p; rest = record { part = a.part; others = a.others; phrase = a.phrase; rest = a.rest } })
      (consume ColonBlock (Above 0) tokens from from ColonBlock (Mark sign.Colon p) is (begin ColonBlock (Above 0) tokens from h))

  pub colon_fails : (p : Place) → slice_get tokens from ≡ Some (Mark sign.Colon p) → (to : ℕ) → FailsBy Block (Above 0) tokens (from + 1) to → FailsBy ColonBlock (Above 0) tokens from to
  colon_fails p is to x = last_fails ColonBlock (Above 0) tokens from Block (Above 0) (λ b. (true, b)) (λ w k. k) (from + 1) (colon_stage p is) to x

  pub colon_tree : (names : List (List ℕ)) (node : ℕ) (p : Place) → slice_get tokens from ≡ Some (Mark sign.Colon p) → (b : Read BlockTree) →
      ReadsOf block_seen Block 0 tokens names (from + 1) node b →
      ReadsOfBy clause_body_seen ColonBlock (Above 0) tokens names from node (record { tree = record { colon = true; body = b.tree }; end = b.end; node = b.node })
  colon_tree names node p is b x = record {
    reads = last_reads ColonBlock (Above 0) tokens from Block (Above 0) (λ b. (true, b)) (λ w k. k) (from + 1) (colon_stage p is) b.end (block_shape names b.tree)
        (by_rank Block 0 tokens (from + 1) (block_shape names b.tree) b.end x.reads);
    known = x.known;
    nodes = x.nodes;
  }

  module _ (never : (p : Place) → slice_get tokens from ≡ Some (Mark sign.Colon p) → ⊥) where
    bare_there : (r : Bool × BlockShape) (ys w : List Lexeme) → Near ys (drop from tokens) → ColonBlock r ys w → After Block (λ b. Ends (false, b)) r ys w
    bare_there r ys w near k = by k.part ys k.others k.phrase near k.rest.part k.rest.others k.rest.phrase k.rest.rest.same k.rest.rest.left
      where
        by : (c : Bool) (ts us : List Lexeme) → MaybeMark sign.Colon c ts us → Near ts (drop from tokens) → (b : BlockShape) (vs : List Lexeme) → Block b us vs → r ≡ (c, b) → vs ≡ w → After Block (λ b. Ends (false, b)) r ts w
        by c ts us no_mark near b vs g same left = record { part = b; others = vs; phrase = g; rest = record { same = same; left = left } }
        by c ts us (some_mark q) near b vs g same left = absurd (never q (near_get tokens from (Mark sign.Colon q) us near))

    bare_stage : Step ColonBlock (Above 0) tokens from from (After Block (λ b. Ends (false, b)))
    bare_stage =
        change ColonBlock (Above 0) tokens from from ColonBlock (After Block (λ b. Ends (false, b))) (λ r ys w stop near k. bare_there r ys w near k)
        (λ r ys w a. record { part = false; others = ys; phrase = no_mark; rest = record { part = a.part; others = a.others; phrase = a.phrase; rest = a.rest } })
        (begin ColonBlock (Above 0) tokens from h)

    pub bare_fails : (to : ℕ) → FailsBy Block (Above 0) tokens from to → FailsBy ColonBlock (Above 0) tokens from to
    bare_fails to x = last_fails ColonBlock (Above 0) tokens from Block (Above 0) (λ b. (false, b)) (λ w k. k) from bare_stage to x

    pub bare_tree : (names : List (List ℕ)) (node : ℕ) (b : Read BlockTree) → ReadsOf block_seen Block 0 tokens names from node b → ReadsOfBy clause_body_seen ColonBlock (Above 0) tokens names from node (record { tree = record { colon = false; body = b.tree }; end = b.end; node = b.node })
    bare_tree names node b x = record { reads = last_reads ColonBlock (Above 0) tokens from Block (Above 0) (λ b. (false, b)) (λ w k. k) from bare_stage b.end (block_shape names b.tree) (by_rank Block 0 tokens from (block_shape names b.tree) b.end x.reads); known = x.known; nodes = x.nodes }

-- what follows selectors
colon_selected : (c : Bool) (ts us vs : List Lexeme) (b : BlockShape) → MaybeMark sign.Colon c ts us → Block b us vs → Selected ts
colon_selected c ts us vs b no_mark g = first_stops BeginsBlock Selected (λ t zs k. by t k) ts (block_first b ts vs g)
  where
    by : (t : Lexeme) → BeginsBlock t → SelectedToken t
    by (Mark sign.At p) k = tt
    by (Mark sign.OpenBrace p) k = tt
    by _ k = absurd k
colon_selected c ts us vs b (some_mark p) g = tt

pub colon_closes : Closes ColonBlock
colon_closes = closes_after (MaybeMark sign.Colon) (λ c. After Block (λ b. Ends (c, b))) (record { tree = false; more = []; closed = λ w. no_mark }) (λ c. closes_after Block (λ b. Ends (c, b)) block_closes (λ b. closes_end (c, b)))

-- one clause
module _ (tokens : List Lexeme) (from : ℕ) (h : from ≤ length tokens) where
  abbrev CaseRest : Place → List SelectorShape × Bool → (ClauseShapes → ClauseShapes) → List Lexeme → List Lexeme → Type 0
  CaseRest p l = After ColonBlock (λ b. Ends (case_clause p l.0 l.1 b.0 b.1))

  pub clause_stuck : ((p : Place) → slice_get tokens from ≡ Some (Key word.Case p) → ⊥) → ((p : Place) → slice_get tokens from ≡ Some (Key word.Default p) → ⊥) → FailsBy OneClause (Above 0) tokens from from
  clause_stuck no_case no_default =
      let c : Closes (After ColonBlock (λ b. Ends (default_clause some_place b.0 b.1))) = closes_after ColonBlock (λ b. Ends (default_clause some_place b.0 b.1)) colon_closes (λ b. closes_end (default_clause some_place b.0 b.1)) in
      stuck OneClause (Above 0) tokens from from OneClause
      (record { tree = c.tree; more = Key word.Default some_place ∷ c.more; closed = λ w. record { first = Key word.Default some_place; others = c.more ++ w; split = refl; at = c.closed w } })
      (λ r ys w stop k near. by k.first r k.others w (near_get tokens from k.first k.others (subst (λ y. Near y (drop from tokens)) k.split near)) k.at)
      (begin OneClause (Above 0) tokens from h)
    where
      by : (t : Lexeme) (r : ClauseShapes → ClauseShapes) (us w : List Lexeme) → slice_get tokens from ≡ Some t → ClauseAt t r us w → ⊥
      by (Key word.Case p) r us w is k = no_case p is
      by (Key word.Default p) r us w is k = no_default p is
      by _ r us w is k = k

  module _ (p : Place) (is : slice_get tokens from ≡ Some (Key word.Default p)) where
    default_stage : Step OneClause (Above 0) tokens from (from + 1) (After ColonBlock (λ b. Ends (default_clause p b.0 b.1)))
    default_stage = head OneClause (Above 0) tokens from from ClauseAt (Key word.Default p) is (begin OneClause (Above 0) tokens from h)

    pub default_fails : (to : ℕ) → FailsBy ColonBlock (Above 0) tokens (from + 1) to → FailsBy OneClause (Above 0) tokens from to
    default_fails to x = last_fails OneClause (Above 0) tokens from ColonBlock (Above 0) (λ b. default_clause p b.0 b.1) (λ w k. k) (from + 1) default_stage to x

    pub default_tree : (names : List (List ℕ)) (node : ℕ) (b : Read ClauseBody) → ReadsOfBy clause_body_seen ColonBlock (Above 0) tokens names (from + 1) node b → (c : Clause) →
        c ≡ clause.Default p b.tree.colon b.tree.body → ReadsOfBy clause_seen OneClause (Above 0) tokens names from node (record { tree = c; end = b.end; node = b.node })
    default_tree names node b x c same =
        subst (λ y. ReadsOfBy clause_seen OneClause (Above 0) tokens names from node (record { tree = y; end = b.end; node = b.node })) (sym same)
        (let count : clause_count (clause.Default p b.tree.colon b.tree.body) ≡ block_needs b.tree.body = needs-Default p b.tree.colon b.tree.body in
        let known : block_needs b.tree.body ≤ length names = x.known in
        record {
          reads = subst (λ s. ReadsBy OneClause (Above 0) tokens from s b.end) (sym (shape-Default names p b.tree.colon b.tree.body))
              (last_reads OneClause (Above 0) tokens from ColonBlock (Above 0) (λ b. default_clause p b.0 b.1) (λ w k. k) (from + 1) default_stage b.end
              (b.tree.colon, block_shape names b.tree.body) x.reads);
          known = omega arith;
          nodes = subst (λ l. CountFrom node l b.node) (sym (nodes-Default p b.tree.colon b.tree.body)) x.nodes;
        })

  module _ (p : Place) (is : slice_get tokens from ≡ Some (Key word.Case p)) where
    case_stage : Step OneClause (Above 0) tokens from (from + 1) (After (Listed Selects) (CaseRest p))
    case_stage = head OneClause (Above 0) tokens from from ClauseAt (Key word.Case p) is (begin OneClause (Above 0) tokens from h)

    case_stops : (l : List SelectorShape × Bool) (r : ClauseShapes → ClauseShapes) (zs w : List Lexeme) → Above 0 w → CaseRest p l r zs w → Selected zs
    case_stops l r zs w stop k = colon_selected k.phrase.part zs k.phrase.others k.phrase.rest.others k.phrase.rest.part k.phrase.phrase k.phrase.rest.phrase

    pub case_fails : (to : ℕ) → FailsBy (Listed Selects) Selected tokens (from + 1) to → FailsBy OneClause (Above 0) tokens from to
    case_fails to x = phrase_fails OneClause (Above 0) tokens from (Listed Selects) Selected (CaseRest p) case_stops (from + 1) to (λ l. closes_after ColonBlock (λ b. Ends (case_clause p l.0 l.1 b.0 b.1)) colon_closes (λ b. closes_end (case_clause p l.0 l.1 b.0 b.1))) case_stage x

    case_rest : (l : List SelectorShape × Bool) (at : ℕ) → ReadsBy (Listed Selects) Selected tokens (from + 1) l at → Step OneClause (Above 0) tokens from at (CaseRest p l)
    case_rest l at x = phrase OneClause (Above 0) tokens from (Listed Selects) Selected (CaseRest p) case_stops (from + 1) at l case_stage x

    pub case_body_fails : (names : List (List ℕ)) (node : ℕ) (l : Read Selectors) → ReadsOfBy selectors_seen (Listed Selects) Selected tokens names (from + 1) node l → (to : ℕ) → FailsBy ColonBlock (Above 0) tokens l.end to → FailsBy OneClause (Above 0) tokens from to
    case_body_fails names node l x to y = last_fails OneClause (Above 0) tokens from ColonBlock (Above 0) (λ b. case_clause p (map (selector_shape names) l.tree.items) l.tree.trailing b.0 b.1) (λ w k. k) l.end (case_rest (selectors_seen.shape names l.tree) l.end x.reads) to y

    pub case_tree : (mid new : List (List ℕ)) (node : ℕ) (l : Read Selectors) → ReadsOfBy selectors_seen (Listed Selects) Selected tokens mid (from + 1) node l → Grows mid new →
        (b : Read ClauseBody) → ReadsOfBy clause_body_seen ColonBlock (Above 0) tokens new l.end l.node b → (c : Clause) →
        c ≡ clause.Case p l.tree.items l.tree.trailing b.tree.colon b.tree.body →
        ReadsOfBy clause_seen OneClause (Above 0) tokens new from node (record { tree = c; end = b.end; node = b.node })
    case_tree mid new node l x g b y c same =
        let later : ReadsOfBy selectors_seen (Listed Selects) Selected tokens new (from + 1) node l = grown selectors_seen selectors_steady (Listed Selects) Selected tokens mid new (from + 1) node l g x in
        let need_l : most_of selector_needs l.tree.items ≤ length new = later.known in
        let need_b : block_needs b.tree.body ≤ length new = y.known in
        let count : clause_count (clause.Case p l.tree.items l.tree.trailing b.tree.colon b.tree.body) ≡ max (most_of selector_needs l.tree.items) (block_needs b.tree.body) = needs-Case p l.tree.items l.tree.trailing b.tree.colon b.tree.body in
        subst (λ y. ReadsOfBy clause_seen OneClause (Above 0) tokens new from node (record { tree = y; end = b.end; node = b.node })) (sym same)
        (record {
          reads = subst (λ s. ReadsBy OneClause (Above 0) tokens from s b.end) (sym (shape-Case new p l.tree.items l.tree.trailing b.tree.colon b.tree.body))
              (last_reads OneClause (Above 0) tokens from ColonBlock (Above 0) (λ b. case_clause p (map (selector_shape new) l.tree.items) l.tree.trailing b.0 b.1) (λ w k. k) l.end
              (case_rest (selectors_seen.shape new l.tree) l.end later.reads) b.end (b.tree.colon, block_shape new b.tree.body) y.reads);
          known = omega arith;
          nodes = subst (λ n. CountFrom node n b.node) (sym (nodes-Case p l.tree.items l.tree.trailing b.tree.colon b.tree.body)) (count_join (joined_of selector_nodes l.tree.items) (block_nodes b.tree.body) node l.node b.node later.nodes y.nodes);
        })
