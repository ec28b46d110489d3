-- The clauses of a `switch`, one at a time, and what stands around them.
use Rattle.std.proofs.Common.{◌≡◌, refl, sym, ap, ◌∙◌, subst, ℕ, ◌+◌, ◌<◌, ◌≤◌, true, false, Option, None, Some, List, [], ◌∷◌, ◌++◌, length, map, drop, arith, slice_get}
use Rattle.shade_ast.specs.declared.lexeme.Keyword.TheVariants as word
use Rattle.shade_ast.specs.declared.stmt.Clause.{Clause}
use Rattle.shade_ast.specs.Lexemes.{Lexeme, Key}
use Rattle.shade_ast.specs.Names.{Grows}
use Rattle.shade_ast.specs.Shapes.{ClauseShapes, default_selector, case_clause, default_clause}
use Rattle.shade_ast.specs.Repeats.{Many, last}
use Rattle.shade_ast.specs.Statements.{selects_default}
use Rattle.shade_ast.specs.Reads.{Near, rank, rank_of}
use Rattle.shade_ast.specs.Chains.{After, Ends}
use Rattle.shade_ast.proofs.Stages.{closes_end, near_get}
use Rattle.shade_ast.proofs.Placed.{some_place}
use Rattle.shade_ast.specs.StmtParts.{clause_shaped}
use Rattle.shade_parse_simple.specs.declared.read.Read.{Read}
use Rattle.shade_parse_stmt.specs.Follows.{Above, FailsBy, ReadsOfBy}
use Rattle.shade_parse_stmt.specs.StatementParts.{ClauseAt, OneClause, clause_seen, clauses_seen}
use Rattle.shade_parse_stmt.specs.Trees.{holds, is_clause}
use Rattle.shade_parse_stmt.proofs.FollowSteps.{begin, change, finish_ends}
use Rattle.shade_parse_stmt.proofs.Grown.{clauses_steady}
use Rattle.shade_parse_stmt.proofs.Bodies.{Walk, walk_begin, walk_more, list_end, list_fails}
use Rattle.shade_parse_stmt.proofs.Loops.{reads_nonempty, fails_nonempty}
use Rattle.shade_parse_stmt.proofs.ClauseLaws.{colon_closes}

abbrev pub ClausesEnd : List (ClauseShapes → ClauseShapes) → List (ClauseShapes → ClauseShapes) → List Lexeme → List Lexeme → Type 0
ClausesEnd l = Ends l

abbrev pub ClauseWalk : List Lexeme → ℕ → List (List ℕ) → List (List ℕ) → ℕ → ℕ → List Clause → ℕ → ℕ → Type 0
ClauseWalk tokens size = Walk clause_seen OneClause ClausesEnd (Many OneClause) (Above 9) tokens size

clause_token : (t : Lexeme) (r : ClauseShapes → ClauseShapes) (us w : List Lexeme) → ClauseAt t r us w → is_clause t ≡ true
clause_token (Key word.Case p) r us w a = refl
clause_token (Key word.Default p) r us w a = refl
clause_token _ r us w a = absurd a

clause_low : (t : Lexeme) → is_clause t ≡ true → rank_of t ≤ 9
clause_low (Key word.Case p) e = omega arith
clause_low (Key word.Default p) e = omega arith
clause_low _ e = absurd (let bad : false ≡ true = e in cc)

clause_above : (t : Lexeme) → is_clause t ≡ true → 0 < rank_of t
clause_above (Key word.Case p) e = omega arith
clause_above (Key word.Default p) e = omega arith
clause_above _ e = absurd (let bad : false ≡ true = e in cc)

clause_first : (b : ClauseShapes → ClauseShapes) (ts w : List Lexeme) → OneClause b ts w → Above 0 ts
clause_first b ts w k = subst (Above 0) (sym k.split) (clause_above k.first (clause_token k.first b k.others w k.at))

clauses_last : (l r : List (ClauseShapes → ClauseShapes)) (ts w : List Lexeme) → Above 9 w → Ends l r ts w → Above 0 ts
clauses_last l r ts w stop e = let far : 9 < rank ts = subst (Above 9) (sym e.left) stop in omega arith

-- some clause with this token
clause_some : (t : Lexeme) → is_clause t ≡ true → (s : ClauseShapes → ClauseShapes) × (zs : List Lexeme) × OneClause s (t ∷ zs) []
clause_some (Key word.Case p) e = (
  case_clause p (default_selector some_place ∷ []) false colon_closes.tree.0 colon_closes.tree.1,
  Key word.Default some_place ∷ (colon_closes.more ++ []),
  record {
    first = Key word.Case p;
    others = Key word.Default some_place ∷ (colon_closes.more ++ []);
    split = refl;
    at = record { part = (default_selector some_place ∷ [], false); others = colon_closes.more ++ []; phrase = last (selects_default some_place); rest = record { part = colon_closes.tree; others = []; phrase = colon_closes.closed []; rest = record { same = refl; left = refl } } };
  },
)
clause_some (Key word.Default p) e = (
  default_clause p colon_closes.tree.0 colon_closes.tree.1,
  colon_closes.more ++ [],
  record { first = Key word.Default p; others = colon_closes.more ++ []; split = refl; at = record { part = colon_closes.tree; others = []; phrase = colon_closes.closed []; rest = record { same = refl; left = refl } } },
)
clause_some _ e = absurd (let bad : false ≡ true = e in cc)

-- the token that stands where a clause begins
clause_stands : (o : Option Lexeme) → true ≡ holds is_clause o → (t : Lexeme) × (o ≡ Some t) × (is_clause t ≡ true)
clause_stands None e = absurd (let bad : true ≡ false = e in cc)
clause_stands (Some t) e = (t, refl, sym e)

-- what ends the clauses does not begin with it
clause_apart : (t : Lexeme) → is_clause t ≡ true → (us : List Lexeme) → (vs : List Lexeme) × (us ≡ t ∷ vs) → (l r : List (ClauseShapes → ClauseShapes)) (ys w : List Lexeme) → Above 9 w → Ends l r (us ++ ys) w → ⊥
clause_apart t is us f l r ys w stop e =
    let low : rank_of t ≤ 9 = clause_low t is in
    let far : 9 < rank_of t = subst (Above 9) (sym e.left ∙ ap (λ x. x ++ ys) f.1) stop in
    absurd (omega arith)

no_clause : (s : ClauseShapes → ClauseShapes) (w : List Lexeme) → OneClause s [] w → ⊥
no_clause s w k = let bad : [] ≡ k.first ∷ k.others = k.split in cc

module _ (tokens : List Lexeme) (size from : ℕ) (h : from ≤ length tokens) where
  pub clauses_begin : (start : List (List ℕ)) (node : ℕ) → from ≤ size → (items : List Clause) → items ≡ [] → ClauseWalk tokens size start start from node items from node
  clauses_begin start node within items is =
      subst (λ l. ClauseWalk tokens size start start from node l from node) (sym is)
      (walk_begin clause_seen OneClause ClausesEnd (Many OneClause) (Above 9) tokens size start from node within
      (change (Many OneClause) (Above 9) tokens from from (Many OneClause) (After (Many OneClause) ClausesEnd)
      (λ r ys w stop near m. record { part = r; others = w; phrase = m; rest = record { same = refl; left = refl } })
      (λ r ys w a. subst (λ x. Many OneClause x ys w) (sym a.rest.same) (subst (Many OneClause a.part ys) a.rest.left a.phrase))
      (begin (Many OneClause) (Above 9) tokens from h)))

  module _ (start mid : List (List ℕ)) (node : ℕ) (items : List Clause) (at next : ℕ) (t : ClauseWalk tokens size start mid from node items at next) where
    pub clauses_tree : false ≡ holds is_clause (slice_get tokens at) → ReadsOfBy clauses_seen (Many OneClause) (Above 9) tokens mid from node (record { tree = items; end = at; node = next })
    clauses_tree is = record {
      reads =
          finish_ends (Many OneClause) (Above 9) tokens from at (map (clause_shaped mid) items) (map (clause_shaped mid) items) refl
          (list_end OneClause ClausesEnd (Many OneClause) (Above 9) tokens from at (map (clause_shaped mid) items)
          (λ b ys w g near.
          let stands : slice_get tokens at ≡ Some g.first = near_get tokens at g.first g.others (subst (λ x. Near x (drop at tokens)) g.split near) in
          let bad : false ≡ true = is ∙ ap (holds is_clause) stands ∙ clause_token g.first b g.others w g.at in
          cc)
          t.stage);
      known = t.known;
      nodes = t.nodes;
    }

    module _ (is : true ≡ holds is_clause (slice_get tokens at)) where
      pub clauses_fail : (to : ℕ) → FailsBy OneClause (Above 0) tokens at to → FailsBy (Many OneClause) (Above 9) tokens from to
      clauses_fail to f =
          let here : (t : Lexeme) × (slice_get tokens at ≡ Some t) × (is_clause t ≡ true) = clause_stands (slice_get tokens at) is in
          let some : (s : ClauseShapes → ClauseShapes) × (zs : List Lexeme) × OneClause s (here.0 ∷ zs) [] = clause_some here.0 here.2 in
          list_fails OneClause ClausesEnd (Many OneClause) (Above 9) tokens from (Above 0) clause_first clauses_last at to (map (clause_shaped mid) items) t.stage (λ l. closes_end l) f
          (λ r ys w stop e near. clause_apart here.0 here.2 f.us (fails_nonempty OneClause (Above 0) tokens at here.0 here.1 to f some.0 some.1 [] some.2 (omega arith)) (map (clause_shaped mid) items) r ys w stop e)

      pub clauses_more : (new : List (List ℕ)) → Grows mid new → (s : Read Clause) → ReadsOfBy clause_seen OneClause (Above 0) tokens new at next s → s.end ≤ size →
          s.node + at ≤ next + s.end → length new + at ≤ length mid + s.end → (es : List Clause) → es ≡ items ++ s.tree ∷ [] → ClauseWalk tokens size start new from node es s.end s.node
      clauses_more new g s x within numbered few es same =
          let here : (t : Lexeme) × (slice_get tokens at ≡ Some t) × (is_clause t ≡ true) = clause_stands (slice_get tokens at) is in
          walk_more clause_seen OneClause ClausesEnd (Many OneClause) (Above 9) tokens size clauses_steady start mid new from node items at next t g (Above 0) clause_first clauses_last s.tree es same s.end s.node x.reads x.known x.nodes
          (λ r ys w stop e near. clause_apart here.0 here.2 x.reads.us (reads_nonempty OneClause (Above 0) tokens at here.0 here.1 (clause_shaped new s.tree) s.end x.reads (no_clause (clause_shaped new s.tree))) (map (clause_shaped new) items) r ys w stop e)
          within numbered few
