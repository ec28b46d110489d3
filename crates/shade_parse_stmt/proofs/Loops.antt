-- Lists of statements, of arms and of clauses, one at a time.
use Rattle.std.proofs.Common.{◌≡◌, refl, sym, ap, ◌∙◌, subst, ℕ, ◌+◌, ◌<◌, ◌≤◌, true, false, Some, List, [], ◌∷◌, ◌++◌, length, map, drop, arith, slice_get}
use Rattle.std.proofs.lemmas.Option.{slice_get_within}
use Rattle.shade_ast.specs.declared.lexeme.Keyword.TheVariants as word
use Rattle.shade_ast.specs.declared.lexeme.Sign.TheVariants as sign
use Rattle.shade_ast.specs.declared.stmt.Stmt.{Stmt}
use Rattle.shade_ast.specs.Lexemes.{Lexeme, Key, Mark}
use Rattle.shade_ast.specs.Names.{Grows}
use Rattle.shade_ast.specs.Shapes.{StmtShape}
use Rattle.shade_ast.specs.Shaped.{stmt_shape}
use Rattle.shade_ast.specs.Repeats.{Many}
use Rattle.shade_ast.specs.Statements.{Statement}
use Rattle.shade_ast.specs.Reads.{Near}
use Rattle.shade_ast.proofs.Firsts.{First}
use Rattle.shade_ast.specs.Chains.{After, Ends}
use Rattle.shade_ast.proofs.Stages.{closes_end, near_get, near_append, one_token}
use Rattle.shade_parse_simple.specs.declared.read.Read.{Read}
use Rattle.shade_parse_stmt.specs.StatementParts.{stmt_seen, stmts_seen}
use Rattle.shade_parse_stmt.specs.Follows.{Closing, ClosingToken, Free, FreeToken, ReadsBy, FailsBy, ReadsOfBy}
use Rattle.shade_parse_stmt.specs.Trees.{holds, is_closing}
use Rattle.shade_parse_stmt.proofs.FollowSteps.{begin, change, finish_ends}
use Rattle.shade_parse_stmt.proofs.StatementFirsts.{BeginsStatement, statement_first, statement_stops, closing_apart}
use Rattle.shade_parse_stmt.proofs.Grown.{stmts_steady}
use Rattle.shade_parse_stmt.proofs.Bodies.{Walk, walk_begin, walk_more, list_end, list_fails}

-- statements up to what ends them
abbrev pub StatementsEnd : List StmtShape → List StmtShape → List Lexeme → List Lexeme → Type 0
StatementsEnd l = Ends l

abbrev pub StatementWalk : List Lexeme → ℕ → List (List ℕ) → List (List ℕ) → ℕ → ℕ → List Stmt → ℕ → ℕ → Type 0
StatementWalk tokens size = Walk stmt_seen Statement StatementsEnd (Many Statement) Closing tokens size

module _ (tokens : List Lexeme) (at : ℕ) where
  -- what was read and what is left, near the place
  pub spelled_near : (to : ℕ) (us ys : List Lexeme) → drop at tokens ≡ us ++ drop to tokens → Near ys (drop to tokens) → Near (us ++ ys) (drop at tokens)
  spelled_near to us ys spelled near = subst (Near (us ++ ys)) (sym spelled) (near_append us ys (drop to tokens) near)

  -- the same behind the first token
  pub second_near : (to : ℕ) (t : Lexeme) (vs ys : List Lexeme) → slice_get tokens at ≡ Some t → drop at tokens ≡ (t ∷ vs) ++ drop to tokens → Near ys (drop to tokens) → Near (vs ++ ys) (drop (at + 1) tokens)
  second_near to t vs ys is spelled near =
      let e : t ∷ drop (at + 1) tokens ≡ t ∷ (vs ++ drop to tokens) = sym (one_token tokens at t is) ∙ spelled in
      let rest : drop (at + 1) tokens ≡ vs ++ drop to tokens = cc in
      subst (Near (vs ++ ys)) (sym rest) (near_append vs ys (drop to tokens) near)

closing_token : (t : Lexeme) → ClosingToken t → is_closing t ≡ true
closing_token (Mark sign.CloseBrace p) h = refl
closing_token (Key word.Continuing p) h = refl
closing_token _ h = absurd h

closing_near : (tokens : List Lexeme) (at : ℕ) (w : List Lexeme) → Closing w → Near w (drop at tokens) → false ≡ holds is_closing (slice_get tokens at) → ⊥
closing_near tokens at [] h near is = h
closing_near tokens at (t ∷ ts) h near is = let bad : false ≡ true = is ∙ ap (holds is_closing) (near_get tokens at t ts near) ∙ closing_token t h in cc

closing_free : (w : List Lexeme) → Closing w → Free w
closing_free [] h = absurd h
closing_free (t ∷ ts) h = by t h
  where
    by : (t : Lexeme) → ClosingToken t → FreeToken t
    by (Mark sign.CloseBrace p) h = omega arith
    by (Key word.Continuing p) h = omega arith
    by _ h = absurd h

statements_stops : (l r : List StmtShape) (ts w : List Lexeme) → Closing w → Ends l r ts w → Free ts
statements_stops l r ts w stop e = closing_free ts (subst Closing (sym e.left) stop)

-- statements up to what ends them
module _ (tokens : List Lexeme) (size from : ℕ) (h : from ≤ length tokens) where
  pub statements_begin : (start : List (List ℕ)) (node : ℕ) → from ≤ size → (items : List Stmt) → items ≡ [] → StatementWalk tokens size start start from node items from node
  statements_begin start node within items is =
      subst (λ l. StatementWalk tokens size start start from node l from node) (sym is)
      (walk_begin stmt_seen Statement StatementsEnd (Many Statement) Closing tokens size start from node within
      (change (Many Statement) Closing tokens from from (Many Statement) (After (Many Statement) StatementsEnd)
      (λ r ys w stop near m. record { part = r; others = w; phrase = m; rest = record { same = refl; left = refl } })
      (λ r ys w a. subst (λ x. Many Statement x ys w) (sym a.rest.same) (subst (Many Statement a.part ys) a.rest.left a.phrase))
      (begin (Many Statement) Closing tokens from h)))

  module _ (start mid : List (List ℕ)) (node : ℕ) (items : List Stmt) (at next : ℕ) (t : StatementWalk tokens size start mid from node items at next) where
    pub statements_tree : true ≡ holds is_closing (slice_get tokens at) → ReadsOfBy stmts_seen (Many Statement) Closing tokens mid from node (record { tree = items; end = at; node = next })
    statements_tree is = record {
      reads =
          finish_ends (Many Statement) Closing tokens from at (map (stmt_shape mid) items) (map (stmt_shape mid) items) refl
          (list_end Statement StatementsEnd (Many Statement) Closing tokens from at (map (stmt_shape mid) items)
          (λ b ys w g near.
          let f : First BeginsStatement ys = statement_first b ys w g in
          let stands : slice_get tokens at ≡ Some f.first = near_get tokens at f.first f.others (subst (λ x. Near x (drop at tokens)) f.split near) in
          closing_apart f.first (sym (is ∙ ap (holds is_closing) stands)) f.fits)
          t.stage);
      known = t.known;
      nodes = t.nodes;
    }

    module _ (is : false ≡ holds is_closing (slice_get tokens at)) where
      pub statements_fail : (to : ℕ) → FailsBy Statement Free tokens at to → FailsBy (Many Statement) Closing tokens from to
      statements_fail to f =
          list_fails Statement StatementsEnd (Many Statement) Closing tokens from Free statement_stops statements_stops at to (map (stmt_shape mid) items) t.stage (λ l. closes_end l) f
          (λ r ys w stop e near. closing_near tokens at w stop (subst (λ x. Near x (drop at tokens)) e.left (spelled_near tokens at to f.us ys f.spelled near)) is)

      pub statements_more : (new : List (List ℕ)) → Grows mid new → (s : Read Stmt) → ReadsOfBy stmt_seen Statement Free tokens new at next s → s.end ≤ size → s.node + at ≤ next + s.end →
          length new + at ≤ length mid + s.end → (es : List Stmt) → es ≡ items ++ s.tree ∷ [] → StatementWalk tokens size start new from node es s.end s.node
      statements_more new g s x within numbered few es same =
          walk_more stmt_seen Statement StatementsEnd (Many Statement) Closing tokens size stmts_steady start mid new from node items at next t g Free statement_stops statements_stops s.tree es same s.end s.node x.reads x.known x.nodes
          (λ r ys w stop e near. closing_near tokens at w stop (subst (λ y. Near y (drop at tokens)) e.left (spelled_near tokens at s.end x.reads.us ys x.reads.spelled near)) is)
          within numbered few

pub within_of : (tokens : List Lexeme) (at : ℕ) (t : Lexeme) → slice_get tokens at ≡ Some t → at ≤ length tokens
within_of tokens at t is = let lt : at < length tokens = slice_get_within tokens at t is in omega arith

-- what was read of a part that is never empty begins with the token at its place
nonempty : (tokens : List Lexeme) (at : ℕ) (t : Lexeme) → slice_get tokens at ≡ Some t → (to : ℕ) (us : List Lexeme) → drop at tokens ≡ us ++ drop to tokens → (us ≡ [] → ⊥) → (vs : List Lexeme) × (us ≡ t ∷ vs)
nonempty tokens at t is to [] spelled never = absurd (never refl)
nonempty tokens at t is to (u ∷ us) spelled never =
    let e : t ∷ drop (at + 1) tokens ≡ u ∷ (us ++ drop to tokens) = sym (one_token tokens at t is) ∙ spelled in
    let same : u ≡ t = cc in
    (us, ap (λ x. x ∷ us) same)

module _ {R : Type 0} (G : R → List Lexeme → List Lexeme → Type 0) (F : List Lexeme → Type 0) (tokens : List Lexeme) (at : ℕ) (t : Lexeme) (is : slice_get tokens at ≡ Some t) where
  pub reads_nonempty : (r : R) (to : ℕ) → (x : ReadsBy G F tokens at r to) → ((w : List Lexeme) → G r [] w → ⊥) → (vs : List Lexeme) × (x.us ≡ t ∷ vs)
  reads_nonempty r to x never = nonempty tokens at t is to x.us x.spelled (λ e. never [] (subst (λ y. G r (y ++ []) []) e (x.phrase [])))

  pub fails_nonempty : (to : ℕ) → (f : FailsBy G F tokens at to) → (s : R) (zs w : List Lexeme) → G s (t ∷ zs) w → F w → (vs : List Lexeme) × (f.us ≡ t ∷ vs)
  fails_nonempty to f s zs w g stop =
      nonempty tokens at t is to f.us f.spelled
      (λ e.
      let here : drop to tokens ≡ t ∷ drop (at + 1) tokens = sym (f.spelled ∙ ap (λ y. y ++ drop to tokens) e) ∙ one_token tokens at t is in
      f.none s (t ∷ zs) w (subst (λ y. G s (y ++ t ∷ zs) w) (sym e) g) stop (subst (Near (t ∷ zs)) (sym here) refl))
