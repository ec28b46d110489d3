-- The statements of a continuing part, one at a time, and what ends them.
use Rattle.std.proofs.Common.{◌≡◌, refl, sym, ap, ◌∙◌, subst, ℕ, ◌+◌, ◌≤◌, inl, inr, true, false, Option, None, Some, List, [], ◌∷◌, ◌++◌, length, map, drop, arith, slice_get}
use Rattle.std.proofs.lemmas.List.{append-nil}
use Rattle.shade_base.specs.declared.place.Place.{Place}
use Rattle.shade_ast.specs.declared.lexeme.Keyword.TheVariants as word
use Rattle.shade_ast.specs.declared.lexeme.Sign.TheVariants as sign
use Rattle.shade_ast.specs.declared.stmt.Stmt.{Stmt}
use Rattle.shade_ast.specs.Lexemes.{Lexeme, Key, Mark}
use Rattle.shade_ast.specs.Names.{Grows}
use Rattle.shade_ast.specs.Needs.{most_of, stmt_needs, expr_needs}
use Rattle.shade_ast.specs.Nodes.{joined_of, stmt_nodes, expr_nodes, CountFrom}
use Rattle.shade_ast.specs.Shapes.{ExprShape, BreakIfShape, StmtShape, break_stmt}
use Rattle.shade_ast.specs.Shaped.{stmt_shape}
use Rattle.shade_ast.specs.Repeats.{Maybe, absent, present}
use Rattle.shade_ast.specs.Expressions.{Expression}
use Rattle.shade_ast.specs.Statements.{Statement, is_break, BreaksIf, breaks_if}
use Rattle.shade_ast.specs.Reads.{Near}
use Rattle.shade_ast.proofs.Firsts.{First, first_is}
use Rattle.shade_ast.specs.Chains.{After, Ends}
use Rattle.shade_ast.proofs.Stages.{near_get}
use Rattle.shade_ast.proofs.Placed.{some_place}
use Rattle.shade_parse_expr.proofs.Trees.{count_join}
use Rattle.shade_parse_simple.specs.declared.read.Read.{Read}
use Rattle.shade_parse_stmt.specs.declared.parts.Leave.{Leave}
use Rattle.shade_parse_stmt.specs.StatementParts.{stmt_seen, LastShape, LastEnd, LastStatements, Leaves, Plain, PlainAt, leave_seen, last_seen}
use Rattle.shade_parse_stmt.specs.Follows.{Anything, Free, Marked, FailsBy, ReadsOfBy}
use Rattle.shade_parse_stmt.specs.Trees.{is_compound}
use Rattle.shade_parse_stmt.proofs.FollowSteps.{Step, begin, change, consume, finish_ends}
use Rattle.shade_parse_stmt.proofs.StatementFirsts.{BeginsStatement, BeginsSimple, simple_first, statement_first, statement_stops}
use Rattle.shade_parse_stmt.proofs.Phrasings.{statement_there}
use Rattle.shade_parse_stmt.proofs.Compounds.{compound_first}
use Rattle.shade_parse_stmt.proofs.Grown.{stmts_steady}
use Rattle.shade_parse_stmt.proofs.Closings.{last_fails, last_reads}
use Rattle.shade_parse_stmt.proofs.LoopLaws.{last_end_closes}
use Rattle.shade_parse_stmt.proofs.Bodies.{MoreThen, Walk, walk_begin, walk_stage, walk_known, walk_more, list_end, list_fails, choice_there, choice_back}
use Rattle.shade_parse_stmt.proofs.Loops.{spelled_near, second_near, fails_nonempty, reads_nonempty}

abbrev pub LastWalk : List Lexeme → ℕ → List (List ℕ) → List (List ℕ) → ℕ → ℕ → List Stmt → ℕ → ℕ → Type 0
LastWalk tokens size = Walk stmt_seen Statement LastEnd LastStatements Anything tokens size

-- `break` and `if`, from their first token on
break_tokens : (b : BreakIfShape) (ys us : List Lexeme) → BreaksIf b ys us → (ts : List Lexeme) × (ys ≡ Key word.Break b.break_place ∷ (Key word.If b.if_place ∷ ts))
break_tokens b ys us (breaks_if c p {ts = ts} g) = (ts, refl)

break_rest : (b : BreakIfShape) (ys us : List Lexeme) → BreaksIf b ys us → (ts : List Lexeme) × (s : Place) × (ys ≡ Key word.Break b.break_place ∷ (Key word.If b.if_place ∷ ts)) × Expression b.condition ts (Mark sign.Semicolon s ∷ us)
break_rest b ys us (breaks_if c p {ts = ts} g) = (ts, p, refl, g)

leave_free : (o : Option BreakIfShape) (ts us vs : List Lexeme) (q : Place) → Maybe BreaksIf o ts us → us ≡ Mark sign.CloseBrace q ∷ vs → Free ts
leave_free o ts us vs q absent e = subst Free (sym e) (omega arith)
leave_free o ts us vs q (present {r = b} g) e = subst Free (sym (break_tokens b ts us g).1) (omega arith)

last_end_free : (l : List StmtShape) (r : LastShape) (ts w : List Lexeme) → Anything w → LastEnd l r ts w → Free ts
last_end_free l r ts w stop k = leave_free k.part ts k.others k.rest.others k.rest.place k.phrase k.rest.split

-- no statement begins with `break` and `if`
no_statement : (s : StmtShape) (p q : Place) (zs w : List Lexeme) → Statement s (Key word.Break p ∷ (Key word.If q ∷ zs)) w → ⊥
no_statement s p q zs w g =
    elim (statement_there s (Key word.Break p ∷ (Key word.If q ∷ zs)) w g) [
      | inl k ↦ (let bad : is_compound (Key word.Break p) ≡ true = first_is (λ t. is_compound t ≡ true) (Key word.Break p) (Key word.If q ∷ zs) (compound_first s (Key word.Break p ∷ (Key word.If q ∷ zs)) w k) in let worse : false ≡ true = bad in cc)
      | inr c ↦ by c
    ]
  where
    at_head : (t : Lexeme) (us : List Lexeme) → Key word.Break p ∷ (Key word.If q ∷ zs) ≡ t ∷ us → PlainAt t s us w → ⊥
    at_head t us e a =
        let same : t ≡ Key word.Break p = cc in
        let rest : us ≡ Key word.If q ∷ zs = cc in
        let m : Marked (Mark sign.Semicolon) (λ x. Ends (break_stmt p)) s (Key word.If q ∷ zs) w = subst (λ x. PlainAt (Key word.Break p) s x w) rest (subst (λ x. PlainAt x s us w) same a) in
        let bad : Key word.If q ∷ zs ≡ Mark sign.Semicolon m.place ∷ m.others = m.split in
        let worse : Key word.If q ≡ Mark sign.Semicolon m.place = cc in
        cc

    by : Plain s (Key word.Break p ∷ (Key word.If q ∷ zs)) w → ⊥
    by c =
        elim c [
          | inl h ↦ at_head h.first h.others h.split h.at
          | inr k ↦ first_is BeginsSimple (Key word.Break p) (Key word.If q ∷ zs) (simple_first k.part (Key word.Break p ∷ (Key word.If q ∷ zs)) k.others k.phrase)
        ]

-- neither a `}` nor a `break if` stands at the place
module _ (tokens : List Lexeme) (at : ℕ) (no_brace : (p : Place) → slice_get tokens at ≡ Some (Mark sign.CloseBrace p) → ⊥) (no_leave : (p q : Place) → slice_get tokens at ≡ Some (Key word.Break p) → slice_get tokens (at + 1) ≡ Some (Key word.If q) → ⊥) where
  -- `grown` says that what was read is not empty, where the place has this token
  no_last_end : (to : ℕ) (us : List Lexeme) → drop at tokens ≡ us ++ drop to tokens →
      ((p : Place) → slice_get tokens at ≡ Some (Key word.Break p) → (vs : List Lexeme) × (us ≡ Key word.Break p ∷ vs)) → (l : List StmtShape) (r : LastShape) (ys w : List Lexeme) →
      LastEnd l r (us ++ ys) w → Near ys (drop to tokens) → ⊥
  no_last_end to us spelled filled l r ys w k near = by k.part (us ++ ys) k.others k.phrase refl k.rest.place k.rest.split
    where
      by : (o : Option BreakIfShape) (ts others : List Lexeme) → Maybe BreaksIf o ts others → ts ≡ us ++ ys → (q : Place) {vs : List Lexeme} → others ≡ Mark sign.CloseBrace q ∷ vs → ⊥
      by o ts others absent e q {vs} split = no_brace q (near_get tokens at (Mark sign.CloseBrace q) vs (subst (λ x. Near x (drop at tokens)) (sym e ∙ split) (spelled_near tokens at to us ys spelled near)))
      by o ts others (present {r = b} g) e q split =
          let t = break_tokens b ts others g in
          let whole : us ++ ys ≡ Key word.Break b.break_place ∷ (Key word.If b.if_place ∷ t.0) = sym e ∙ t.1 in
          let is : slice_get tokens at ≡ Some (Key word.Break b.break_place) = near_get tokens at (Key word.Break b.break_place) (Key word.If b.if_place ∷ t.0) (subst (λ x. Near x (drop at tokens)) whole (spelled_near tokens at to us ys spelled near)) in
          let f : (vs : List Lexeme) × (us ≡ Key word.Break b.break_place ∷ vs) = filled b.break_place is in
          let both : Key word.Break b.break_place ∷ (f.0 ++ ys) ≡ Key word.Break b.break_place ∷ (Key word.If b.if_place ∷ t.0) = sym (ap (λ x. x ++ ys) f.1) ∙ whole in
          let rest : f.0 ++ ys ≡ Key word.If b.if_place ∷ t.0 = cc in
          no_leave b.break_place b.if_place is (near_get tokens (at + 1) (Key word.If b.if_place) t.0 (subst (λ x. Near x (drop (at + 1) tokens)) rest (second_near tokens at to (Key word.Break b.break_place) f.0 ys is (spelled ∙ ap (λ x. x ++ drop to tokens) f.1) near)))

module _ (tokens : List Lexeme) (size from : ℕ) (h : from ≤ length tokens) where
  pub last_begin : (start : List (List ℕ)) (node : ℕ) → from ≤ size → (items : List Stmt) → items ≡ [] → LastWalk tokens size start start from node items from node
  last_begin start node within items is = subst (λ l. LastWalk tokens size start start from node l from node) (sym is) (walk_begin stmt_seen Statement LastEnd LastStatements Anything tokens size start from node within (begin LastStatements Anything tokens from h))

  module _ (start mid : List (List ℕ)) (node : ℕ) (items : List Stmt) (at next : ℕ) (t : LastWalk tokens size start mid from node items at next) where
    -- a `}` stands here
    module _ (p : Place) (is : slice_get tokens at ≡ Some (Mark sign.CloseBrace p)) where
      brace_there : (l : List StmtShape) (r : LastShape) (zs w : List Lexeme) → LastEnd l r (Mark sign.CloseBrace p ∷ zs) w → Ends (record { body = l; leave = None; end = p }) r zs w
      brace_there l r zs w k = by k.part (Mark sign.CloseBrace p ∷ zs) k.others k.phrase refl k.rest.place k.rest.split k.rest.rest.same k.rest.rest.left
        where
          by : (o : Option BreakIfShape) (ts us : List Lexeme) → Maybe BreaksIf o ts us → ts ≡ Mark sign.CloseBrace p ∷ zs → (q : Place) {vs : List Lexeme} →
              us ≡ Mark sign.CloseBrace q ∷ vs → r ≡ record { body = l; leave = o; end = q } → vs ≡ w → Ends (record { body = l; leave = None; end = p }) r zs w
          by o ts us absent e q {vs} split same left =
              let both : Mark sign.CloseBrace p ∷ zs ≡ Mark sign.CloseBrace q ∷ vs = sym e ∙ split in
              let place : q ≡ p = cc in
              let rest : zs ≡ vs = cc in
              record { same = same ∙ ap (λ x. record { body = l; leave = None; end = x }) place; left = rest ∙ left }
          by o ts us (present {r = b} g) e q split same left =
              let k = break_tokens b ts us g in
              let bad : Mark sign.CloseBrace p ∷ zs ≡ Key word.Break b.break_place ∷ (Key word.If b.if_place ∷ k.0) = sym e ∙ k.1 in
              let worse : Mark sign.CloseBrace p ≡ Key word.Break b.break_place = cc in
              absurd (let other : Mark sign.CloseBrace p ≡ Key word.Break b.break_place = worse in cc)

      brace_back : (l : List StmtShape) (r : LastShape) (zs w : List Lexeme) → Ends (record { body = l; leave = None; end = p }) r zs w → LastEnd l r (Mark sign.CloseBrace p ∷ zs) w
      brace_back l r zs w e = record { part = None; others = Mark sign.CloseBrace p ∷ zs; phrase = absent; rest = record { place = p; others = zs; split = refl; rest = e } }

      pub last_brace_tree : ReadsOfBy last_seen LastStatements Anything tokens mid from node (record { tree = record { statements = items; leave = None; end = p }; end = at + 1; node = next })
      last_brace_tree =
          let known : most_of stmt_needs items ≤ length mid = t.known in
          let shape : LastShape = record { body = map (stmt_shape mid) items; leave = None; end = p } in
          record {
            reads =
                finish_ends LastStatements Anything tokens from (at + 1) shape shape refl
                (change LastStatements Anything tokens from (at + 1) (λ r zs w. LastEnd (map (stmt_shape mid) items) r (Mark sign.CloseBrace p ∷ zs) w) (Ends shape)
                (λ r zs w stop near k. brace_there (map (stmt_shape mid) items) r zs w k)
                (brace_back (map (stmt_shape mid) items))
                (consume LastStatements Anything tokens from at (LastEnd (map (stmt_shape mid) items)) (Mark sign.CloseBrace p) is
                (list_end Statement LastEnd LastStatements Anything tokens from at (map (stmt_shape mid) items)
                (λ b ys w g near.
                let f : First BeginsStatement ys = statement_first b ys w g in
                let stands : slice_get tokens at ≡ Some f.first = near_get tokens at f.first f.others (subst (λ x. Near x (drop at tokens)) f.split near) in
                let same : f.first ≡ Mark sign.CloseBrace p = (let both : Some f.first ≡ Some (Mark sign.CloseBrace p) = sym stands ∙ is in cc) in
                subst BeginsStatement same f.fits)
                t.stage)));
            known = omega arith;
            nodes = subst (λ l. CountFrom node l next) (sym (append-nil (joined_of stmt_nodes items))) t.nodes;
          }

    -- neither a `}` nor a `break if` does
    module _ (no_brace : (p : Place) → slice_get tokens at ≡ Some (Mark sign.CloseBrace p) → ⊥) (no_leave : (p q : Place) → slice_get tokens at ≡ Some (Key word.Break p) → slice_get tokens (at + 1) ≡ Some (Key word.If q) → ⊥) where
      pub last_item_fails : (to : ℕ) → FailsBy Statement Free tokens at to → FailsBy LastStatements Anything tokens from to
      last_item_fails to f =
          list_fails Statement LastEnd LastStatements Anything tokens from Free statement_stops last_end_free at to (map (stmt_shape mid) items) t.stage last_end_closes f
          (λ r ys w stop k near. no_last_end tokens at no_brace no_leave to f.us f.spelled (λ p is. fails_nonempty Statement Free tokens at (Key word.Break p) is to f (break_stmt p) (Mark sign.Semicolon some_place ∷ []) [] (is_break p some_place) tt) (map (stmt_shape mid) items) r ys w k near)

      pub last_more : (new : List (List ℕ)) → Grows mid new → (s : Read Stmt) → ReadsOfBy stmt_seen Statement Free tokens new at next s → s.end ≤ size → s.node + at ≤ next + s.end →
          length new + at ≤ length mid + s.end → (es : List Stmt) → es ≡ items ++ s.tree ∷ [] → LastWalk tokens size start new from node es s.end s.node
      last_more new g s x within numbered few es same =
          walk_more stmt_seen Statement LastEnd LastStatements Anything tokens size stmts_steady start mid new from node items at next t g Free statement_stops last_end_free s.tree es same s.end s.node x.reads x.known x.nodes
          (λ r ys w stop k near. no_last_end tokens at no_brace no_leave s.end x.reads.us x.reads.spelled
          (λ p is. reads_nonempty Statement Free tokens at (Key word.Break p) is (stmt_shape new s.tree) s.end x.reads
          (λ v q. let f : First BeginsStatement [] = statement_first (stmt_shape new s.tree) [] v q in let bad : [] ≡ f.first ∷ f.others = f.split in cc))
          (map (stmt_shape new) items) r ys w k near)
          within numbered few

    -- a `break if` does
    module _ (p q : Place) (is_key : slice_get tokens at ≡ Some (Key word.Break p)) (is_if : slice_get tokens (at + 1) ≡ Some (Key word.If q)) where
      abbrev leave_shape : List StmtShape → ExprShape × Place → LastShape
      leave_shape l v = record { body = l; leave = Some (record { break_place = p; if_place = q; condition = v.0 }); end = v.1 }

      leave_there : (l : List StmtShape) (r : LastShape) (zs w : List Lexeme) → MoreThen Statement LastEnd l r (Key word.Break p ∷ (Key word.If q ∷ zs)) w → After Leaves (λ v. Ends (leave_shape l v)) r zs w
      leave_there l r zs w m =
          elim (choice_there Statement LastEnd l r (Key word.Break p ∷ (Key word.If q ∷ zs)) w m) [
            | inl a ↦ absurd (no_statement a.part p q zs a.others a.phrase)
            | inr k ↦ by k.part (Key word.Break p ∷ (Key word.If q ∷ zs)) k.others k.phrase refl k.rest.place k.rest.split k.rest.rest.same k.rest.rest.left
          ]
        where
          by : (o : Option BreakIfShape) (ts us : List Lexeme) → Maybe BreaksIf o ts us → ts ≡ Key word.Break p ∷ (Key word.If q ∷ zs) → (s : Place) {vs : List Lexeme} →
              us ≡ Mark sign.CloseBrace s ∷ vs → r ≡ record { body = l; leave = o; end = s } → vs ≡ w → After Leaves (λ v. Ends (leave_shape l v)) r zs w
          by o ts us absent e s {vs} split same left = absurd (let bad : Key word.Break p ∷ (Key word.If q ∷ zs) ≡ Mark sign.CloseBrace s ∷ vs = sym e ∙ split in let worse : Key word.Break p ≡ Mark sign.CloseBrace s = cc in cc)
          by o ts us (present {r = b} g) e s {vs} split same left =
              let k = break_rest b ts us g in
              let both : Key word.Break b.break_place ∷ (Key word.If b.if_place ∷ k.0) ≡ Key word.Break p ∷ (Key word.If q ∷ zs) = sym k.2 ∙ e in
              let first : b.break_place ≡ p = cc in
              let second : b.if_place ≡ q = cc in
              let rest : k.0 ≡ zs = cc in
              record {
                part = (b.condition, s);
                others = vs;
                phrase = record {
                  part = b.condition;
                  others = us;
                  phrase = record {
                    part = b.condition;
                    others = Mark sign.Semicolon k.1 ∷ us;
                    phrase = subst (λ x. Expression b.condition x (Mark sign.Semicolon k.1 ∷ us)) rest k.3;
                    rest = record
                        { place = k.1; others = us; split = refl; rest = record { same = refl; left = refl } };
                  };
                  rest = record
                      { place = s; others = vs; split = split; rest = record { same = refl; left = refl } };
                };
                rest = record { same = same ∙ (λ i. record { body = l; leave = Some (record { break_place = first i; if_place = second i; condition = b.condition }); end = s }); left = left };
              }

      leave_back : (l : List StmtShape) (r : LastShape) (zs w : List Lexeme) → After Leaves (λ v. Ends (leave_shape l v)) r zs w → MoreThen Statement LastEnd l r (Key word.Break p ∷ (Key word.If q ∷ zs)) w
      leave_back l r zs w a =
          let v = a.phrase in
          let e = v.phrase in
          let b : BreakIfShape = record { break_place = p; if_place = q; condition = v.part } in
          let g : Expression v.part zs (Mark sign.Semicolon e.rest.place ∷ v.others) = subst (λ x. Expression x zs (Mark sign.Semicolon e.rest.place ∷ v.others)) (sym e.rest.rest.same)
          (subst (Expression e.part zs) (e.rest.split ∙ ap (λ x. Mark sign.Semicolon e.rest.place ∷ x) e.rest.rest.left) e.phrase) in
          choice_back Statement LastEnd l r (Key word.Break p ∷ (Key word.If q ∷ zs)) w (inr (record {
            part = Some b;
            others = v.others;
            phrase = present (breaks_if b e.rest.place g);
            rest = record { place = v.rest.place; others = v.rest.others; split = v.rest.split; rest = record { same = a.rest.same ∙ ap (leave_shape l) v.rest.rest.same; left = v.rest.rest.left ∙ a.rest.left } };
          }))

      two : at + 1 + 1 ≡ at + 2
      two = omega arith

      leave_stage : (l : List StmtShape) → Step LastStatements Anything tokens from at (MoreThen Statement LastEnd l) → Step LastStatements Anything tokens from (at + 2) (After Leaves (λ v. Ends (leave_shape l v)))
      leave_stage l s =
          subst (λ n. Step LastStatements Anything tokens from n (After Leaves (λ v. Ends (leave_shape l v)))) two
          (change LastStatements Anything tokens from (at + 1 + 1) (λ r zs w. MoreThen Statement LastEnd l r (Key word.Break p ∷ (Key word.If q ∷ zs)) w) (After Leaves (λ v. Ends (leave_shape l v)))
          (λ r zs w stop near m. leave_there l r zs w m)
          (leave_back l)
          (consume LastStatements Anything tokens from (at + 1) (λ r zs w. MoreThen Statement LastEnd l r (Key word.Break p ∷ zs) w) (Key word.If q) is_if
          (consume LastStatements Anything tokens from at (MoreThen Statement LastEnd l) (Key word.Break p) is_key s)))

      pub last_leave_fails : (to : ℕ) → FailsBy Leaves Anything tokens (at + 2) to → FailsBy LastStatements Anything tokens from to
      last_leave_fails to x = last_fails LastStatements Anything tokens from Leaves Anything (leave_shape (map (stmt_shape mid) items)) (λ w k. k) (at + 2) (leave_stage (map (stmt_shape mid) items) t.stage) to x

      pub last_leave_tree : (new : List (List ℕ)) → Grows mid new → (v : Read Leave) → ReadsOfBy leave_seen Leaves Anything tokens new (at + 2) next v →
          ReadsOfBy last_seen LastStatements Anything tokens new from node
          (record {
            tree = record { statements = items; leave = Some (record { break_keyword = p; if_keyword = q; condition = v.tree.condition }); end = v.tree.end };
            end = v.end;
            node = v.node;
          })
      last_leave_tree new g v x =
          let known : most_of stmt_needs items ≤ length new = walk_known stmt_seen Statement LastEnd LastStatements Anything tokens size stmts_steady start mid new from node items at next t g in
          let need : expr_needs v.tree.condition ≤ length new = x.known in
          record {
            reads = last_reads LastStatements Anything tokens from Leaves Anything (leave_shape (map (stmt_shape new) items)) (λ w k. k) (at + 2)
                (leave_stage (map (stmt_shape new) items) (walk_stage stmt_seen Statement LastEnd LastStatements Anything tokens size stmts_steady start mid new from node items at next t g))
                v.end (leave_seen.shape new v.tree) x.reads;
            known = omega arith;
            nodes = count_join (joined_of stmt_nodes items) (expr_nodes v.tree.condition) node next v.node t.nodes x.nodes;
          }
