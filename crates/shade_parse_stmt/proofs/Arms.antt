-- What follows the first block of an `if`, one arm at a time.
use Rattle.std.proofs.Common.{◌≡◌, refl, sym, ap, ◌∙◌, subst, ℕ, ◌+◌, ◌≤◌, inl, inr, max, Option, None, Some, List, [], ◌∷◌, ◌++◌, length, map, drop, arith, slice_get}
use Rattle.std.proofs.lemmas.List.{append-nil}
use Rattle.shade_base.specs.declared.place.Place.{Place}
use Rattle.shade_ast.specs.declared.lexeme.Keyword.TheVariants as word
use Rattle.shade_ast.specs.declared.stmt.Arm.{Arm, out-Arm}
use Rattle.shade_ast.specs.declared.stmt.Block.{Block as BlockTree}
use Rattle.shade_ast.specs.declared.stmt.Otherwise.{Otherwise, out-Otherwise}
use Rattle.shade_ast.specs.Lexemes.{Lexeme, Key}
use Rattle.shade_ast.specs.Names.{Grows}
use Rattle.shade_ast.specs.Needs.{most_of, expr_needs, block_needs}
use Rattle.shade_ast.specs.Nodes.{joined_of, expr_nodes, block_nodes, CountFrom}
use Rattle.shade_ast.specs.Shapes.{ExprShape, BlockShape, ArmShapes, else_arm, else_if_arm}
use Rattle.shade_ast.specs.Shaped.{expr_shape, block_shape, arm_shapes}
use Rattle.shade_ast.specs.Repeats.{Maybe, absent, present}
use Rattle.shade_ast.specs.Statements.{Block}
use Rattle.shade_ast.specs.Reads.{Near}
use Rattle.shade_ast.proofs.Firsts.{First}
use Rattle.shade_ast.specs.Chains.{After, Ends}
use Rattle.shade_ast.proofs.Stages.{near_get}
use Rattle.shade_ast.specs.StmtParts.{arm_shaped, arm_count, otherwise_shaped, otherwise_count, arm_numbers, otherwise_numbers}
use Rattle.shade_ast.proofs.StmtLayers.{arm_is, arm_counts, otherwise_is, otherwise_counts}
use Rattle.shade_ast.proofs.StmtNodes.{arm_numbered, otherwise_numbered}
use Rattle.shade_parse_expr.proofs.Trees.{count_join}
use Rattle.shade_parse_simple.specs.declared.read.Read.{Read}
use Rattle.shade_parse_stmt.specs.declared.parts.Guarded.{Guarded}
use Rattle.shade_parse_simple.specs.Readings.{Seen, ReadsOf}
use Rattle.shade_parse_stmt.specs.StatementParts.{block_seen, Guards, OneArm, LastArm, ArmsEnd, AllArms, guarded_seen, branches_seen}
use Rattle.shade_parse_stmt.specs.Follows.{Above, Free, Marked, ReadsBy, FailsBy, ReadsOfBy}
use Rattle.shade_parse_stmt.proofs.FollowSteps.{Step, begin, change, consume, mark, finish, by_rank}
use Rattle.shade_parse_stmt.proofs.StatementFirsts.{BeginsBlock, block_first, free_above}
use Rattle.shade_parse_stmt.proofs.Grown.{arms_grow}
use Rattle.shade_parse_stmt.proofs.Closings.{expression_closes, block_closes, last_fails, last_reads}
use Rattle.shade_parse_stmt.proofs.CompoundTrees.{last_above, arms_end_closes}
use Rattle.shade_parse_stmt.proofs.Bodies.{MoreThen, Walk, walk_begin, walk_stage, walk_known, walk_more, list_end, list_fails, choice_there, choice_back}
use Rattle.shade_parse_stmt.proofs.Loops.{second_near, fails_nonempty, reads_nonempty, within_of}

abbrev pub arm_seen : Seen Arm (ArmShapes → ArmShapes)
arm_seen = record { shape = arm_shaped; needs = arm_count; nodes = arm_numbers }

abbrev pub ArmWalk : List Lexeme → ℕ → List (List ℕ) → List (List ℕ) → ℕ → ℕ → List Arm → ℕ → ℕ → Type 0
ArmWalk tokens size = Walk arm_seen OneArm ArmsEnd AllArms Free tokens size

-- An arm begins with `else`, and an `if` follows.
arm_first : (b : ArmShapes → ArmShapes) (ts w : List Lexeme) → OneArm b ts w → Above 0 ts
arm_first b ts w a = subst (Above 0) (sym a.split) (omega arith)

arms_end_first : (l : List (ArmShapes → ArmShapes)) (r : ArmShapes) (ts w : List Lexeme) → Free w → ArmsEnd l r ts w → Above 0 ts
arms_end_first l r ts w stop k = last_above k.part ts k.others w k.phrase k.rest.left stop

-- what ends the arms does not begin with `else` and `if`
module _ (tokens : List Lexeme) (at : ℕ) (p q : Place) (is_else : slice_get tokens at ≡ Some (Key word.Else p)) (is_if : slice_get tokens (at + 1) ≡ Some (Key word.If q)) where
  no_block : (b : BlockShape) (ys w : List Lexeme) → Block b ys w → Near ys (drop (at + 1) tokens) → ⊥
  no_block b ys w g near =
      let f : First BeginsBlock ys = block_first b ys w g in
      let stands : slice_get tokens (at + 1) ≡ Some f.first = near_get tokens (at + 1) f.first f.others (subst (λ x. Near x (drop (at + 1) tokens)) f.split near) in
      let same : f.first ≡ Key word.If q = (let both : Some f.first ≡ Some (Key word.If q) = sym stands ∙ is_if in cc) in
      subst BeginsBlock same f.fits

  no_last : (o : Option ArmShapes) (vs us w : List Lexeme) (ys : List Lexeme) → Maybe LastArm o ys us → ys ≡ Key word.Else p ∷ vs → us ≡ w → Free w → Near vs (drop (at + 1) tokens) → ⊥
  no_last o vs us w ys absent e left stop near = subst Free (sym left ∙ e) stop
  no_last o vs us w ys (present {r = r} g) e left stop near =
      let both : Key word.Else p ∷ vs ≡ Key word.Else g.place ∷ g.others = sym e ∙ g.split in
      let rest : g.others ≡ vs = cc in
      no_block g.rest.part vs g.rest.others (subst (λ x. Block g.rest.part x g.rest.others) rest g.rest.phrase) near

  pub no_end : (to : ℕ) (us : List Lexeme) → (vs : List Lexeme) × (us ≡ Key word.Else p ∷ vs) → drop at tokens ≡ us ++ drop to tokens → (l : List (ArmShapes → ArmShapes)) (r : ArmShapes) (ys w : List Lexeme) → Free w → ArmsEnd l r (us ++ ys) w → Near ys (drop to tokens) → ⊥
  no_end to us f spelled l r ys w stop k near =
      no_last k.part (f.0 ++ ys) k.others w (us ++ ys) k.phrase (ap (λ x. x ++ ys) f.1) k.rest.left stop
      (second_near tokens at to (Key word.Else p) f.0 ys is_else (spelled ∙ ap (λ x. x ++ drop to tokens) f.1) near)

  -- an arm
  arm_begin : Step OneArm (Above 0) tokens at (at + 1 + 1) (After Guards (λ g. Ends (else_if_arm p q g.0 g.1)))
  arm_begin =
      mark OneArm (Above 0) tokens at (Key word.If) (λ q. After Guards (λ g. Ends (else_if_arm p q g.0 g.1))) (λ q. refl) (at + 1) q is_if
      (mark OneArm (Above 0) tokens at (Key word.Else) (λ p. Marked (Key word.If) (λ q. After Guards (λ g. Ends (else_if_arm p q g.0 g.1)))) (λ p. refl) at p is_else
      (begin OneArm (Above 0) tokens at (within_of tokens at (Key word.Else p) is_else)))

  far : at + 1 + 1 ≡ at + 2
  far = omega arith

  arm_stage : Step OneArm (Above 0) tokens at (at + 2) (After Guards (λ g. Ends (else_if_arm p q g.0 g.1)))
  arm_stage = subst (λ n. Step OneArm (Above 0) tokens at n (After Guards (λ g. Ends (else_if_arm p q g.0 g.1)))) far arm_begin

  pub arm_fails : (to : ℕ) → FailsBy Guards (Above 0) tokens (at + 2) to → FailsBy OneArm (Above 0) tokens at to
  arm_fails to x = last_fails OneArm (Above 0) tokens at Guards (Above 0) (λ g. else_if_arm p q g.0 g.1) (λ w k. k) (at + 2) arm_stage to x

  pub arm_reads : (g : ExprShape × BlockShape) (to : ℕ) → ReadsBy Guards (Above 0) tokens (at + 2) g to → ReadsBy OneArm (Above 0) tokens at (else_if_arm p q g.0 g.1) to
  arm_reads g to x = last_reads OneArm (Above 0) tokens at Guards (Above 0) (λ g. else_if_arm p q g.0 g.1) (λ w k. k) (at + 2) arm_stage to g x

-- some arm with these tokens
module _ (p q : Place) where
  abbrev some_arm : ArmShapes → ArmShapes
  some_arm = else_if_arm p q expression_closes.tree block_closes.tree

  abbrev some_tokens : List Lexeme
  some_tokens = Key word.If q ∷ (expression_closes.more ++ (block_closes.more ++ []))

  some_reads : OneArm some_arm (Key word.Else p ∷ some_tokens) []
  some_reads = record {
    place = p;
    others = some_tokens;
    split = refl;
    rest = record {
      place = q;
      others = expression_closes.more ++ (block_closes.more ++ []);
      split = refl;
      rest = record {
        part = (expression_closes.tree, block_closes.tree);
        others = [];
        phrase = record { part = expression_closes.tree; others = block_closes.more ++ []; phrase = expression_closes.closed (block_closes.more ++ []); rest = record { part = block_closes.tree; others = []; phrase = block_closes.closed []; rest = record { same = refl; left = refl } } };
        rest = record { same = refl; left = refl };
      };
    };
  }

-- the tree of an arm
module _ (a : Arm) (p q : Place) (g : Guarded) (parts : out-Arm a ≡ record { else_keyword = p; if_keyword = q; condition = g.condition; body = g.body }) where
  arm_shaped_as : (names : List (List ℕ)) → arm_shaped names a ≡ else_if_arm p q (expr_shape names g.condition) (block_shape names g.body)
  arm_shaped_as names = arm_is names a ∙ ap (λ o. λ others. else_if_arm o.else_keyword o.if_keyword (expr_shape names o.condition) (block_shape names o.body) others) parts

  arm_needs_as : arm_count a ≡ guarded_seen.needs g
  arm_needs_as = arm_counts a ∙ ap (λ o. max (expr_needs o.condition) (block_needs o.body)) parts

  arm_nodes_as : arm_numbers a ≡ guarded_seen.nodes g
  arm_nodes_as = arm_numbered a ∙ ap (λ o. expr_nodes o.condition ++ block_nodes o.body) parts

module _ (tokens : List Lexeme) (size from : ℕ) (h : from ≤ length tokens) where
  pub arms_begin : (start : List (List ℕ)) (node : ℕ) → from ≤ size → (items : List Arm) → items ≡ [] → ArmWalk tokens size start start from node items from node
  arms_begin start node within items is = subst (λ l. ArmWalk tokens size start start from node l from node) (sym is) (walk_begin arm_seen OneArm ArmsEnd AllArms Free tokens size start from node within (begin AllArms Free tokens from h))

  module _ (start mid : List (List ℕ)) (node : ℕ) (items : List Arm) (at next : ℕ) (t : ArmWalk tokens size start mid from node items at next) where
    -- no `else` stands here
    pub arms_tree : ((p : Place) → slice_get tokens at ≡ Some (Key word.Else p) → ⊥) → ReadsOfBy branches_seen AllArms Free tokens mid from node (record { tree = record { arms = items; otherwise = None }; end = at; node = next })
    arms_tree never =
        let known : most_of arm_count items ≤ length mid = t.known in
        record {
          reads =
              finish AllArms Free tokens from at (ArmsEnd (map (arm_shaped mid) items)) (arm_shapes (map (arm_shaped mid) items) None)
              (λ w. record { part = None; others = w; phrase = absent; rest = record { same = refl; left = refl } })
              (λ r ys w stop k near. by k.part ys k.others w k.phrase near r k.rest.same k.rest.left)
              (list_end OneArm ArmsEnd AllArms Free tokens from at (map (arm_shaped mid) items) (λ b ys w g near. never g.place (near_get tokens at (Key word.Else g.place) g.others (subst (λ x. Near x (drop at tokens)) g.split near))) t.stage);
          known = omega arith;
          nodes = subst (λ l. CountFrom node l next) (sym (append-nil (joined_of arm_numbers items))) t.nodes;
        }
      where
        by : (o : Option ArmShapes) (ys us w : List Lexeme) → Maybe LastArm o ys us → Near ys (drop at tokens) → (r : ArmShapes) → r ≡ arm_shapes (map (arm_shaped mid) items) o → us ≡ w → (r ≡ arm_shapes (map (arm_shaped mid) items) None) × (ys ≡ w)
        by o ys us w absent near r same left = (same, left)
        by o ys us w (present g) near r same left = absurd (never g.place (near_get tokens at (Key word.Else g.place) g.others (subst (λ x. Near x (drop at tokens)) g.split near)))

    module _ (p : Place) (is_else : slice_get tokens at ≡ Some (Key word.Else p)) where
      -- an `else if`
      module _ (q : Place) (is_if : slice_get tokens (at + 1) ≡ Some (Key word.If q)) where
        pub arms_fail : (to : ℕ) → FailsBy Guards (Above 0) tokens (at + 2) to → FailsBy AllArms Free tokens from to
        arms_fail to x =
            let f : FailsBy OneArm (Above 0) tokens at to = arm_fails tokens at p q is_else is_if to x in
            list_fails OneArm ArmsEnd AllArms Free tokens from (Above 0) arm_first arms_end_first at to (map (arm_shaped mid) items) t.stage arms_end_closes f
            (λ r ys w stop k near. no_end tokens at p q is_else is_if to f.us (fails_nonempty OneArm (Above 0) tokens at (Key word.Else p) is_else to f (some_arm p q) (some_tokens p q) [] (some_reads p q) (omega arith)) f.spelled (map (arm_shaped mid) items) r ys w stop k near)

        pub arms_more : (new : List (List ℕ)) → Grows mid new → (g : Read Guarded) → ReadsOfBy guarded_seen Guards (Above 0) tokens new (at + 2) next g → g.end ≤ size →
            g.node + (at + 2) ≤ next + g.end → length new + (at + 2) ≤ length mid + g.end → (a : Arm) →
            out-Arm a ≡ record { else_keyword = p; if_keyword = q; condition = g.tree.condition; body = g.tree.body } → (es : List Arm) → es ≡ items ++ a ∷ [] →
            ArmWalk tokens size start new from node es g.end g.node
        arms_more new grows g x within numbered few a parts es same =
            let y : ReadsBy OneArm (Above 0) tokens at (arm_shaped new a) g.end = subst (λ s. ReadsBy OneArm (Above 0) tokens at s g.end) (sym (arm_shaped_as a p q g.tree parts new)) (arm_reads tokens at p q is_else is_if (guarded_seen.shape new g.tree) g.end x.reads) in
            let needs : arm_count a ≡ guarded_seen.needs g.tree = arm_needs_as a p q g.tree parts in
            let known : guarded_seen.needs g.tree ≤ length new = x.known in
            walk_more arm_seen OneArm ArmsEnd AllArms Free tokens size arms_grow start mid new from node items at next t grows (Above 0) arm_first arms_end_first a es same g.end g.node y (omega arith) (subst (λ l. CountFrom next l g.node) (sym (arm_nodes_as a p q g.tree parts)) x.nodes)
            (λ r ys w stop k near. no_end tokens at p q is_else is_if g.end y.us
            (reads_nonempty OneArm (Above 0) tokens at (Key word.Else p) is_else (arm_shaped new a) g.end y (λ w k. let bad : [] ≡ Key word.Else k.place ∷ k.others = k.split in cc))
            y.spelled (map (arm_shaped new) items) r ys w stop k near)
            within (omega arith) (omega arith)

      -- a last `else`
      module _ (never : (q : Place) → slice_get tokens (at + 1) ≡ Some (Key word.If q) → ⊥) where
        abbrev LastBlock : List (ArmShapes → ArmShapes) → ArmShapes → List Lexeme → List Lexeme → Type 0
        LastBlock l = After Block (λ b. Ends (arm_shapes l (Some (else_arm p b))))

        last_there : (l : List (ArmShapes → ArmShapes)) (r : ArmShapes) (zs w : List Lexeme) → Free w → Near zs (drop (at + 1) tokens) → MoreThen OneArm ArmsEnd l r (Key word.Else p ∷ zs) w → LastBlock l r zs w
        last_there l r zs w stop near m =
            elim (choice_there OneArm ArmsEnd l r (Key word.Else p ∷ zs) w m) [
              | inl a ↦
                  (let both : Key word.Else p ∷ zs ≡ Key word.Else a.phrase.place ∷ a.phrase.others = a.phrase.split in
                  let rest : zs ≡ a.phrase.others = cc in
                  absurd (never a.phrase.rest.place (near_get tokens (at + 1) (Key word.If a.phrase.rest.place) a.phrase.rest.others (subst (λ x. Near x (drop (at + 1) tokens)) (rest ∙ a.phrase.rest.split) near))))
              | inr k ↦ by k.part (Key word.Else p ∷ zs) k.others k.phrase refl k.rest.same k.rest.left
            ]
          where
            by : (o : Option ArmShapes) (ys us : List Lexeme) → Maybe LastArm o ys us → ys ≡ Key word.Else p ∷ zs → r ≡ arm_shapes l o → us ≡ w → LastBlock l r zs w
            by o ys us absent e same left = absurd (subst Free (sym left ∙ e) stop)
            by o ys us (present {r = x} g) e same left =
                let both : Key word.Else p ∷ zs ≡ Key word.Else g.place ∷ g.others = sym e ∙ g.split in
                let rest : g.others ≡ zs = cc in
                let place : g.place ≡ p = cc in
                record { part = g.rest.part; others = g.rest.others; phrase = subst (λ y. Block g.rest.part y g.rest.others) rest g.rest.phrase; rest = record { same = same ∙ ap (λ y. arm_shapes l (Some y)) (g.rest.rest.same ∙ ap (λ y. else_arm y g.rest.part) place); left = g.rest.rest.left ∙ left } }

        last_back : (l : List (ArmShapes → ArmShapes)) (r : ArmShapes) (zs w : List Lexeme) → LastBlock l r zs w → MoreThen OneArm ArmsEnd l r (Key word.Else p ∷ zs) w
        last_back l r zs w a = choice_back OneArm ArmsEnd l r (Key word.Else p ∷ zs) w
            (inr
            (record {
              part = Some (else_arm p a.part);
              others = a.others;
              phrase = present
                  (record { place = p; others = zs; split = refl; rest = record { part = a.part; others = a.others; phrase = a.phrase; rest = record { same = refl; left = refl } } });
              rest =
                  a.rest;
            }))

        last_stage : (l : List (ArmShapes → ArmShapes)) → Step AllArms Free tokens from at (MoreThen OneArm ArmsEnd l) → Step AllArms Free tokens from (at + 1) (LastBlock l)
        last_stage l s = change AllArms Free tokens from (at + 1) (λ r zs w. MoreThen OneArm ArmsEnd l r (Key word.Else p ∷ zs) w) (LastBlock l)
            (λ r zs w stop near m. last_there l r zs w stop near m) (last_back l) (consume AllArms Free tokens from at (MoreThen OneArm ArmsEnd l) (Key word.Else p) is_else s)

        pub else_fails : (to : ℕ) → FailsBy Block (Above 0) tokens (at + 1) to → FailsBy AllArms Free tokens from to
        else_fails to x = last_fails AllArms Free tokens from Block (Above 0) (λ b. arm_shapes (map (arm_shaped mid) items) (Some (else_arm p b))) free_above (at + 1) (last_stage (map (arm_shaped mid) items) t.stage) to x

        pub else_tree : (new : List (List ℕ)) → Grows mid new → (b : Read BlockTree) → ReadsOf block_seen Block 0 tokens new (at + 1) next b → (o : Otherwise) →
            out-Otherwise o ≡ record { keyword = p; body = b.tree } →
            ReadsOfBy branches_seen AllArms Free tokens new from node (record { tree = record { arms = items; otherwise = Some o }; end = b.end; node = b.node })
        else_tree new g b x o parts =
            let shape : otherwise_shaped new o ≡ else_arm p (block_shape new b.tree) = otherwise_is new o ∙ ap (λ y. else_arm y.keyword (block_shape new y.body)) parts in
            let count : otherwise_count o ≡ block_needs b.tree = otherwise_counts o ∙ ap (λ y. block_needs y.body) parts in
            let numbers : otherwise_numbers o ≡ block_nodes b.tree = otherwise_numbered o ∙ ap (λ y. block_nodes y.body) parts in
            let known : block_needs b.tree ≤ length new = x.known in
            let all : most_of arm_count items ≤ length new = walk_known arm_seen OneArm ArmsEnd AllArms Free tokens size arms_grow start mid new from node items at next t g in
            record {
              reads = subst (λ y. ReadsBy AllArms Free tokens from (arm_shapes (map (arm_shaped new) items) (Some y)) b.end) (sym shape)
                  (last_reads AllArms Free tokens from Block (Above 0) (λ b. arm_shapes (map (arm_shaped new) items) (Some (else_arm p b))) free_above (at + 1)
                  (last_stage (map (arm_shaped new) items) (walk_stage arm_seen OneArm ArmsEnd AllArms Free tokens size arms_grow start mid new from node items at next t g)) b.end
                  (block_shape new b.tree) (by_rank Block 0 tokens (at + 1) (block_shape new b.tree) b.end x.reads));
              known = omega arith;
              nodes = count_join (joined_of arm_numbers items) (otherwise_numbers o) node next b.node t.nodes (subst (λ l. CountFrom next l b.node) (sym numbers) x.nodes);
            }
