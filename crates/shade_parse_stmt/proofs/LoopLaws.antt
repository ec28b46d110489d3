-- What follows the keyword of a `loop`.
use Rattle.std.proofs.Common.{◌≡◌, refl, sym, ap, ◌∙◌, subst, ℕ, ◌+◌, ◌≤◌, max, None, Some, List, [], ◌∷◌, ◌++◌, length, map, drop, arith, slice_get}
use Rattle.std.specs.Prelude.{option_map}
use Rattle.shade_base.specs.declared.place.Place.{Place}
use Rattle.shade_ast.specs.declared.attr.Attr.{Attr}
use Rattle.shade_ast.specs.declared.lexeme.Keyword.TheVariants as word
use Rattle.shade_ast.specs.declared.lexeme.Sign.TheVariants as sign
use Rattle.shade_ast.specs.declared.stmt.Continuing.{Continuing, out-Continuing}
use Rattle.shade_ast.specs.declared.stmt.Stmt.{Stmt}
use Rattle.shade_ast.specs.Lexemes.{Lexeme, Key, Mark}
use Rattle.shade_ast.specs.Names.{Grows}
use Rattle.shade_ast.specs.Needs.{most_of, attrs_need, stmt_needs, break_if_needs, maybe_of as maybe_needs}
use Rattle.shade_ast.specs.Nodes.{joined_of, attrs_nodes, stmt_nodes, break_if_nodes, CountFrom, maybe_of as maybe_nodes}
use Rattle.shade_ast.specs.Shapes.{AttrShape, StmtShape, ContinuingShape, no_continuing, continuing_part}
use Rattle.shade_ast.specs.Shaped.{attr_shapes, stmt_shape, stmt_shapes, break_if_shape}
use Rattle.shade_ast.specs.Repeats.{Many, Maybe}
use Rattle.shade_ast.specs.Statements.{Attribute, Statement, BreaksIf}
use Rattle.shade_ast.specs.Reads.{Near}
use Rattle.shade_ast.specs.Chains.{After, Ends, Headed}
use Rattle.shade_ast.proofs.Stages.{Closes, closes_end, closes_after, near_get}
use Rattle.shade_ast.proofs.Placed.{some_place}
use Rattle.shade_ast.specs.StmtParts.{continuing_shaped, continuing_count, continuing_numbers}
use Rattle.shade_ast.proofs.StmtLayers.{continuing_is, continuing_counts}
use Rattle.shade_ast.proofs.StmtNodes.{continuing_numbered}
use Rattle.shade_parse_expr.proofs.Trees.{count_join}
use Rattle.shade_parse_simple.specs.declared.read.Read.{Read}
use Rattle.shade_parse_stmt.specs.declared.parts.LastBody.{LastBody}
use Rattle.shade_parse_stmt.specs.declared.parts.LoopEnd.{LoopEnd}
use Rattle.shade_parse_simple.specs.Readings.{attrs_seen, ReadsOf}
use Rattle.shade_parse_stmt.specs.StatementParts.{LoopEnds, LoopShape, LoopRest, LastShape, LastEnd, LastStatements, ContinuingRest, stmts_seen, last_seen, continuing_seen, loop_end_seen, loop_seen}
use Rattle.shade_parse_stmt.specs.Follows.{Above, Anything, Closing, ClosingToken, Marked, ReadsBy, FailsBy, ReadsOfBy}
use Rattle.shade_parse_stmt.proofs.FollowSteps.{Step, begin, change, phrase, phrase_fails, mark, stuck_mark, marked_stops, closes_marked, finish_ends, head, stuck}
use Rattle.shade_parse_stmt.proofs.Phrasings.{LoopEndAt, loop_ends_there, loop_ends_back}
use Rattle.shade_parse_stmt.proofs.Grown.{grown, stmts_steady}
use Rattle.shade_parse_stmt.proofs.Handing.{ranked_read}
use Rattle.shade_parse_stmt.proofs.Closings.{many_closes, maybe_closes, last_fails, last_reads, closed_fails, closed_open, closed_reads}
use Rattle.shade_parse_stmt.proofs.Compounds.{attrs_later}

-- what ends a list before a `}`
pub last_end_closes : (l : List StmtShape) → Closes (LastEnd l)
last_end_closes l = closes_after (Maybe BreaksIf) (λ o. Marked (Mark sign.CloseBrace) (λ q. Ends (record { body = l; leave = o; end = q }))) (maybe_closes BreaksIf)
    (λ o. closes_marked (Mark sign.CloseBrace) (λ q. Ends (record { body = l; leave = o; end = q })) (closes_end (record { body = l; leave = o; end = some_place })))

last_closes : Closes LastStatements
last_closes = closes_after (Many Statement) LastEnd (many_closes Statement) last_end_closes

abbrev PartBody : Place → List AttrShape → ContinuingShape → List Lexeme → List Lexeme → Type 0
PartBody keyword attrs = Marked (Mark sign.OpenBrace) (λ p. After LastStatements (λ l. Ends (continuing_part keyword attrs (stmt_shapes l.body) l.leave l.end)))

part_inside_closes : (keyword : Place) (attrs : List AttrShape) → Closes (After LastStatements (λ l. Ends (continuing_part keyword attrs (stmt_shapes l.body) l.leave l.end)))
part_inside_closes keyword attrs = closes_after LastStatements (λ l. Ends (continuing_part keyword attrs (stmt_shapes l.body) l.leave l.end)) last_closes (λ l. closes_end (continuing_part keyword attrs (stmt_shapes l.body) l.leave l.end))

part_body_closes : (keyword : Place) (attrs : List AttrShape) → Closes (PartBody keyword attrs)
part_body_closes keyword attrs = closes_marked (Mark sign.OpenBrace) (λ p. After LastStatements (λ l. Ends (continuing_part keyword attrs (stmt_shapes l.body) l.leave l.end))) (part_inside_closes keyword attrs)

part_body_stops : (keyword : Place) (attrs : List AttrShape) (r : ContinuingShape) (zs w : List Lexeme) → PartBody keyword attrs r zs w → Above 8 zs
part_body_stops keyword attrs r zs w c = marked_stops (Above 8) (Mark sign.OpenBrace) (λ p. After LastStatements (λ l. Ends (continuing_part keyword attrs (stmt_shapes l.body) l.leave l.end))) (λ p ts. omega arith) r zs w c

part_closes : (keyword : Place) → Closes (ContinuingRest keyword)
part_closes keyword = closes_after (Many Attribute) (PartBody keyword) (many_closes Attribute) (part_body_closes keyword)

-- a continuing part behind its keyword
module _ (keyword : Place) (tokens : List Lexeme) (from : ℕ) (h : from ≤ length tokens) where
  pub part_attrs_fails : (to : ℕ) → FailsBy (Many Attribute) (Above 8) tokens from to → FailsBy (ContinuingRest keyword) Anything tokens from to
  part_attrs_fails to x = phrase_fails (ContinuingRest keyword) Anything tokens from (Many Attribute) (Above 8) (PartBody keyword) (λ b r zs w stop c. part_body_stops keyword b r zs w c) from to (part_body_closes keyword) (begin (ContinuingRest keyword) Anything tokens from h) x

  module _ (names : List (List ℕ)) (node : ℕ) (a : Read (List Attr)) (x : ReadsOf attrs_seen (Many Attribute) 8 tokens names from node a) where
    part_stage : Step (ContinuingRest keyword) Anything tokens from a.end (PartBody keyword (attr_shapes names a.tree))
    part_stage = phrase (ContinuingRest keyword) Anything tokens from (Many Attribute) (Above 8) (PartBody keyword) (λ b r zs w stop c. part_body_stops keyword b r zs w c) from a.end
        (attr_shapes names a.tree) (begin (ContinuingRest keyword) Anything tokens from h) (ranked_read attrs_seen (Many Attribute) 8 tokens names from node a x).reads

    pub part_open : ((p : Place) → slice_get tokens a.end ≡ Some (Mark sign.OpenBrace p) → ⊥) → FailsBy (ContinuingRest keyword) Anything tokens from a.end
    part_open never = stuck_mark (ContinuingRest keyword) Anything tokens from (Mark sign.OpenBrace)
        (λ p. After LastStatements (λ l. Ends (continuing_part keyword (attr_shapes names a.tree) (stmt_shapes l.body) l.leave l.end)))
        (part_inside_closes keyword (attr_shapes names a.tree)) a.end never part_stage

    module _ (p : Place) (is : slice_get tokens a.end ≡ Some (Mark sign.OpenBrace p)) where
      part_inside : Step (ContinuingRest keyword) Anything tokens from (a.end + 1) (After LastStatements (λ l. Ends (continuing_part keyword (attr_shapes names a.tree) (stmt_shapes l.body) l.leave l.end)))
      part_inside = mark (ContinuingRest keyword) Anything tokens from (Mark sign.OpenBrace) (λ p. After LastStatements (λ l. Ends (continuing_part keyword (attr_shapes names a.tree) (stmt_shapes l.body) l.leave l.end))) (λ p. refl) a.end p is part_stage

      pub part_body_fails : (to : ℕ) → FailsBy LastStatements Anything tokens (a.end + 1) to → FailsBy (ContinuingRest keyword) Anything tokens from to
      part_body_fails to y = last_fails (ContinuingRest keyword) Anything tokens from LastStatements Anything (λ l. continuing_part keyword (attr_shapes names a.tree) (stmt_shapes l.body) l.leave l.end) (λ w k. k) (a.end + 1) part_inside to y

      part_reads : (l : LastShape) (to : ℕ) → ReadsBy LastStatements Anything tokens (a.end + 1) l to → ReadsBy (ContinuingRest keyword) Anything tokens from (continuing_part keyword (attr_shapes names a.tree) (stmt_shapes l.body) l.leave l.end) to
      part_reads l to y = last_reads (ContinuingRest keyword) Anything tokens from LastStatements Anything (λ l. continuing_part keyword (attr_shapes names a.tree) (stmt_shapes l.body) l.leave l.end) (λ w k. k) (a.end + 1) part_inside to l y

  pub part_tree : (mid new : List (List ℕ)) (node : ℕ) (a : Read (List Attr)) → ReadsOf attrs_seen (Many Attribute) 8 tokens mid from node a → (p : Place) →
      slice_get tokens a.end ≡ Some (Mark sign.OpenBrace p) → Grows mid new → (b : Read LastBody) → ReadsOfBy last_seen LastStatements Anything tokens new (a.end + 1) a.node b →
      (c : Continuing) → out-Continuing c ≡ record { keyword = keyword; attrs = a.tree; body = b.tree.statements; leave = b.tree.leave; end = b.tree.end } →
      ReadsOfBy continuing_seen (ContinuingRest keyword) Anything tokens new from node (record { tree = c; end = b.end; node = b.node })
  part_tree mid new node a x p is g b y c parts =
      let later : ReadsOf attrs_seen (Many Attribute) 8 tokens new from node a = attrs_later tokens from h mid new node a g x in
      let shape : continuing_shaped new c ≡ continuing_part keyword (attr_shapes new a.tree) (stmt_shapes (map (stmt_shape new) b.tree.statements))
      (option_map (break_if_shape new) b.tree.leave) b.tree.end = continuing_is new c ∙ ap
      (λ o. continuing_part o.keyword (attr_shapes new o.attrs) (stmt_shapes (map (stmt_shape new) o.body)) (option_map (break_if_shape new) o.leave) o.end) parts in
      let count : continuing_count c ≡ max (attrs_need a.tree) (last_seen.needs b.tree) = continuing_counts c ∙ ap (λ o. max (attrs_need o.attrs) (max (most_of stmt_needs o.body) (maybe_needs break_if_needs o.leave))) parts in
      let numbers : continuing_numbers c ≡ attrs_nodes a.tree ++ last_seen.nodes b.tree = continuing_numbered c ∙ ap (λ o. attrs_nodes o.attrs ++ (joined_of stmt_nodes o.body ++ maybe_nodes break_if_nodes o.leave)) parts in
      let need_a : attrs_need a.tree ≤ length new = later.known in
      let need_b : last_seen.needs b.tree ≤ length new = y.known in
      record {
        reads = subst (λ s. ReadsBy (ContinuingRest keyword) Anything tokens from s b.end) (sym shape) (part_reads new node a later p is (last_seen.shape new b.tree) b.end y.reads);
        known = omega arith;
        nodes = subst (λ l. CountFrom node l b.node) (sym numbers) (count_join (attrs_nodes a.tree) (last_seen.nodes b.tree) node a.node b.node later.nodes y.nodes);
      }

-- the end of a `loop`
module _ (tokens : List Lexeme) (from : ℕ) (h : from ≤ length tokens) where
  end_stage : Step LoopEnds Anything tokens from from (Headed LoopEndAt)
  end_stage = change LoopEnds Anything tokens from from LoopEnds (Headed LoopEndAt) (λ r ys w stop near k. loop_ends_there r ys w k) loop_ends_back (begin LoopEnds Anything tokens from h)

  pub end_stuck : ((p : Place) → slice_get tokens from ≡ Some (Key word.Continuing p) → ⊥) → ((p : Place) → slice_get tokens from ≡ Some (Mark sign.CloseBrace p) → ⊥) → FailsBy LoopEnds Anything tokens from from
  end_stuck no_key no_brace =
      stuck LoopEnds Anything tokens from from (Headed LoopEndAt)
      (record { tree = (no_continuing, some_place); more = Mark sign.CloseBrace some_place ∷ []; closed = λ w. record { first = Mark sign.CloseBrace some_place; others = w; split = refl; at = record { same = refl; left = refl } } })
      (λ r ys w stop k near. by k.first r k.others w (near_get tokens from k.first k.others (subst (λ y. Near y (drop from tokens)) k.split near)) k.at)
      end_stage
    where
      by : (t : Lexeme) (r : ContinuingShape × Place) (us w : List Lexeme) → slice_get tokens from ≡ Some t → LoopEndAt t r us w → ⊥
      by (Key word.Continuing p) r us w is k = no_key p is
      by (Mark sign.CloseBrace p) r us w is k = no_brace p is
      by _ r us w is k = k

  pub end_brace_tree : (names : List (List ℕ)) (node : ℕ) (q : Place) → slice_get tokens from ≡ Some (Mark sign.CloseBrace q) → ReadsOfBy loop_end_seen LoopEnds Anything tokens names from node (record { tree = record { continuing = None; end = q }; end = from + 1; node = node })
  end_brace_tree names node q is = record {
    reads = finish_ends LoopEnds Anything tokens from (from + 1) (no_continuing, q) (no_continuing, q) refl (head LoopEnds Anything tokens from from LoopEndAt (Mark sign.CloseBrace q) is end_stage);
    known = omega arith;
    nodes = refl;
  }

  module _ (p : Place) (is : slice_get tokens from ≡ Some (Key word.Continuing p)) where
    key_stage : Step LoopEnds Anything tokens from (from + 1) (After (ContinuingRest p) (λ c. Marked (Mark sign.CloseBrace) (λ q. Ends (c, q))))
    key_stage = head LoopEnds Anything tokens from from LoopEndAt (Key word.Continuing p) is end_stage

    pub end_part_fails : (to : ℕ) → FailsBy (ContinuingRest p) Anything tokens (from + 1) to → FailsBy LoopEnds Anything tokens from to
    end_part_fails to x = closed_fails LoopEnds Anything tokens from (ContinuingRest p) Anything (Mark sign.CloseBrace) (λ q. refl) (λ q ts. tt) (λ c q. (c, q)) (from + 1) key_stage to x

    module _ (names : List (List ℕ)) (node : ℕ) (c : Read Continuing) (x : ReadsOfBy continuing_seen (ContinuingRest p) Anything tokens names (from + 1) node c) where
      pub end_open : ((q : Place) → slice_get tokens c.end ≡ Some (Mark sign.CloseBrace q) → ⊥) → FailsBy LoopEnds Anything tokens from c.end
      end_open never = closed_open LoopEnds Anything tokens from (ContinuingRest p) Anything (Mark sign.CloseBrace) (λ q. refl) (λ q ts. tt) (λ c q. (c, q)) (from + 1) key_stage c.end (continuing_shaped names c.tree) x.reads never

      pub end_part_tree : (q : Place) → slice_get tokens c.end ≡ Some (Mark sign.CloseBrace q) → ReadsOfBy loop_end_seen LoopEnds Anything tokens names from node (record { tree = record { continuing = Some c.tree; end = q }; end = c.end + 1; node = c.node })
      end_part_tree q closes = record {
        reads = closed_reads LoopEnds Anything tokens from (ContinuingRest p) Anything (Mark sign.CloseBrace) (λ q. refl) (λ q ts. tt) (λ c q. (c, q)) (from + 1) key_stage c.end (continuing_shaped names c.tree) x.reads q closes;
        known = x.known;
        nodes = x.nodes;
      }

-- attributes, a `{`, statements and what ends a `loop`
abbrev EndOf : List AttrShape → List StmtShape → LoopShape → List Lexeme → List Lexeme → Type 0
EndOf inner l = After LoopEnds (λ e. Ends (record { inner = inner; body = l; continuing = e.0; end = e.1 }))

abbrev InsideOf : List AttrShape → LoopShape → List Lexeme → List Lexeme → Type 0
InsideOf inner = After (Many Statement) (EndOf inner)

abbrev LoopOf : List AttrShape → LoopShape → List Lexeme → List Lexeme → Type 0
LoopOf inner = Marked (Mark sign.OpenBrace) (λ p. InsideOf inner)

ends_closes : Closes LoopEnds
ends_closes = record {
  tree = (no_continuing, some_place);
  more = Mark sign.CloseBrace some_place ∷ [];
  closed = λ w. loop_ends_back (no_continuing, some_place) (Mark sign.CloseBrace some_place ∷ w) w
      (record { first = Mark sign.CloseBrace some_place; others = w; split = refl; at = record { same = refl; left = refl } });
}

end_of_closes : (inner : List AttrShape) (l : List StmtShape) → Closes (EndOf inner l)
end_of_closes inner l = closes_after LoopEnds (λ e. Ends (record { inner = inner; body = l; continuing = e.0; end = e.1 })) ends_closes (λ e. closes_end (record { inner = inner; body = l; continuing = e.0; end = e.1 }))

inside_of_closes : (inner : List AttrShape) → Closes (InsideOf inner)
inside_of_closes inner = closes_after (Many Statement) (EndOf inner) (many_closes Statement) (end_of_closes inner)

loop_of_closes : (inner : List AttrShape) → Closes (LoopOf inner)
loop_of_closes inner = closes_marked (Mark sign.OpenBrace) (λ p. InsideOf inner) (inside_of_closes inner)

end_token : (t : Lexeme) (r : ContinuingShape × Place) (us w : List Lexeme) → LoopEndAt t r us w → ClosingToken t
end_token (Key word.Continuing p) r us w k = tt
end_token (Mark sign.CloseBrace q) r us w k = tt
end_token _ r us w k = absurd k

end_of_stops : (inner : List AttrShape) (l : List StmtShape) (r : LoopShape) (zs w : List Lexeme) → EndOf inner l r zs w → Closing zs
end_of_stops inner l r zs w k = let f : Headed LoopEndAt k.part zs k.others = loop_ends_there k.part zs k.others k.phrase in subst Closing (sym f.split) (end_token f.first k.part f.others k.others f.at)

module _ (tokens : List Lexeme) (from : ℕ) (h : from ≤ length tokens) where
  loop_of_stops : (inner : List AttrShape) (r : LoopShape) (zs w : List Lexeme) → LoopOf inner r zs w → Above 8 zs
  loop_of_stops inner r zs w c = marked_stops (Above 8) (Mark sign.OpenBrace) (λ p. InsideOf inner) (λ p ts. omega arith) r zs w c

  pub loop_attrs_fails : (to : ℕ) → FailsBy (Many Attribute) (Above 8) tokens from to → FailsBy LoopRest Anything tokens from to
  loop_attrs_fails to x = phrase_fails LoopRest Anything tokens from (Many Attribute) (Above 8) LoopOf (λ b r zs w stop c. loop_of_stops b r zs w c) from to loop_of_closes (begin LoopRest Anything tokens from h) x

  module _ (names : List (List ℕ)) (node : ℕ) (a : Read (List Attr)) (x : ReadsOf attrs_seen (Many Attribute) 8 tokens names from node a) where
    loop_stage : Step LoopRest Anything tokens from a.end (LoopOf (attr_shapes names a.tree))
    loop_stage = phrase LoopRest Anything tokens from (Many Attribute) (Above 8) LoopOf (λ b r zs w stop c. loop_of_stops b r zs w c) from a.end (attr_shapes names a.tree) (begin LoopRest Anything tokens from h) (ranked_read attrs_seen (Many Attribute) 8 tokens names from node a x).reads

    pub loop_open : ((p : Place) → slice_get tokens a.end ≡ Some (Mark sign.OpenBrace p) → ⊥) → FailsBy LoopRest Anything tokens from a.end
    loop_open never = stuck_mark LoopRest Anything tokens from (Mark sign.OpenBrace) (λ p. InsideOf (attr_shapes names a.tree)) (inside_of_closes (attr_shapes names a.tree)) a.end never loop_stage

    module _ (p : Place) (is : slice_get tokens a.end ≡ Some (Mark sign.OpenBrace p)) where
      loop_inside : Step LoopRest Anything tokens from (a.end + 1) (InsideOf (attr_shapes names a.tree))
      loop_inside = mark LoopRest Anything tokens from (Mark sign.OpenBrace) (λ p. InsideOf (attr_shapes names a.tree)) (λ p. refl) a.end p is loop_stage

      pub loop_body_fails : (to : ℕ) → FailsBy (Many Statement) Closing tokens (a.end + 1) to → FailsBy LoopRest Anything tokens from to
      loop_body_fails to y = phrase_fails LoopRest Anything tokens from (Many Statement) Closing (EndOf (attr_shapes names a.tree)) (λ b r zs w stop c. end_of_stops (attr_shapes names a.tree) b r zs w c) (a.end + 1) to (end_of_closes (attr_shapes names a.tree)) loop_inside y

      loop_end_stage : (l : List StmtShape) (at : ℕ) → ReadsBy (Many Statement) Closing tokens (a.end + 1) l at → Step LoopRest Anything tokens from at (EndOf (attr_shapes names a.tree) l)
      loop_end_stage l at y = phrase LoopRest Anything tokens from (Many Statement) Closing (EndOf (attr_shapes names a.tree)) (λ b r zs w stop c. end_of_stops (attr_shapes names a.tree) b r zs w c) (a.end + 1) at l loop_inside y

  pub loop_end_fails : (mid new : List (List ℕ)) (node : ℕ) (a : Read (List Attr)) → ReadsOf attrs_seen (Many Attribute) 8 tokens mid from node a → (p : Place) →
      slice_get tokens a.end ≡ Some (Mark sign.OpenBrace p) → Grows mid new → (b : Read (List Stmt)) → ReadsOfBy stmts_seen (Many Statement) Closing tokens new (a.end + 1) a.node b →
      (to : ℕ) → FailsBy LoopEnds Anything tokens b.end to → FailsBy LoopRest Anything tokens from to
  loop_end_fails mid new node a x p is g b y to z = last_fails LoopRest Anything tokens from LoopEnds Anything
      (λ e. record { inner = attr_shapes mid a.tree; body = map (stmt_shape new) b.tree; continuing = e.0; end = e.1 }) (λ w k. k) b.end
      (loop_end_stage mid node a x p is (map (stmt_shape new) b.tree) b.end y.reads) to z

  pub loop_rest_tree : (first mid new : List (List ℕ)) (node : ℕ) (a : Read (List Attr)) → ReadsOf attrs_seen (Many Attribute) 8 tokens first from node a → (p : Place) →
      slice_get tokens a.end ≡ Some (Mark sign.OpenBrace p) → Grows first mid → (b : Read (List Stmt)) → ReadsOfBy stmts_seen (Many Statement) Closing tokens mid (a.end + 1) a.node b →
      Grows mid new → (e : Read LoopEnd) → ReadsOfBy loop_end_seen LoopEnds Anything tokens new b.end b.node e →
      ReadsOfBy loop_seen LoopRest Anything tokens new from node
      (record { tree = record { inner = a.tree; body = b.tree; continuing = e.tree.continuing; end = e.tree.end }; end = e.end; node = e.node })
  loop_rest_tree first mid new node a x p is g b y k e z =
      let a_mid : ReadsOf attrs_seen (Many Attribute) 8 tokens mid from node a = attrs_later tokens from h first mid node a g x in
      let a_new : ReadsOf attrs_seen (Many Attribute) 8 tokens new from node a = attrs_later tokens from h mid new node a k a_mid in
      let b_new : ReadsOfBy stmts_seen (Many Statement) Closing tokens new (a.end + 1) a.node b = grown stmts_seen stmts_steady (Many Statement) Closing tokens mid new (a.end + 1) a.node b k y in
      let need_a : attrs_need a.tree ≤ length new = a_new.known in
      let need_b : most_of stmt_needs b.tree ≤ length new = b_new.known in
      let need_e : loop_end_seen.needs e.tree ≤ length new = z.known in
      record {
        reads = last_reads LoopRest Anything tokens from LoopEnds Anything (λ e. record { inner = attr_shapes new a.tree; body = map (stmt_shape new) b.tree; continuing = e.0; end = e.1 })
            (λ w k. k) b.end (loop_end_stage new node a a_new p is (map (stmt_shape new) b.tree) b.end b_new.reads) e.end (loop_end_seen.shape new e.tree) z.reads;
        known = omega arith;
        nodes = count_join (attrs_nodes a.tree) (joined_of stmt_nodes b.tree ++ loop_end_seen.nodes e.tree) node a.node e.node a_new.nodes (count_join (joined_of stmt_nodes b.tree) (loop_end_seen.nodes e.tree) a.node b.node e.node b_new.nodes z.nodes);
      }
