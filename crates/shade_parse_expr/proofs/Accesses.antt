-- Functions that go on with a part that they are handed, with trees and numbers.
use Rattle.std.proofs.Common.{◌≡◌, sym, ap, ◌∙◌, subst, ℕ, ◌+◌, ◌≤◌, true, false, List, [], length, map, arith, Some, slice_get, Result, MatchResult}
use Rattle.shade_base.specs.declared.place.Place.{Place}
use Rattle.shade_ast.specs.declared.lexeme.Sign.TheVariants as sign
use Rattle.shade_ast.specs.declared.expr.Infix.{Infix as InfixOperator}
use Rattle.shade_ast.specs.declared.expr.ExprKind.TheVariants as kind
use Rattle.shade_ast.specs.Lexemes.{Lexeme, Word, Mark}
use Rattle.shade_ast.specs.Names.{Grows}
use Rattle.shade_ast.specs.Shapes.{ExprShape, infixed, index, member, call, paren, template, place_of}
use Rattle.shade_ast.specs.Shaped.{expr_shape, expr_shapes}
use Rattle.shade_ast.specs.Needs.{expr_needs}
use Rattle.shade_ast.specs.Nodes.{expr_nodes}
use Rattle.shade_ast.specs.Repeats.{Listed, MaybeListed}
use Rattle.shade_ast.specs.Expressions.{Additive, Expression, Relational, Shift, Primary, LeftSide, TypeName, Unary}
use Rattle.shade_ast.specs.Reads.{Reads, Fails}
use Rattle.shade_ast.specs.Chains.{Closed}
use Rattle.shade_ast.specs.Steps.{MemberStep, IndexStep, LeftFirst}
use Rattle.shade_ast.proofs.ShapeLaws.{expr_grows}
use Rattle.shade_cursor.specs.declared.part.Part.{Part}
use Rattle.shade_cursor.specs.declared.part.Listing.{Listing}
use Rattle.shade_cursor.specs.declared.part.Fault.{Fault}
use Rattle.shade_cursor.specs.Operators.{ComparisonAt, ShiftAt}
use Rattle.shade_parse_expr.specs.Parts.{ReadsTree, ReadsList, Faults}
use Rattle.shade_parse_expr.specs.Rests.{is_bare, Called, Compared}
use Rattle.shade_parse_expr.proofs.Trees.{Tree, tree_of, reads_tree, tree_grows, built_index, built_member, built_call, built_paren, built_template, built_infix}
use Rattle.shade_parse_expr.proofs.Readings.{here_tree, infix_tree, goes_on}
use Rattle.shade_parse_expr.proofs.Turns.{reads_grows}
use Rattle.shade_parse_expr.proofs.Primaries.{by_name_reads, by_index_reads, called_reads, paren_reads, template_reads}
use Rattle.shade_parse_expr.proofs.Listings.{left_paren_reads}
use Rattle.shade_parse_expr.proofs.Shifts.{compared_reads, relation_shift_reads, relation_shift_fails, shift_reads}

-- a phrase of a tree that was built, where it ends
ends_at : (G : ExprShape → List Lexeme → List Lexeme → Type 0) (n : ℕ) (tokens : List Lexeme) (names : List (List ℕ)) (from : ℕ) (p : Part) (s : ExprShape) (end : ℕ) → expr_shape names p.expr ≡ s → p.end ≡ end → Reads G n tokens from s end → Reads G n tokens from (expr_shape names p.expr) p.end
ends_at G n tokens names from p s end shape same x = subst (λ e. Reads G n tokens from (expr_shape names p.expr) e) (sym same) (subst (λ z. Reads G n tokens from z end) (sym shape) x)

module _ (tokens : List Lexeme) (old new : List (List ℕ)) (l : Part) (known : expr_needs l.expr ≤ length old) (bare : l.bare ≡ is_bare (expr_shape old l.expr)) (g : Grows old new) where
  before : Tree new (expr_nodes l.expr) l.node l
  before = tree_grows old new (expr_nodes l.expr) l.node l g (here_tree old l known bare)

  same_shape : expr_shape new l.expr ≡ expr_shape old l.expr
  same_shape = expr_grows old new l.expr known g

  pub by_name_tree : (p : Part) (dot place : Place) (name : ℕ) (text : List ℕ) → slice_get tokens (l.end + 1) ≡ Some (Word text place) → slice_get new name ≡ Some text →
      p ≡ record { expr = record { node = l.node + 1; place = l.expr.place; kind = kind.Member l.expr dot (record { node = l.node; place = place; name = name }) }; end = l.end + 2; node = l.node + 1 + 1; bare = true } →
      ReadsTree (MemberStep (expr_shape old l.expr) dot) 1 tokens new (expr_nodes l.expr) (l.end + 1) l.node p
  by_name_tree p dot place name text is stored same =
      let k = built_member new (expr_nodes l.expr) l.node p l dot place name text same before stored in
      let end : p.end ≡ l.end + 1 + 1 = (let e : p.end ≡ l.end + 2 = ap (λ x. x.end) same in omega arith) in
      reads_tree (MemberStep (expr_shape old l.expr) dot) 1 tokens new (expr_nodes l.expr) (l.end + 1) l.node p k.1
      (ends_at (MemberStep (expr_shape old l.expr) dot) 1 tokens new (l.end + 1) p (member (place_of (expr_shape old l.expr)) (expr_shape old l.expr) dot (record { place = place; text = text })) (l.end + 1 + 1) (k.0 ∙ ap (λ x. member (place_of x) x dot (record { place = place; text = text })) same_shape) end (by_name_reads (expr_shape old l.expr) dot tokens (l.end + 1) text place is))

  pub by_index_tree : (p r : Part) (bracket q : Place) → l.end + 1 ≤ length tokens → ReadsTree Expression 7 tokens new [] (l.end + 1) l.node r →
      slice_get tokens r.end ≡ Some (Mark sign.CloseBracket q) →
      p ≡ record { expr = record { node = r.node; place = l.expr.place; kind = kind.Index l.expr bracket r.expr }; end = r.end + 1; node = r.node + 1; bare = true } →
      ReadsTree (IndexStep (expr_shape old l.expr) bracket) 1 tokens new (expr_nodes l.expr) (l.end + 1) l.node p
  by_index_tree p r bracket q h x is same =
      let k = built_index new (expr_nodes l.expr) l.node p l r bracket same before (tree_of Expression 7 tokens new [] (l.end + 1) l.node r x) in
      reads_tree (IndexStep (expr_shape old l.expr) bracket) 1 tokens new (expr_nodes l.expr) (l.end + 1) l.node p k.1
      (ends_at (IndexStep (expr_shape old l.expr) bracket) 1 tokens new (l.end + 1) p (index (place_of (expr_shape old l.expr)) (expr_shape old l.expr) bracket (expr_shape new r.expr)) (r.end + 1) (k.0 ∙ ap (λ x. index (place_of x) x bracket (expr_shape new r.expr)) same_shape) (ap (λ x. x.end) same) (by_index_reads (expr_shape old l.expr) bracket tokens (l.end + 1) h (expr_shape new r.expr) r.end x.reads q is))

  pub called_tree : (p : Part) (r : Listing) → l.end + 1 ≤ length tokens → ReadsList (Closed (MaybeListed Expression) (Mark sign.Close)) 0 tokens new (l.end + 1) l.node r →
      p ≡ record { expr = record { node = r.node; place = l.expr.place; kind = kind.Call l.expr r.items r.trailing }; end = r.end; node = r.node + 1; bare = true } →
      ReadsTree (Called (expr_shape old l.expr)) 1 tokens new (expr_nodes l.expr) (l.end + 1) l.node p
  called_tree p r h x same =
      let k = built_call new (expr_nodes l.expr) l.node p l r.items r.trailing r.end r.node same before x.known x.nodes in
      reads_tree (Called (expr_shape old l.expr)) 1 tokens new (expr_nodes l.expr) (l.end + 1) l.node p k.1
      (ends_at (Called (expr_shape old l.expr)) 1 tokens new (l.end + 1) p (call (place_of (expr_shape old l.expr)) (expr_shape old l.expr) (expr_shapes (map (expr_shape new) r.items)) r.trailing) r.end (k.0 ∙ ap (λ y. call (place_of y) y (expr_shapes (map (expr_shape new) r.items)) r.trailing) same_shape) (ap (λ x. x.end) same) (called_reads (expr_shape old l.expr) tokens (l.end + 1) h (map (expr_shape new) r.items, r.trailing) r.end x.reads))

  pub compared_tree : (p r : Part) (i : InfixOperator) (at : Place) (next : ℕ) → l.end ≤ length tokens → ComparisonAt tokens l.end i at next → ReadsTree Shift 6 tokens new [] next l.node r →
      p ≡ record { expr = record { node = r.node; place = l.expr.place; kind = kind.Infix l.expr i at r.expr }; end = r.end; node = r.node + 1; bare = false } →
      ReadsTree (Compared (expr_shape old l.expr)) 6 tokens new (expr_nodes l.expr) l.end l.node p
  compared_tree p r i at next h o x same =
      infix_tree (Compared (expr_shape old l.expr)) 6 tokens new (expr_nodes l.expr) l.end l.node p l r i at same before (tree_of Shift 6 tokens new [] next l.node r x)
      (subst (λ y. Reads (Compared (expr_shape old l.expr)) 6 tokens l.end (infixed (place_of y) y i at (expr_shape new r.expr)) r.end) (sym same_shape) (compared_reads (expr_shape old l.expr) tokens l.end i at next o h (expr_shape new r.expr) r.end x.reads))

-- in parentheses, and with a template list
module _ (tokens : List Lexeme) (names : List (List ℕ)) (from node : ℕ) (h : from ≤ length tokens) where
  pub paren_tree : (p r : Part) (place q : Place) → slice_get tokens from ≡ Some (Mark sign.Open place) → ReadsTree Expression 7 tokens names [] (from + 1) node r →
      slice_get tokens r.end ≡ Some (Mark sign.Close q) → p ≡ record { expr = record { node = r.node; place = place; kind = kind.Paren r.expr }; end = r.end + 1; node = r.node + 1; bare = true } →
      ReadsTree Primary 1 tokens names [] from node p
  paren_tree p r place q is x closes same =
      let k = built_paren names [] node p r place same (tree_of Expression 7 tokens names [] (from + 1) node r x) in
      reads_tree Primary 1 tokens names [] from node p k.1 (ends_at Primary 1 tokens names from p (paren place (expr_shape names r.expr)) (r.end + 1) k.0 (ap (λ x. x.end) same) (paren_reads tokens from h place is (expr_shape names r.expr) r.end x.reads q closes))

  pub left_paren_tree : (p r : Part) (place q : Place) → slice_get tokens from ≡ Some (Mark sign.Open place) → ReadsTree LeftSide 2 tokens names [] (from + 1) node r →
      slice_get tokens r.end ≡ Some (Mark sign.Close q) → p ≡ record { expr = record { node = r.node; place = place; kind = kind.Paren r.expr }; end = r.end + 1; node = r.node + 1; bare = true } →
      ReadsTree LeftFirst 1 tokens names [] from node p
  left_paren_tree p r place q is x closes same =
      let k = built_paren names [] node p r place same (tree_of LeftSide 2 tokens names [] (from + 1) node r x) in
      reads_tree LeftFirst 1 tokens names [] from node p k.1 (ends_at LeftFirst 1 tokens names from p (paren place (expr_shape names r.expr)) (r.end + 1) k.0 (ap (λ x. x.end) same) (left_paren_reads tokens from h place is (expr_shape names r.expr) r.end x.reads q closes))

  pub template_tree : (p : Part) (r : Listing) (place q : Place) (name : ℕ) (text : List ℕ) → slice_get tokens from ≡ Some (Word text place) → slice_get names name ≡ Some text →
      slice_get tokens (from + 1) ≡ Some (Mark sign.OpenTemplate q) → ReadsList (Closed (Listed Expression) (Mark sign.CloseTemplate)) 0 tokens names (from + 2) node r →
      p ≡ record { expr = record { node = r.node; place = place; kind = kind.Template name r.items r.trailing }; end = r.end; node = r.node + 1; bare = true } →
      ReadsTree TypeName 0 tokens names [] from node p
  template_tree p r place q name text is stored opens x same =
      let k = built_template names node p place name text r.items r.trailing r.end r.node same stored x.known x.nodes in
      reads_tree TypeName 0 tokens names [] from node p k.1 (ends_at TypeName 0 tokens names from p (template place text (expr_shapes (map (expr_shape names) r.items)) r.trailing) r.end k.0 (ap (λ x. x.end) same) (template_reads tokens from h text place is q opens r.end (map (expr_shape names) r.items, r.trailing) x.reads))

-- a shift, alone and on the left of a comparison
module _ (tokens : List Lexeme) (mid new : List (List ℕ)) (from node : ℕ) (h : from ≤ length tokens) (l r p : Part) (i : InfixOperator) (at : Place) (next : ℕ) (a : ReadsTree Additive 4 tokens mid [] from node l) (g : Grows mid new) (o : ShiftAt tokens l.end l.bare i at next) (x : ReadsTree Unary 2 tokens new [] next l.node r) (same : p ≡ record { expr = record { node = r.node; place = l.expr.place; kind = kind.Infix l.expr i at r.expr }; end = r.end; node = r.node + 1; bare = false }) where
  abbrev Left : ExprShape
  Left = expr_shape new l.expr

  abbrev Whole : ExprShape
  Whole = infixed (place_of Left) Left i at (expr_shape new r.expr)

  left_tree : Tree new [] node l
  left_tree = tree_grows mid new [] node l g (tree_of Additive 4 tokens mid [] from node l a)

  left_reads : Reads Additive 4 tokens from Left l.end
  left_reads = reads_grows Additive 4 tokens from mid new [] node l (tree_of Additive 4 tokens mid [] from node l a) g a.reads

  stands : ShiftAt tokens l.end (is_bare Left) i at next
  stands = subst (λ b. ShiftAt tokens l.end b i at next) left_tree.bare o

  pub shift_tree : ReadsTree Shift 6 tokens new [] from node p
  shift_tree = infix_tree Shift 6 tokens new [] from node p l r i at same left_tree (tree_of Unary 2 tokens new [] next l.node r x) (shift_reads tokens from h Left l.end left_reads i at next stands r.end (expr_shape new r.expr) x.reads)

  whole : (expr_shape new p.expr ≡ Whole) × Tree new [] node p
  whole = built_infix new [] node p l r i at same left_tree (tree_of Unary 2 tokens new [] next l.node r x)

  ends : p.end ≡ r.end
  ends = ap (λ y. y.end) same

  pub shifted_on : (first last : List (List ℕ)) (c : Result Part Fault) → length new + from ≤ length first + p.end →
      MatchResult c (λ q. ReadsTree (Compared (expr_shape new p.expr)) 6 tokens last (expr_nodes p.expr) p.end p.node q) (λ f. Faults (Compared (expr_shape new p.expr)) 6 tokens new last p.end f) →
      MatchResult c (λ q. ReadsTree Relational 6 tokens last [] from node q) (λ f. Faults Relational 6 tokens first last from f)
  shifted_on first last c few y =
      goes_on Relational (Compared (expr_shape new p.expr)) 6 6 tokens first new last from node p.end p c few whole.1.nodes
      (λ e to z. relation_shift_reads tokens from h Left l.end left_reads i at next stands r.end (expr_shape new r.expr) x.reads to e (subst (λ s. Reads (Compared s) 6 tokens r.end e to) whole.0 (subst (λ k. Reads (Compared (expr_shape new p.expr)) 6 tokens k e to) ends z)))
      (λ to z. relation_shift_fails tokens from h Left l.end left_reads i at next stands r.end (expr_shape new r.expr) x.reads to (subst (λ s. Fails (Compared s) 6 tokens r.end to) whole.0 (subst (λ k. Fails (Compared (expr_shape new p.expr)) 6 tokens k to) ends z)))
      y
