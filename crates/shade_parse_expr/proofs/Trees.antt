-- Trees that were read, with the numbers of their nodes and names.
use Rattle.std.proofs.Common.{◌≡◌, refl, sym, ap, ◌∙◌, subst, ℕ, ◌+◌, ◌<◌, ◌≤◌, max, Bool, true, false, List, [], ◌∷◌, ◌++◌, length, map, arith, append_assoc, Some, slice_get, get_or}
use Rattle.std.specs.Prelude.{slice_index_or}
use Rattle.std.proofs.lemmas.List.{append-nil, get_or_append_left}
use Rattle.std.proofs.lemmas.Option.{slice_get_within, get_or_from_slice_get, slice_get-get_or}
use Rattle.shade_base.specs.declared.place.Place.{Place}
use Rattle.shade_lex.specs.declared.token.Suffix.{Suffix}
use Rattle.shade_ast.specs.declared.expr.Infix.{Infix as InfixOperator}
use Rattle.shade_ast.specs.declared.expr.Prefix.{Prefix as PrefixOperator}
use Rattle.shade_ast.specs.declared.expr.Named.{Named}
use Rattle.shade_ast.specs.declared.expr.Expr.{Expr}
use Rattle.shade_ast.specs.declared.expr.ExprKind.{ExprKind, ExprKind-F, out-ExprKind, map-ExprKind, fold_out-ExprKind}
use Rattle.shade_ast.specs.declared.expr.ExprKind.TheVariants as kind
use Rattle.shade_ast.specs.declared.expr.ExprKind.TheOpen as open_kind
use Rattle.shade_ast.specs.Lexemes.{Lexeme}
use Rattle.shade_ast.specs.Names.{Grows}
use Rattle.shade_ast.specs.Shapes.{ExprShape, infixed, prefixed, member, index, call, template, named, number, truth, falsity, paren, place_of}
use Rattle.shade_ast.specs.Shaped.{expr_shapes, kind_step, expr_step, expr_shape}
use Rattle.shade_ast.specs.Needs.{most_of, expr_needs}
use Rattle.shade_ast.specs.Nodes.{joined_of, expr_nodes, CountFrom}
use Rattle.shade_ast.specs.Reads.{Reads}
use Rattle.shade_ast.proofs.ExprLayers.{kind_shape, kind_count, expr_is, expr_count, shape-Infix, shape-Prefix, shape-Member, shape-Index, shape-Call, shape-Template, shape-Name, shape-Number, shape-True, shape-False, shape-Paren, needs-Infix, needs-Prefix, needs-Member, needs-Index, needs-Call, needs-Template, needs-Name, needs-Number, needs-True, needs-False, needs-Paren}
use Rattle.shade_ast.proofs.ExprNodes.{kind_numbers, expr_numbers, nodes-Infix, nodes-Prefix, nodes-Member, nodes-Index, nodes-Call, nodes-Template, nodes-Name, nodes-Number, nodes-True, nodes-False, nodes-Paren}
use Rattle.shade_ast.proofs.ShapeLaws.{expr_grows, length_grows}
use Rattle.shade_cursor.specs.declared.part.Part.{Part}
use Rattle.shade_parse_expr.specs.Rests.{is_bare}
use Rattle.shade_parse_expr.specs.Parts.{Counted, ReadsTree}

-- the place of a shape is that of the tree
step_place : (names : List (List ℕ)) (y : ExprKind-F (Place → ExprShape) ExprShape) (place : Place) → place_of (kind_step names y place) ≡ place
step_place names (open_kind.Infix left operator at right) place = refl
step_place names (open_kind.Prefix operator operand) place = refl
step_place names (open_kind.Member whole dot name) place = refl
step_place names (open_kind.Index whole bracket at) place = refl
step_place names (open_kind.Call callee arguments trailing) place = refl
step_place names (open_kind.Template name arguments trailing) place = refl
step_place names (open_kind.Name name) place = refl
step_place names (open_kind.Number value suffix) place = refl
step_place names open_kind.True place = refl
step_place names open_kind.False place = refl
step_place names (open_kind.Paren inner) place = refl

pub place_same : (names : List (List ℕ)) (e : Expr) → place_of (expr_shape names e) ≡ e.place
place_same names e =
    ap place_of (expr_is names e)
    ∙ ap (λ f. place_of (f e.place)) (fold_out-ExprKind (Place → ExprShape) ExprShape (kind_step names) expr_step e.kind)
    ∙ step_place names (map-ExprKind ExprKind Expr (Place → ExprShape) ExprShape (kind_shape names) (expr_shape names) (out-ExprKind e.kind)) e.place

-- a name keeps its number
pub name_stays : (old new : List (List ℕ)) (name : ℕ) (text : List ℕ) → slice_get old name ≡ Some text → Grows old new → slice_get new name ≡ Some text
name_stays old new name text stored g =
    let lt : name < length old = slice_get_within old name text stored in
    let le : length old ≤ length new = length_grows old new g in
    let same : get_or new name text ≡ text = ap (λ x. get_or x name text) g.1 ∙ get_or_append_left old g.0 text name lt ∙ get_or_from_slice_get old name text text stored in
    slice_get-get_or new name text (omega arith) ∙ ap Some same

-- counts
pub count_join : (xs ys : List ℕ) (a b c : ℕ) → CountFrom a xs b → CountFrom b ys c → CountFrom a (xs ++ ys) c
count_join [] ys a b c h k = subst (λ x. CountFrom x ys c) (sym h) k
count_join (x ∷ xs) ys a b c h k = (h.0, count_join xs ys (a + 1) b c h.1 k)

count_one : (n : ℕ) → CountFrom n (n ∷ []) (n + 1)
count_one n = (refl, refl)

pub counted_here : (nodes : List ℕ) (node : ℕ) → Counted nodes nodes node node
counted_here nodes node = record { more = []; nodes_are = sym (append-nil nodes); counted = refl }

pub counted_chain : (prior mid nodes : List ℕ) (a b c : ℕ) → Counted prior mid a b → Counted mid nodes b c → Counted prior nodes a c
counted_chain prior mid nodes a b c h k = record {
  more = h.more ++ k.more;
  nodes_are = k.nodes_are ∙ ap (λ x. x ++ k.more) h.nodes_are ∙ append_assoc prior h.more k.more;
  counted = count_join h.more k.more a b c h.counted k.counted;
}

-- one more list of nodes
pub counted_more : (prior nodes : List ℕ) (a b c : ℕ) (others : List ℕ) → Counted prior nodes a b → CountFrom b others c → Counted prior (nodes ++ others) a c
counted_more prior nodes a b c others h k = record {
  more = h.more ++ others;
  nodes_are = ap (λ x. x ++ others) h.nodes_are ∙ append_assoc prior h.more others;
  counted = count_join h.more others a b c h.counted k;
}

pub counted_is : (prior nodes others : List ℕ) (a b : ℕ) → nodes ≡ others → Counted prior others a b → Counted prior nodes a b
counted_is prior nodes others a b e h = subst (λ x. Counted prior x a b) (sym e) h

pub counted_all : (nodes : List ℕ) (a b : ℕ) → Counted [] nodes a b → CountFrom a nodes b
counted_all nodes a b h = subst (λ x. CountFrom a x b) (sym h.nodes_are) h.counted

-- a tree whose names are known and whose nodes are counted
pub record Tree (names : List (List ℕ)) (prior : List ℕ) (node : ℕ) (p : Part) : Type 0 where
  pub known : expr_needs p.expr ≤ length names
  pub nodes : Counted prior (expr_nodes p.expr) node p.node
  pub bare : p.bare ≡ is_bare (expr_shape names p.expr)

pub tree_of : (G : ExprShape → List Lexeme → List Lexeme → Type 0) (n : ℕ) (tokens : List Lexeme) (names : List (List ℕ)) (prior : List ℕ) (from node : ℕ) (p : Part) → ReadsTree G n tokens names prior from node p → Tree names prior node p
tree_of G n tokens names prior from node p r = record { known = r.known; nodes = r.nodes; bare = r.bare }

pub reads_tree : (G : ExprShape → List Lexeme → List Lexeme → Type 0) (n : ℕ) (tokens : List Lexeme) (names : List (List ℕ)) (prior : List ℕ) (from node : ℕ) (p : Part) → Tree names prior node p → Reads G n tokens from (expr_shape names p.expr) p.end → ReadsTree G n tokens names prior from node p
reads_tree G n tokens names prior from node p t r = record { reads = r; known = t.known; nodes = t.nodes; bare = t.bare }

pub tree_grows : (old new : List (List ℕ)) (prior : List ℕ) (node : ℕ) (p : Part) → Grows old new → Tree old prior node p → Tree new prior node p
tree_grows old new prior node p g t = record { known = (let le : length old ≤ length new = length_grows old new g in let k : expr_needs p.expr ≤ length old = t.known in omega arith); nodes = t.nodes; bare = t.bare ∙ ap is_bare (sym (expr_grows old new p.expr t.known g)) }

pub tree_chain : (names : List (List ℕ)) (prior : List ℕ) (node : ℕ) (p q : Part) → Counted prior (expr_nodes p.expr) node p.node → Tree names (expr_nodes p.expr) p.node q → Tree names prior node q
tree_chain names prior node p q c t = record { known = t.known; nodes = counted_chain prior (expr_nodes p.expr) (expr_nodes q.expr) node p.node q.node c t.nodes; bare = t.bare }

-- a tree that was built: its shape, its names and its nodes
module _ (names : List (List ℕ)) (prior : List ℕ) (node : ℕ) (p : Part) where
  built : (k : ExprKind) (place : Place) (end : ℕ) (last : ℕ) (bare : Bool) (s : ExprShape) (nodes : List ℕ) (needs : ℕ) →
      p ≡ record { expr = record { node = last; place = place; kind = k }; end = end; node = last + 1; bare = bare } → kind_shape names k place ≡ s → kind_count k ≡ needs → needs ≤ length names →
      kind_numbers k ≡ nodes → Counted prior nodes node last → bare ≡ is_bare s → (expr_shape names p.expr ≡ s) × Tree names prior node p
  built k place end last bare s nodes needs same shape count known numbers counted flag =
      let e : Expr = record { node = last; place = place; kind = k } in
      let shaped : expr_shape names p.expr ≡ s = ap (λ x. expr_shape names x.expr) same ∙ expr_is names e ∙ shape in
      let counts : expr_needs p.expr ≡ needs = ap (λ x. expr_needs x.expr) same ∙ expr_count e ∙ count in
      let numbered : expr_nodes p.expr ≡ nodes ++ last ∷ [] = ap (λ x. expr_nodes x.expr) same ∙ expr_numbers e ∙ ap (λ x. x ++ last ∷ []) numbers in
      let next : p.node ≡ last + 1 = ap (λ x. x.node) same in (
        shaped,
        record {
          known = omega arith;
          nodes = subst (λ x. Counted prior (expr_nodes p.expr) node x) (sym next) (counted_is prior (expr_nodes p.expr) (nodes ++ last ∷ []) node (last + 1) numbered (counted_more prior nodes node last (last + 1) (last ∷ []) counted (count_one last)));
          bare = ap (λ x. x.bare) same ∙ flag ∙ ap is_bare (sym shaped);
        },
      )

  pub built_infix : (l r : Part) (i : InfixOperator) (at : Place) →
      p ≡ record { expr = record { node = r.node; place = l.expr.place; kind = kind.Infix l.expr i at r.expr }; end = r.end; node = r.node + 1; bare = false } → Tree names prior node l →
      Tree names [] l.node r → (expr_shape names p.expr ≡ infixed (place_of (expr_shape names l.expr)) (expr_shape names l.expr) i at (expr_shape names r.expr)) × Tree names prior node p
  built_infix l r i at same a b =
      built (kind.Infix l.expr i at r.expr) l.expr.place r.end r.node false (infixed (place_of (expr_shape names l.expr)) (expr_shape names l.expr) i at (expr_shape names r.expr)) (expr_nodes l.expr ++ expr_nodes r.expr) (max (expr_needs l.expr) (expr_needs r.expr)) same
      (shape-Infix names l.expr.place l.expr i at r.expr ∙ ap (λ x. infixed x (expr_shape names l.expr) i at (expr_shape names r.expr)) (sym (place_same names l.expr)))
      (needs-Infix l.expr i at r.expr) (let x : expr_needs l.expr ≤ length names = a.known in let y : expr_needs r.expr ≤ length names = b.known in omega arith) (nodes-Infix l.expr i at r.expr) (counted_more prior (expr_nodes l.expr) node l.node r.node (expr_nodes r.expr) a.nodes (counted_all (expr_nodes r.expr) l.node r.node b.nodes)) refl

  pub built_prefix : (r : Part) (o : PrefixOperator) (at : Place) →
      p ≡ record { expr = record { node = r.node; place = at; kind = kind.Prefix o r.expr }; end = r.end; node = r.node + 1; bare = true } → Tree names prior node r →
      (expr_shape names p.expr ≡ prefixed at o (expr_shape names r.expr)) × Tree names prior node p
  built_prefix r o at same b = built (kind.Prefix o r.expr) at r.end r.node true (prefixed at o (expr_shape names r.expr)) (expr_nodes r.expr) (expr_needs r.expr) same (shape-Prefix names at o r.expr) (needs-Prefix o r.expr) b.known (nodes-Prefix o r.expr) b.nodes refl

  pub built_paren : (r : Part) (at : Place) → p ≡ record { expr = record { node = r.node; place = at; kind = kind.Paren r.expr }; end = r.end + 1; node = r.node + 1; bare = true } → Tree names prior node r → (expr_shape names p.expr ≡ paren at (expr_shape names r.expr)) × Tree names prior node p
  built_paren r at same b = built (kind.Paren r.expr) at (r.end + 1) r.node true (paren at (expr_shape names r.expr)) (expr_nodes r.expr) (expr_needs r.expr) same (shape-Paren names at r.expr) (needs-Paren r.expr) b.known (nodes-Paren r.expr) b.nodes refl

  pub built_index : (l r : Part) (at : Place) →
      p ≡ record { expr = record { node = r.node; place = l.expr.place; kind = kind.Index l.expr at r.expr }; end = r.end + 1; node = r.node + 1; bare = true } → Tree names prior node l →
      Tree names [] l.node r → (expr_shape names p.expr ≡ index (place_of (expr_shape names l.expr)) (expr_shape names l.expr) at (expr_shape names r.expr)) × Tree names prior node p
  built_index l r at same a b =
      built (kind.Index l.expr at r.expr) l.expr.place (r.end + 1) r.node true (index (place_of (expr_shape names l.expr)) (expr_shape names l.expr) at (expr_shape names r.expr)) (expr_nodes l.expr ++ expr_nodes r.expr) (max (expr_needs l.expr) (expr_needs r.expr)) same
      (shape-Index names l.expr.place l.expr at r.expr ∙ ap (λ x. index x (expr_shape names l.expr) at (expr_shape names r.expr)) (sym (place_same names l.expr)))
      (needs-Index l.expr at r.expr) (let x : expr_needs l.expr ≤ length names = a.known in let y : expr_needs r.expr ≤ length names = b.known in omega arith) (nodes-Index l.expr at r.expr) (counted_more prior (expr_nodes l.expr) node l.node r.node (expr_nodes r.expr) a.nodes (counted_all (expr_nodes r.expr) l.node r.node b.nodes)) refl

  pub built_member : (l : Part) (dot place : Place) (name : ℕ) (text : List ℕ) →
      p ≡ record { expr = record { node = l.node + 1; place = l.expr.place; kind = kind.Member l.expr dot (record { node = l.node; place = place; name = name }) }; end = l.end + 2; node = l.node + 1 + 1; bare = true } →
      Tree names prior node l → slice_get names name ≡ Some text →
      (expr_shape names p.expr ≡ member (place_of (expr_shape names l.expr)) (expr_shape names l.expr) dot (record { place = place; text = text })) × Tree names prior node p
  built_member l dot place name text same a stored =
      let n : Named = record { node = l.node; place = place; name = name } in
      let lt : name < length names = slice_get_within names name text stored in
      built (kind.Member l.expr dot n) l.expr.place (l.end + 2) (l.node + 1) true (member (place_of (expr_shape names l.expr)) (expr_shape names l.expr) dot (record { place = place; text = text })) (expr_nodes l.expr ++ l.node ∷ []) (max (expr_needs l.expr) (name + 1)) same
      (shape-Member names l.expr.place l.expr dot n ∙ ap (λ x. member x (expr_shape names l.expr) dot (record { place = place; text = slice_index_or names name [] })) (sym (place_same names l.expr)) ∙ ap (λ x. member (place_of (expr_shape names l.expr)) (expr_shape names l.expr) dot (record { place = place; text = x })) (get_or_from_slice_get names name text [] stored))
      (needs-Member l.expr dot n) (let x : expr_needs l.expr ≤ length names = a.known in omega arith) (nodes-Member l.expr dot n) (counted_more prior (expr_nodes l.expr) node l.node (l.node + 1) (l.node ∷ []) a.nodes (count_one l.node)) refl

  pub built_call : (l : Part) (es : List Expr) (trailing : Bool) (end last : ℕ) →
      p ≡ record { expr = record { node = last; place = l.expr.place; kind = kind.Call l.expr es trailing }; end = end; node = last + 1; bare = true } → Tree names prior node l →
      most_of expr_needs es ≤ length names → CountFrom l.node (joined_of expr_nodes es) last →
      (expr_shape names p.expr ≡ call (place_of (expr_shape names l.expr)) (expr_shape names l.expr) (expr_shapes (map (expr_shape names) es)) trailing) × Tree names prior node p
  built_call l es trailing end last same a known counted =
      built (kind.Call l.expr es trailing) l.expr.place end last true (call (place_of (expr_shape names l.expr)) (expr_shape names l.expr) (expr_shapes (map (expr_shape names) es)) trailing) (expr_nodes l.expr ++ joined_of expr_nodes es) (max (expr_needs l.expr) (most_of expr_needs es)) same
      (shape-Call names l.expr.place l.expr es trailing ∙ ap (λ x. call x (expr_shape names l.expr) (expr_shapes (map (expr_shape names) es)) trailing) (sym (place_same names l.expr)))
      (needs-Call l.expr es trailing) (let x : expr_needs l.expr ≤ length names = a.known in omega arith) (nodes-Call l.expr es trailing) (counted_more prior (expr_nodes l.expr) node l.node last (joined_of expr_nodes es) a.nodes counted) refl

-- a tree with no part before it
module _ (names : List (List ℕ)) (node : ℕ) (p : Part) where
  pub built_template : (place : Place) (name : ℕ) (text : List ℕ) (es : List Expr) (trailing : Bool) (end last : ℕ) →
      p ≡ record { expr = record { node = last; place = place; kind = kind.Template name es trailing }; end = end; node = last + 1; bare = true } → slice_get names name ≡ Some text →
      most_of expr_needs es ≤ length names → CountFrom node (joined_of expr_nodes es) last →
      (expr_shape names p.expr ≡ template place text (expr_shapes (map (expr_shape names) es)) trailing) × Tree names [] node p
  built_template place name text es trailing end last same stored known counted =
      let lt : name < length names = slice_get_within names name text stored in
      built names [] node p (kind.Template name es trailing) place end last true (template place text (expr_shapes (map (expr_shape names) es)) trailing) (joined_of expr_nodes es) (max (name + 1) (most_of expr_needs es)) same
      (shape-Template names place name es trailing ∙ ap (λ x. template place x (expr_shapes (map (expr_shape names) es)) trailing) (get_or_from_slice_get names name text [] stored))
      (needs-Template name es trailing) (omega arith) (nodes-Template name es trailing) (record { more = joined_of expr_nodes es; nodes_are = refl; counted = counted }) refl

  leaf : (k : ExprKind) (place : Place) (end : ℕ) (s : ExprShape) (needs : ℕ) → p ≡ record { expr = record { node = node; place = place; kind = k }; end = end; node = node + 1; bare = true } →
      kind_shape names k place ≡ s → kind_count k ≡ needs → needs ≤ length names → kind_numbers k ≡ [] → true ≡ is_bare s → (expr_shape names p.expr ≡ s) × Tree names [] node p
  leaf k place end s needs same shape count known numbers flag = built names [] node p k place end node true s [] needs same shape count known numbers (record { more = []; nodes_are = refl; counted = refl }) flag

  pub leaf_name : (place : Place) (end name : ℕ) (text : List ℕ) → p ≡ record { expr = record { node = node; place = place; kind = kind.Name name }; end = end; node = node + 1; bare = true } → slice_get names name ≡ Some text → (expr_shape names p.expr ≡ named place text) × Tree names [] node p
  leaf_name place end name text same stored =
      let lt : name < length names = slice_get_within names name text stored in
      leaf (kind.Name name) place end (named place text) (name + 1) same (shape-Name names place name ∙ ap (named place) (get_or_from_slice_get names name text [] stored)) (needs-Name name) (omega arith) (nodes-Name name) refl

  pub leaf_number : (place : Place) (end value : ℕ) (suffix : Suffix) → p ≡ record { expr = record { node = node; place = place; kind = kind.Number value suffix }; end = end; node = node + 1; bare = true } → (expr_shape names p.expr ≡ number place value suffix) × Tree names [] node p
  leaf_number place end value suffix same = leaf (kind.Number value suffix) place end (number place value suffix) 0 same (shape-Number names place value suffix) (needs-Number value suffix) (omega arith) (nodes-Number value suffix) refl

  pub leaf_true : (place : Place) (end : ℕ) → p ≡ record { expr = record { node = node; place = place; kind = kind.True }; end = end; node = node + 1; bare = true } → (expr_shape names p.expr ≡ truth place) × Tree names [] node p
  leaf_true place end same = leaf kind.True place end (truth place) 0 same (shape-True names place) needs-True (omega arith) nodes-True refl

  pub leaf_false : (place : Place) (end : ℕ) → p ≡ record { expr = record { node = node; place = place; kind = kind.False }; end = end; node = node + 1; bare = true } → (expr_shape names p.expr ≡ falsity place) × Tree names [] node p
  leaf_false place end same = leaf kind.False place end (falsity place) 0 same (shape-False names place) needs-False (omega arith) nodes-False refl
