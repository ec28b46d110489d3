-- Trees of members, parameters and results, from their parts.
use Rattle.std.proofs.Common.{◌≡◌, refl, sym, ◌∙◌, subst, ℕ, ◌+◌, ◌<◌, ◌≤◌, Some, List, [], ◌∷◌, ◌++◌, length, arith, slice_get}
use Rattle.shade_base.specs.declared.place.Place.{Place}
use Rattle.shade_ast.specs.declared.attr.Attr.{Attr}
use Rattle.shade_ast.specs.declared.expr.Expr.{Expr}
use Rattle.shade_ast.specs.declared.expr.Named.{Named}
use Rattle.shade_ast.specs.declared.lexeme.Sign.TheVariants as sign
use Rattle.shade_ast.specs.Lexemes.{Lexeme, Mark}
use Rattle.shade_ast.specs.Shapes.{first_place}
use Rattle.shade_ast.specs.Shaped.{attr_shapes, name_shape, expr_shape, result_shape}
use Rattle.shade_ast.specs.Needs.{result_needs}
use Rattle.shade_ast.specs.Nodes.{attrs_nodes, named_nodes, expr_nodes}
use Rattle.shade_ast.specs.Repeats.{Many}
use Rattle.shade_ast.specs.Expressions.{TypeName}
use Rattle.shade_ast.specs.Statements.{Name, Attribute, OfType}
use Rattle.shade_ast.specs.Declarations.{MemberOf, ResultOf}
use Rattle.shade_ast.specs.Reads.{Reads}
use Rattle.shade_ast.proofs.ShapeLaws.{shape_grows, member_grows, result_same}
use Rattle.shade_parse_expr.proofs.Trees.{count_join}
use Rattle.shade_parse_simple.specs.declared.read.Read.{Read}
use Rattle.shade_parse_simple.specs.Readings.{ReadsOf, attrs_seen, named_seen, expr_seen, first_of}
use Rattle.shade_parse.specs.Parts.{member_seen, result_seen}
use Rattle.shade_parse_simple.specs.Maybes.{MaybeOf}
use Rattle.shade_parse_simple.proofs.Widens.{Keeps}
use Rattle.shade_parse_simple.proofs.Openings.{opened_reads}
use Rattle.shade_parse.proofs.MemberLaws.{member_of, member_reads, result_opens, result_reads}

pub member_keeps : Keeps member_seen
member_keeps = member_grows

pub result_keeps : Keeps result_seen
result_keeps = shape_grows result_needs result_shape result_same

-- the first place of a tree is that of its shape
pub first_same : (names : List (List ℕ)) (attrs : List Attr) (p : Place) → first_of attrs p ≡ first_place (attr_shapes names attrs) p
first_same names [] p = refl
first_same names (a ∷ attrs) p = refl

module _ {tokens : List Lexeme} {names : List (List ℕ)} {from node : ℕ} (h : from ≤ length tokens) where
  pub member_tree : {place : Place} {a : Read (List Attr)} {n : Read Named} {e : Read Expr} → place ≡ first_of a.tree n.tree.place →
      ReadsOf attrs_seen (Many Attribute) 8 tokens names from node a → ReadsOf named_seen Name 0 tokens names a.end a.node n → ReadsOf expr_seen OfType 0 tokens names n.end n.node e →
      ReadsOf member_seen MemberOf 0 tokens names from node
      (record { tree = record { node = e.node; place = place; attrs = a.tree; name = n.tree; ty = e.tree }; end = e.end; node = e.node + 1 })
  member_tree {place = place} {a = a} {n = n} {e = e} first x y z =
      let s = member_of (attr_shapes names a.tree) (name_shape names n.tree) (expr_shape names e.tree) in
      let same : place ≡ first_place (attr_shapes names a.tree) n.tree.place = first ∙ first_same names a.tree n.tree.place in
      record {
        reads = subst (λ p. Reads MemberOf 0 tokens from (record { place = p; attrs = s.attrs; name = s.name; ty = s.ty }) e.end) (sym same) (member_reads h x.reads y.reads z.reads);
        known = (let b = x.known in let c = y.known in let d = z.known in omega arith);
        nodes =
            count_join (attrs_nodes a.tree) (named_nodes n.tree ++ (expr_nodes e.tree ++ e.node ∷ [])) node a.node (e.node + 1) x.nodes
            (count_join (named_nodes n.tree) (expr_nodes e.tree ++ e.node ∷ []) a.node n.node (e.node + 1) y.nodes (count_join (expr_nodes e.tree) (e.node ∷ []) n.node e.node (e.node + 1) z.nodes (refl, refl)));
      }

  pub result_tree : {p : Place} {a : Read (List Attr)} {e : Read Expr} → slice_get tokens from ≡ Some (Mark sign.Arrow p) → from + 1 ≤ length tokens → from < e.end →
      ReadsOf attrs_seen (Many Attribute) 8 tokens names (from + 1) node a → ReadsOf expr_seen TypeName 0 tokens names a.end a.node e →
      MaybeOf result_seen (Mark sign.Arrow) ResultOf 0 tokens names from node (record { tree = Some (record { attrs = a.tree; ty = e.tree }); end = e.end; node = e.node })
  result_tree {p = p} {a = a} {e = e} is high lt x y = record {
    reads = ((p, is), lt, opened_reads result_opens (omega arith) h (λ p. refl) p is (result_reads high x.reads y.reads));
    known = (let b = x.known in let c = y.known in omega arith);
    nodes = count_join (attrs_nodes a.tree) (expr_nodes e.tree) node a.node e.node x.nodes y.nodes;
  }
