-- Trees of declarations, from their parts.
use Rattle.std.proofs.Common.{◌≡◌, refl, sym, ap, subst, ℕ, ◌+◌, ◌≤◌, true, false, Option, Some, List, [], ◌∷◌, ◌++◌, length, arith, slice_get}
use Rattle.std.specs.Prelude.{option_map, ◌↔◌, IsTrue}
use Rattle.shade_base.specs.declared.place.Place.{Place}
use Rattle.shade_ast.specs.declared.attr.Attr.{Attr}
use Rattle.shade_ast.specs.declared.expr.Expr.{Expr}
use Rattle.shade_ast.specs.declared.expr.Named.{Named}
use Rattle.shade_ast.specs.declared.stmt.Var.{Var}
use Rattle.shade_ast.specs.declared.stmt.Binding.{Binding}
use Rattle.shade_ast.specs.declared.stmt.Block.{Block}
use Rattle.shade_ast.specs.declared.tree.Member.{Member}
use Rattle.shade_ast.specs.declared.tree.FnResult.{FnResult}
use Rattle.shade_ast.specs.declared.tree.Decl.{Decl}
use Rattle.shade_ast.specs.declared.tree.DeclKind.{DeclKind}
use Rattle.shade_ast.specs.declared.tree.DeclKind.TheVariants as decl
use Rattle.shade_ast.specs.declared.lexeme.Keyword.TheVariants as word
use Rattle.shade_ast.specs.declared.lexeme.Sign.TheVariants as sign
use Rattle.shade_ast.specs.Lexemes.{Lexeme, Key, Mark}
use Rattle.shade_ast.specs.Shapes.{alias_decl, const_decl, assert_decl, var_decl, override_decl, fn_decl}
use Rattle.shade_ast.specs.Shaped.{attr_shapes, name_shape, expr_shape, var_shape, result_shape}
use Rattle.shade_ast.specs.Nodes.{joined_of, maybe_of as nodes_maybe, attrs_nodes, named_nodes, expr_nodes, var_nodes, member_nodes, result_nodes, block_nodes, decl_kind_nodes, CountFrom}
use Rattle.shade_ast.specs.Repeats.{Many, Listed, MaybeListed}
use Rattle.shade_ast.specs.Expressions.{TypeName, Expression}
use Rattle.shade_ast.specs.Statements.{Name, Attribute, OfType, HasValue, Var as VarPhrase, Block as BlockPhrase}
use Rattle.shade_ast.specs.Declarations.{MemberOf, ResultOf, Declaration}
use Rattle.shade_ast.specs.Reads.{Reads}
use Rattle.shade_ast.specs.Chains.{Headed}
use Rattle.shade_ast.proofs.Stages.{begin}
use Rattle.shade_ast.proofs.ShapeLaws.{decl_grows, list_grows}
use Rattle.shade_parse_expr.proofs.Trees.{count_join}
use Rattle.shade_parse_simple.specs.declared.read.Read.{Read}
use Rattle.shade_parse.specs.declared.members.ItemList.{ItemList}
use Rattle.shade_parse.specs.declared.declarations.OverrideBody.{OverrideBody}
use Rattle.shade_parse.specs.declared.declarations.FnBody.{FnBody}
use Rattle.shade_parse_simple.specs.Maybes.{MaybeOf}
use Rattle.shade_parse_simple.specs.Readings.{Seen, ReadsOf, attrs_seen, named_seen, expr_seen, var_seen, binding_seen, first_of}
use Rattle.shade_parse.specs.Parts.{member_seen, result_seen, enclosed_seen, decl_kind_seen, decl_seen, override_seen, fn_seen}
use Rattle.shade_parse_stmt.specs.StatementParts.{block_seen}
use Rattle.shade_parse_simple.specs.Rests.{Bound}
use Rattle.shade_parse.specs.Rests.{Enclosed, AliasRest, ConstRest, AssertRest, StructRest, PlainAt, OverrideRest, FnRest}
use Rattle.shade_parse_simple.proofs.Widens.{Keeps}
use Rattle.shade_parse.proofs.MemberTrees.{first_same}
use Rattle.shade_parse.proofs.PlainLaws.{closed_reads, alias_equal, struct_reads, plain_reads, plain_empty}
use Rattle.shade_parse.proofs.DeclarationLaws.{override_reads, fn_reads, var_shape_of, decl_fn_reads, decl_override_reads, decl_var, decl_plain_reads, some_members}

pub decl_keeps : Keeps decl_seen
decl_keeps = decl_grows

module _ {tokens : List Lexeme} {names : List (List ℕ)} {from node : ℕ} (h : from ≤ length tokens) where
  pub fn_tree : {n : Read Named} {q : Place} {l : Read (ItemList Member)} {r : Read (Option FnResult)} {b : Read Block} → ReadsOf named_seen Name 0 tokens names from node n →
      slice_get tokens n.end ≡ Some (Mark sign.Open q) → ReadsOf (enclosed_seen member_seen) (Enclosed (MaybeListed MemberOf) sign.Close) 0 tokens names (n.end + 1) n.node l →
      MaybeOf result_seen (Mark sign.Arrow) ResultOf 0 tokens names l.end l.node r → ReadsOf block_seen BlockPhrase 0 tokens names r.end r.node b →
      ReadsOf fn_seen FnRest 0 tokens names from node
      (record { tree = record { name = n.tree; params = l.tree.items; trailing = l.tree.trailing; result = r.tree; body = b.tree }; end = b.end; node = b.node })
  fn_tree {n = n} {q = q} {l = l} {r = r} {b = b} x is y z u = record {
    reads = fn_reads h x.reads q is y.reads (option_map (result_shape names) r.tree) r.end z.reads u.reads;
    known = (let c = x.known in let d = y.known in let e = z.known in let f = u.known in omega arith);
    nodes =
        count_join (named_nodes n.tree) (joined_of member_nodes l.tree.items ++ (nodes_maybe result_nodes r.tree ++ block_nodes b.tree)) node n.node b.node x.nodes
        (count_join (joined_of member_nodes l.tree.items) (nodes_maybe result_nodes r.tree ++ block_nodes b.tree) n.node l.node b.node y.nodes (count_join (nodes_maybe result_nodes r.tree) (block_nodes b.tree) l.node r.node b.node z.nodes u.nodes));
  }

  pub override_tree : {n : Read Named} {t v : Read (Option Expr)} {p : Place} → ReadsOf named_seen Name 0 tokens names from node n →
      MaybeOf expr_seen (Mark sign.Colon) OfType 0 tokens names n.end n.node t → MaybeOf expr_seen (Mark sign.Equal) HasValue 7 tokens names t.end t.node v →
      slice_get tokens v.end ≡ Some (Mark sign.Semicolon p) →
      ReadsOf override_seen OverrideRest 0 tokens names from node (record { tree = record { name = n.tree; ty = t.tree; value = v.tree }; end = v.end + 1; node = v.node })
  override_tree {n = n} {t = t} {v = v} {p = p} x y z is = record {
    reads = override_reads h x.reads (option_map (expr_shape names) t.tree) t.end y.reads (option_map (expr_shape names) v.tree) v.end z.reads p is;
    known = (let c = x.known in let d = y.known in let e = z.known in omega arith);
    nodes = count_join (named_nodes n.tree) (nodes_maybe expr_nodes t.tree ++ nodes_maybe expr_nodes v.tree) node n.node v.node x.nodes (count_join (nodes_maybe expr_nodes t.tree) (nodes_maybe expr_nodes v.tree) n.node t.node v.node y.nodes z.nodes);
  }

  pub alias_tree : {p q x : Place} {n : Read Named} {e : Read Expr} → ReadsOf named_seen Name 0 tokens names from node n → slice_get tokens n.end ≡ Some (Mark sign.Equal q) →
      ReadsOf expr_seen TypeName 0 tokens names (n.end + 1) n.node e → slice_get tokens e.end ≡ Some (Mark sign.Semicolon x) →
      ReadsOf (decl_kind_seen p) (AliasRest p) 0 tokens names from node (record { tree = decl.Alias n.tree e.tree; end = e.end + 1; node = e.node })
  alias_tree {p = p} {q = q} {x = x} {n = n} {e = e} a is b ends = record {
    reads = closed_reads TypeName (alias_decl p (name_shape names n.tree)) (omega arith) (alias_equal p h a.reads q is) b.reads x ends;
    known = (let c = a.known in let d = b.known in omega arith);
    nodes = count_join (named_nodes n.tree) (expr_nodes e.tree) node n.node e.node a.nodes b.nodes;
  }

  pub const_tree : {p x : Place} {b : Read Binding} → ReadsOf binding_seen (Bound p) 7 tokens names from node b → slice_get tokens b.end ≡ Some (Mark sign.Semicolon x) →
      ReadsOf (decl_kind_seen p) (ConstRest p) 0 tokens names from node (record { tree = decl.Const b.tree; end = b.end + 1; node = b.node })
  const_tree {p = p} {x = x} a ends = record { reads = closed_reads (Bound p) (const_decl p) (omega arith) (begin (ConstRest p) 0 tokens from h) a.reads x ends; known = a.known; nodes = a.nodes }

  pub assert_tree : {p x : Place} {e : Read Expr} → ReadsOf expr_seen Expression 7 tokens names from node e → slice_get tokens e.end ≡ Some (Mark sign.Semicolon x) →
      ReadsOf (decl_kind_seen p) (AssertRest p) 0 tokens names from node (record { tree = decl.ConstAssert e.tree; end = e.end + 1; node = e.node })
  assert_tree {p = p} {x = x} a ends = record { reads = closed_reads Expression (assert_decl p) (omega arith) (begin (AssertRest p) 0 tokens from h) a.reads x ends; known = a.known; nodes = a.nodes }

  pub struct_tree : {p q : Place} {n : Read Named} {l : Read (ItemList Member)} → ReadsOf named_seen Name 0 tokens names from node n → slice_get tokens n.end ≡ Some (Mark sign.OpenBrace q) →
      ReadsOf (enclosed_seen member_seen) (Enclosed (Listed MemberOf) sign.CloseBrace) 0 tokens names (n.end + 1) n.node l →
      ReadsOf (decl_kind_seen p) (StructRest p) 0 tokens names from node (record { tree = decl.Struct n.tree l.tree.items l.tree.trailing l.tree.close; end = l.end; node = l.node })
  struct_tree {p = p} {q = q} {n = n} {l = l} a is b = record {
    reads = struct_reads p some_members h a.reads q is b.reads;
    known = (let c = a.known in let d = b.known in omega arith);
    nodes = count_join (named_nodes n.tree) (joined_of member_nodes l.tree.items) node n.node l.node a.nodes b.nodes;
  }

  -- a declaration behind its keyword, with its number
  pub plain_tree : {p : Place} (t : Lexeme) {k : Read DeclKind} → slice_get tokens from ≡ Some t → ReadsOf (decl_kind_seen p) (PlainAt t) 0 tokens names (from + 1) node k →
      ReadsOf decl_seen (Headed PlainAt) 0 tokens names from node (record { tree = record { node = k.node; place = p; kind = k.tree }; end = k.end; node = k.node + 1 })
  plain_tree t {k = k} is x = record {
    reads = plain_reads h t is x.reads;
    known = x.known;
    nodes = count_join (decl_kind_nodes k.tree) (k.node ∷ []) node k.node (k.node + 1) x.nodes (refl, refl);
  }

  pub empty_tree : {p : Place} → slice_get tokens from ≡ Some (Mark sign.Semicolon p) → ReadsOf decl_seen (Headed PlainAt) 0 tokens names from node (record { tree = record { node = node; place = p; kind = decl.Empty }; end = from + 1; node = node + 1 })
  empty_tree {p = p} is = record { reads = plain_empty h p is; known = omega arith; nodes = (refl, refl) }

  -- behind attributes
  module _ {a : Read (List Attr)} (x : ReadsOf attrs_seen (Many Attribute) 8 tokens names from node a) where
    pub fn_decl_tree : {p : Place} {f : Read FnBody} → slice_get tokens a.end ≡ Some (Key word.Fn p) → ReadsOf fn_seen FnRest 0 tokens names (a.end + 1) a.node f →
        ReadsOf decl_seen Declaration 0 tokens names from node
        (record {
          tree = record { node = f.node; place = first_of a.tree p; kind = decl.Fn a.tree p f.tree.name f.tree.params f.tree.trailing f.tree.result f.tree.body };
          end = f.end;
          node =
              f.node + 1;
        })
    fn_decl_tree {p = p} {f = f} is y =
        let s = fn_seen.shape names f.tree in
        record {
          reads = subst (λ q. Reads Declaration 0 tokens from (fn_decl q (attr_shapes names a.tree) p s.name s.params s.trailing s.result s.body) f.end) (sym (first_same names a.tree p)) (decl_fn_reads h x.reads p is y.reads);
          known = (let c = x.known in let d = y.known in omega arith);
          nodes = count_join (attrs_nodes a.tree ++ fn_seen.nodes f.tree) (f.node ∷ []) node f.node (f.node + 1) (count_join (attrs_nodes a.tree) (fn_seen.nodes f.tree) node a.node f.node x.nodes y.nodes) (refl, refl);
        }

    module _ (no_fn : (p : Place) → slice_get tokens a.end ≡ Some (Key word.Fn p) → ⊥) where
      pub override_decl_tree : {p : Place} {o : Read OverrideBody} → slice_get tokens a.end ≡ Some (Key word.Override p) →
          ReadsOf override_seen OverrideRest 0 tokens names (a.end + 1) a.node o →
          ReadsOf decl_seen Declaration 0 tokens names from node
          (record { tree = record { node = o.node; place = first_of a.tree p; kind = decl.Override a.tree p o.tree.name o.tree.ty o.tree.value }; end = o.end; node = o.node + 1 })
      override_decl_tree {p = p} {o = o} is y =
          let s = override_seen.shape names o.tree in
          record {
            reads = subst (λ q. Reads Declaration 0 tokens from (override_decl q (attr_shapes names a.tree) p s.name s.ty s.value) o.end) (sym (first_same names a.tree p)) (decl_override_reads h x.reads no_fn p is y.reads);
            known = (let c = x.known in let d = y.known in omega arith);
            nodes = count_join (attrs_nodes a.tree ++ override_seen.nodes o.tree) (o.node ∷ []) node o.node (o.node + 1) (count_join (attrs_nodes a.tree) (override_seen.nodes o.tree) node a.node o.node x.nodes y.nodes) (refl, refl);
          }

      module _ (no_override : (p : Place) → slice_get tokens a.end ≡ Some (Key word.Override p) → ⊥) where
        pub var_decl_tree : {p q : Place} {v : Read Var} → slice_get tokens a.end ≡ Some (Key word.Var p) → ReadsOf var_seen VarPhrase 8 tokens names a.end a.node v →
            slice_get tokens v.end ≡ Some (Mark sign.Semicolon q) →
            ReadsOf decl_seen Declaration 0 tokens names from node
            (record { tree = record { node = v.node; place = first_of a.tree v.tree.keyword; kind = decl.Var a.tree v.tree }; end = v.end + 1; node = v.node + 1 })
        var_decl_tree {p = p} {q = q} {v = v} is y ends = record {
          reads = subst (λ z. Reads Declaration 0 tokens from (var_decl z (attr_shapes names a.tree) (var_shape names v.tree)) (v.end + 1)) (sym (first_same names a.tree v.tree.keyword))
              (closed_reads VarPhrase (var_shape_of (attr_shapes names a.tree)) (omega arith) (decl_var h x.reads no_fn no_override p is) y.reads q ends);
          known = (let c = x.known in let d = y.known in omega arith);
          nodes = count_join (attrs_nodes a.tree ++ var_nodes v.tree) (v.node ∷ []) node v.node (v.node + 1) (count_join (attrs_nodes a.tree) (var_nodes v.tree) node a.node v.node x.nodes y.nodes) (refl, refl);
        }

        pub decl_plain_tree : ((p : Place) → slice_get tokens a.end ≡ Some (Key word.Var p) → ⊥) → a.tree ≡ [] → {d : Read Decl} → ReadsOf decl_seen (Headed PlainAt) 0 tokens names a.end a.node d → ReadsOf decl_seen Declaration 0 tokens names from node d
        decl_plain_tree no_var none {d = d} y = record {
          reads = decl_plain_reads h x.reads no_fn no_override no_var (ap (attr_shapes names) none) y.reads;
          known = y.known;
          nodes = (let same : node ≡ a.node = subst (λ l. CountFrom node (attrs_nodes l) a.node) none x.nodes in subst (λ i. CountFrom i (decl_seen.nodes d.tree) d.node) (sym same) y.nodes);
        }

pub enclosed_keeps : {T R : Type 0} (seen : Seen T R) → Keeps seen → Keeps (enclosed_seen seen)
enclosed_keeps seen keeps old new l h g = ap (λ x. ((x, l.trailing), l.close)) (list_grows seen.needs seen.shape keeps old new l.items h g)

-- attributes whose shapes are none
pub no_attrs : (names : List (List ℕ)) (attrs : List Attr) → (IsTrue false ↔ (attrs ≡ [])) → attr_shapes names attrs ≡ [] → ⊥
no_attrs names [] k e = let bad : false ≡ true = k.1 refl in cc
no_attrs names (a ∷ attrs) k e = let bad : attr_shapes names (a ∷ attrs) ≡ [] = e in cc
