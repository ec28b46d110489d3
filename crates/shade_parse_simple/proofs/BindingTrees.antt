-- Trees of names and declarations of values, from their parts.
use Rattle.std.proofs.Common.{◌≡◌, refl, sym, subst, ℕ, ◌+◌, ◌<◌, ◌≤◌, Bool, Option, Some, List, [], ◌++◌, length, arith, slice_get}
use Rattle.std.specs.Prelude.{option_map}
use Rattle.std.proofs.lemmas.Option.{slice_get_within, get_or_from_slice_get}
use Rattle.shade_base.specs.declared.place.Place.{Place}
use Rattle.shade_ast.specs.declared.lexeme.Keyword.TheVariants as word
use Rattle.shade_ast.specs.declared.lexeme.Sign.TheVariants as sign
use Rattle.shade_ast.specs.declared.expr.Expr.{Expr}
use Rattle.shade_ast.specs.declared.expr.Named.{Named}
use Rattle.shade_ast.specs.declared.stmt.VarSpace.{VarSpace as VarSpaceTree}
use Rattle.shade_ast.specs.Lexemes.{Lexeme, Word, Key, Mark}
use Rattle.shade_ast.specs.Shaped.{expr_shape, var_space_shape}
use Rattle.shade_ast.specs.Needs.{var_space_needs}
use Rattle.shade_ast.specs.Nodes.{named_nodes, expr_nodes, maybe_of as nodes_maybe, var_space_nodes}
use Rattle.shade_ast.specs.Statements.{Name, OfType, HasValue, VarSpace, Var}
use Rattle.shade_ast.specs.Reads.{Reads}
use Rattle.shade_ast.proofs.Placed.{name_reads}
use Rattle.shade_ast.proofs.ShapeLaws.{shape_grows, var_space_same}
use Rattle.shade_parse_expr.proofs.Trees.{count_join}
use Rattle.shade_parse_simple.specs.declared.read.Read.{Read}
use Rattle.shade_parse_simple.specs.Readings.{ReadsOf, named_seen, expr_seen, access_seen, var_space_seen, binding_seen, var_seen}
use Rattle.shade_parse_simple.specs.Maybes.{MaybeOf}
use Rattle.shade_parse_simple.specs.Rests.{Bound, Ending, SpaceEnd}
use Rattle.shade_parse_simple.proofs.Widens.{Keeps}
use Rattle.shade_parse_simple.proofs.Openings.{opened_reads}
use Rattle.shade_parse_simple.proofs.Endings.{space_reads}
use Rattle.shade_parse_simple.proofs.BindingLaws.{bound_reads, space_rest_reads, var_space_opens, var_reads}

pub var_space_keeps : Keeps var_space_seen
var_space_keeps = shape_grows var_space_needs var_space_shape var_space_same

module _ {tokens : List Lexeme} {names : List (List ℕ)} {from node : ℕ} where
  pub name_tree : {text : List ℕ} {p : Place} {n : ℕ} → slice_get tokens from ≡ Some (Word text p) → slice_get names n ≡ Some text → ReadsOf named_seen Name 0 tokens names from node (record { tree = record { node = node; place = p; name = n }; end = from + 1; node = node + 1 })
  name_tree {text = text} {p = p} {n = n} is stored = record {
    reads = subst (λ x. Reads Name 0 tokens from (record { place = p; text = x }) (from + 1)) (sym (get_or_from_slice_get names n text [] stored)) (name_reads 0 tokens from (record { place = p; text = text }) is);
    known = (let lt : n < length names = slice_get_within names n text stored in omega arith);
    nodes = (refl, refl);
  }

  module _ (h : from ≤ length tokens) where
    pub bound_tree : {keyword : Place} {n : Read Named} {t : Read (Option Expr)} {e : Read Expr} → ReadsOf named_seen Name 0 tokens names from node n →
        MaybeOf expr_seen (Mark sign.Colon) OfType 0 tokens names n.end n.node t → ReadsOf expr_seen HasValue 7 tokens names t.end t.node e →
        ReadsOf binding_seen (Bound keyword) 7 tokens names from node (record { tree = record { keyword = keyword; name = n.tree; ty = t.tree; value = e.tree }; end = e.end; node = e.node })
    bound_tree {keyword = keyword} {n = n} {t = t} {e = e} x y z = record {
      reads = bound_reads keyword h x.reads (option_map (expr_shape names) t.tree) t.end y.reads z.reads;
      known = (let a = x.known in let b = y.known in let c = z.known in omega arith);
      nodes = count_join (named_nodes n.tree) (nodes_maybe expr_nodes t.tree ++ expr_nodes e.tree) node n.node e.node x.nodes (count_join (nodes_maybe expr_nodes t.tree) (expr_nodes e.tree) n.node t.node e.node y.nodes z.nodes);
    }

    pub space_tree : {p : Place} {n : Read Named} {a : Read (Option Named × Bool)} → slice_get tokens from ≡ Some (Mark sign.OpenTemplate p) → from + 1 ≤ length tokens → from < a.end →
        ReadsOf named_seen Name 0 tokens names (from + 1) node n → ReadsOf access_seen SpaceEnd 0 tokens names n.end n.node a →
        MaybeOf var_space_seen (Mark sign.OpenTemplate) VarSpace 0 tokens names from node
        (record { tree = Some (record { space = n.tree; access = a.tree.0; trailing = a.tree.1 }); end = a.end; node = a.node })
    space_tree {p = p} {n = n} {a = a} is high lt x y = record {
      reads = ((p, is), lt, opened_reads var_space_opens (omega arith) h (λ p. refl) p is (space_rest_reads high x.reads y.reads));
      known = (let e = x.known in let f = y.known in omega arith);
      nodes = count_join (named_nodes n.tree) (nodes_maybe named_nodes a.tree.0) node n.node a.node x.nodes y.nodes;
    }

    pub var_tree : {p : Place} {s : Read (Option VarSpaceTree)} {n : Read Named} {t e : Read (Option Expr)} → slice_get tokens from ≡ Some (Key word.Var p) →
        MaybeOf var_space_seen (Mark sign.OpenTemplate) VarSpace 0 tokens names (from + 1) node s → ReadsOf named_seen Name 0 tokens names s.end s.node n →
        MaybeOf expr_seen (Mark sign.Colon) OfType 0 tokens names n.end n.node t → MaybeOf expr_seen (Mark sign.Equal) HasValue 7 tokens names t.end t.node e →
        ReadsOf var_seen Var 8 tokens names from node (record { tree = record { keyword = p; space = s.tree; name = n.tree; ty = t.tree; value = e.tree }; end = e.end; node = e.node })
    var_tree {p = p} {s = s} {n = n} {t = t} {e = e} is a x y z = record {
      reads = var_reads h p is (option_map (var_space_shape names) s.tree) s.end a.reads x.reads (option_map (expr_shape names) t.tree) t.end y.reads (option_map (expr_shape names) e.tree) e.end z.reads;
      known = (let b = a.known in let c = x.known in let d = y.known in let f = z.known in omega arith);
      nodes =
          count_join (nodes_maybe var_space_nodes s.tree) (named_nodes n.tree ++ (nodes_maybe expr_nodes t.tree ++ nodes_maybe expr_nodes e.tree)) node s.node e.node a.nodes
          (count_join (named_nodes n.tree) (nodes_maybe expr_nodes t.tree ++ nodes_maybe expr_nodes e.tree) s.node n.node e.node x.nodes (count_join (nodes_maybe expr_nodes t.tree) (nodes_maybe expr_nodes e.tree) n.node t.node e.node y.nodes z.nodes));
    }

  pub access_tree : {q : Place} {n : Read Named} {trailing : Bool} {end : ℕ} → from ≤ length tokens → ((p : Place) → slice_get tokens from ≡ Some (Mark sign.CloseTemplate p) → ⊥) →
      slice_get tokens from ≡ Some (Mark sign.Comma q) → ((p : Place) → slice_get tokens (from + 1) ≡ Some (Mark sign.CloseTemplate p) → ⊥) →
      ReadsOf named_seen Name 0 tokens names (from + 1) node n → Reads (Ending sign.CloseTemplate) 0 tokens n.end trailing end →
      ReadsOf access_seen SpaceEnd 0 tokens names from node (record { tree = (Some n.tree, trailing); end = end; node = n.node })
  access_tree {q = q} h no_close comma no_second x y = record { reads = space_reads h no_close q comma no_second x.reads y; known = x.known; nodes = x.nodes }
