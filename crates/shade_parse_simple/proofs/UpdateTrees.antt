-- Trees of updates, from their parts.
use Rattle.std.proofs.Common.{◌≡◌, sym, subst, ℕ, ◌+◌, ◌<◌, ◌≤◌, Option, None, Some, List, length, arith, slice_get}
use Rattle.shade_base.specs.declared.place.Place.{Place}
use Rattle.shade_ast.specs.declared.lexeme.Sign.TheVariants as sign
use Rattle.shade_ast.specs.declared.expr.Expr.{Expr}
use Rattle.shade_ast.specs.declared.stmt.OpAssign.{OpAssign}
use Rattle.shade_ast.specs.declared.stmt.Update.{Update}
use Rattle.shade_ast.specs.declared.stmt.Update.TheVariants as update
use Rattle.shade_ast.specs.Lexemes.{Lexeme, Mark}
use Rattle.shade_ast.specs.Needs.{expr_needs}
use Rattle.shade_ast.specs.Nodes.{expr_nodes}
use Rattle.shade_ast.specs.Expressions.{Expression, Call, LeftSide}
use Rattle.shade_ast.specs.Statements.{UpdateOf}
use Rattle.shade_ast.specs.Reads.{Reads}
use Rattle.shade_parse_expr.proofs.Trees.{count_join}
use Rattle.shade_parse_simple.specs.declared.read.Read.{Read}
use Rattle.shade_parse_simple.specs.Readings.{ReadsOf, expr_seen, update_seen}
use Rattle.shade_parse_simple.specs.Updates.{Assigning, assigned_by, BeginsCall, NoOther}
use Rattle.shade_parse_simple.proofs.UpdateLaws.{drops_reads, alone_reads, up_reads, down_reads, sets_reads}

module _ {tokens : List Lexeme} {names : List (List ℕ)} {from node : ℕ} (h : from ≤ length tokens) where
  pub phony_tree : {p q : Place} {v : Read Expr} → slice_get tokens from ≡ Some (Mark sign.Underscore p) → slice_get tokens (from + 1) ≡ Some (Mark sign.Equal q) →
      ReadsOf expr_seen Expression 7 tokens names (from + 2) node v →
      ReadsOf update_seen UpdateOf 7 tokens names from node (record { tree = update.Phony p q v.tree; end = v.end; node = v.node })
  phony_tree {p = p} {q = q} is equal x = record { reads = drops_reads h p is q equal x.reads; known = x.known; nodes = x.nodes }

  pub call_tree : {e : Read Expr} → BeginsCall tokens from → from < e.end → ReadsOf expr_seen Call 1 tokens names from node e → ReadsOf update_seen UpdateOf 7 tokens names from node (record { tree = update.Call e.tree; end = e.end; node = e.node })
  call_tree begins lt x = record { reads = alone_reads h begins lt x.reads; known = x.known; nodes = x.nodes }

  module _ (o : NoOther tokens from) {t : Read Expr} (x : ReadsOf expr_seen LeftSide 2 tokens names from node t) (lt : from < t.end) where
    pub up_tree : {p : Place} → slice_get tokens t.end ≡ Some (Mark sign.PlusPlus p) → ReadsOf update_seen UpdateOf 7 tokens names from node (record { tree = update.Increment t.tree p; end = t.end + 1; node = t.node })
    up_tree {p = p} is = record { reads = up_reads h o x.reads lt p is; known = x.known; nodes = x.nodes }

    module _ (no_up : (p : Place) → slice_get tokens t.end ≡ Some (Mark sign.PlusPlus p) → ⊥) where
      pub down_tree : {p : Place} → slice_get tokens t.end ≡ Some (Mark sign.MinusMinus p) → ReadsOf update_seen UpdateOf 7 tokens names from node (record { tree = update.Decrement t.tree p; end = t.end + 1; node = t.node })
      down_tree {p = p} is = record { reads = down_reads h o x.reads lt no_up p is; known = x.known; nodes = x.nodes }

      module _ (no_down : (p : Place) → slice_get tokens t.end ≡ Some (Mark sign.MinusMinus p) → ⊥) {p : Place} {behind : ℕ} {v : Read Expr} where
        set_by : (a : Option OpAssign) → Reads Assigning 0 tokens t.end (a, p) behind → ReadsOf expr_seen Expression 7 tokens names behind t.node v → ReadsOf update_seen UpdateOf 7 tokens names from node (record { tree = assigned_by t.tree a p v.tree; end = v.end; node = v.node })
        set_by None s y = record {
          reads = sets_reads h o x.reads lt no_up no_down s y.reads;
          known = (let k : expr_needs t.tree ≤ length names = x.known in let l : expr_needs v.tree ≤ length names = y.known in omega arith);
          nodes = count_join (expr_nodes t.tree) (expr_nodes v.tree) node t.node v.node x.nodes y.nodes;
        }
        set_by (Some operator) s y = record {
          reads = sets_reads h o x.reads lt no_up no_down s y.reads;
          known = (let k : expr_needs t.tree ≤ length names = x.known in let l : expr_needs v.tree ≤ length names = y.known in omega arith);
          nodes = count_join (expr_nodes t.tree) (expr_nodes v.tree) node t.node v.node x.nodes y.nodes;
        }

        pub set_tree : {a : Option OpAssign} {u : Update} → Reads Assigning 0 tokens t.end (a, p) behind → ReadsOf expr_seen Expression 7 tokens names behind t.node v →
            u ≡ assigned_by t.tree a p v.tree → ReadsOf update_seen UpdateOf 7 tokens names from node (record { tree = u; end = v.end; node = v.node })
        set_tree {a = a} s y same = subst (λ z. ReadsOf update_seen UpdateOf 7 tokens names from node (record { tree = z; end = v.end; node = v.node })) (sym same) (set_by a s y)
