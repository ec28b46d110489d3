-- Trees of statements that may begin a `for`, from their parts.
use Rattle.std.proofs.Common.{◌≡◌, ℕ, ◌+◌, ◌≤◌, List, length, Some, slice_get}
use Rattle.shade_base.specs.declared.place.Place.{Place}
use Rattle.shade_ast.specs.declared.lexeme.Keyword.TheVariants as word
use Rattle.shade_ast.specs.declared.stmt.Var.{Var as VarTree}
use Rattle.shade_ast.specs.declared.stmt.Binding.{Binding}
use Rattle.shade_ast.specs.declared.stmt.Update.{Update}
use Rattle.shade_ast.specs.declared.stmt.Simple.TheVariants as simple
use Rattle.shade_ast.specs.Lexemes.{Lexeme, Key}
use Rattle.shade_ast.specs.Statements.{Var, UpdateOf, SimpleStatement}
use Rattle.shade_parse_simple.specs.declared.read.Read.{Read}
use Rattle.shade_parse_simple.specs.Maybes.{Stands}
use Rattle.shade_parse_simple.specs.Readings.{ReadsOf, var_seen, binding_seen, update_seen, simple_seen}
use Rattle.shade_parse_simple.specs.Rests.{Bound}
use Rattle.shade_parse_simple.proofs.SimpleLaws.{by_var_reads, by_const_reads, by_let_reads, by_update_reads}

module _ {tokens : List Lexeme} {names : List (List ℕ)} {from node : ℕ} where
  pub variable_tree : {v : Read VarTree} → Stands (Key word.Var) tokens from → ReadsOf var_seen Var 8 tokens names from node v → ReadsOf simple_seen SimpleStatement 8 tokens names from node (record { tree = simple.Var v.tree; end = v.end; node = v.node })
  variable_tree s x = record { reads = by_var_reads s x.reads; known = x.known; nodes = x.nodes }

  pub update_tree : {u : Read Update} → (Stands (Key word.Var) tokens from → ⊥) → (Stands (Key word.Const) tokens from → ⊥) → (Stands (Key word.Let) tokens from → ⊥) →
      ReadsOf update_seen UpdateOf 7 tokens names from node u →
      ReadsOf simple_seen SimpleStatement 8 tokens names from node (record { tree = simple.Update u.tree; end = u.end; node = u.node })
  update_tree no_var no_const no_let x = record { reads = by_update_reads no_var no_const no_let x.reads; known = x.known; nodes = x.nodes }

  module _ (h : from ≤ length tokens) {p : Place} {b : Read Binding} where
    pub constant_tree : slice_get tokens from ≡ Some (Key word.Const p) → ReadsOf binding_seen (Bound p) 7 tokens names (from + 1) node b → ReadsOf simple_seen SimpleStatement 8 tokens names from node (record { tree = simple.Const b.tree; end = b.end; node = b.node })
    constant_tree is x = record { reads = by_const_reads h p is x.reads; known = x.known; nodes = x.nodes }

    pub value_tree : slice_get tokens from ≡ Some (Key word.Let p) → ReadsOf binding_seen (Bound p) 7 tokens names (from + 1) node b → ReadsOf simple_seen SimpleStatement 8 tokens names from node (record { tree = simple.Let b.tree; end = b.end; node = b.node })
    value_tree is x = record { reads = by_let_reads h p is x.reads; known = x.known; nodes = x.nodes }
