-- Trees of directives, from their parts.
use Rattle.std.proofs.Common.{◌≡◌, refl, ℕ, ◌+◌, ◌≤◌, Bool, Some, List, [], ◌∷◌, length, arith, slice_get}
use Rattle.shade_base.specs.declared.place.Place.{Place}
use Rattle.shade_ast.specs.declared.expr.Named.{Named}
use Rattle.shade_ast.specs.declared.tree.Rule.{Rule}
use Rattle.shade_ast.specs.declared.tree.Rule.TheVariants as rules
use Rattle.shade_ast.specs.declared.tree.DirectiveKind.{DirectiveKind}
use Rattle.shade_ast.specs.declared.tree.DirectiveKind.TheVariants as directive
use Rattle.shade_ast.specs.declared.lexeme.Keyword.TheVariants as word
use Rattle.shade_ast.specs.declared.lexeme.Sign.TheVariants as sign
use Rattle.shade_ast.specs.Lexemes.{Lexeme, Key, Mark}
use Rattle.shade_ast.specs.Shapes.{requires_directive, enable_directive}
use Rattle.shade_ast.specs.Shaped.{rule_shape}
use Rattle.shade_ast.specs.Needs.{rule_needs}
use Rattle.shade_ast.specs.Nodes.{named_nodes, rule_nodes, directive_kind_nodes}
use Rattle.shade_ast.specs.Repeats.{Listed}
use Rattle.shade_ast.specs.Statements.{Name}
use Rattle.shade_ast.specs.Declarations.{RuleOf, DirectiveOf}
use Rattle.shade_ast.specs.Reads.{Reads}
use Rattle.shade_ast.proofs.ShapeLaws.{shape_grows, rule_same, directive_grows}
use Rattle.shade_parse_expr.proofs.Trees.{count_join}
use Rattle.shade_parse_simple.specs.declared.read.Read.{Read}
use Rattle.shade_parse.specs.declared.members.ItemList.{ItemList}
use Rattle.shade_parse_simple.specs.Readings.{ReadsOf, named_seen}
use Rattle.shade_parse.specs.Parts.{enclosed_seen, rule_seen, directive_kind_seen, directive_seen}
use Rattle.shade_parse_simple.specs.Rests.{Ending}
use Rattle.shade_parse.specs.Rests.{Enclosed, DiagnosticRest, DirectiveAt}
use Rattle.shade_parse_simple.proofs.Widens.{Keeps}
use Rattle.shade_parse.proofs.DirectiveLaws.{rule_plain, rule_scoped, diagnostic_reads, directive_reads, built_reads}

pub rule_keeps : Keeps rule_seen
rule_keeps = shape_grows rule_needs rule_shape rule_same

pub directive_keeps : Keeps directive_seen
directive_keeps = directive_grows

module _ {tokens : List Lexeme} {names : List (List ℕ)} {from node : ℕ} (h : from ≤ length tokens) where
  pub plain_tree : {n : Read Named} → ReadsOf named_seen Name 0 tokens names from node n → ((p : Place) → slice_get tokens n.end ≡ Some (Mark sign.Dot p) → ⊥) → ReadsOf rule_seen RuleOf 2 tokens names from node (record { tree = rules.Plain n.tree; end = n.end; node = n.node })
  plain_tree x never = record { reads = rule_plain h x.reads never; known = x.known; nodes = x.nodes }

  pub scoped_tree : {n m : Read Named} {p : Place} → ReadsOf named_seen Name 0 tokens names from node n → slice_get tokens n.end ≡ Some (Mark sign.Dot p) →
      ReadsOf named_seen Name 0 tokens names (n.end + 1) n.node m →
      ReadsOf rule_seen RuleOf 2 tokens names from node (record { tree = rules.Scoped n.tree p m.tree; end = m.end; node = m.node })
  scoped_tree {n = n} {m = m} {p = p} x is y = record {
    reads = rule_scoped h x.reads p is y.reads;
    known = (let a = x.known in let b = y.known in omega arith);
    nodes = count_join (named_nodes n.tree) (named_nodes m.tree) node n.node m.node x.nodes y.nodes;
  }

  pub diagnostic_tree : {p q o x : Place} {n : Read Named} {r : Read Rule} {t : Bool} {end : ℕ} → slice_get tokens from ≡ Some (Mark sign.Open q) →
      ReadsOf named_seen Name 0 tokens names (from + 1) node n → slice_get tokens n.end ≡ Some (Mark sign.Comma o) → ReadsOf rule_seen RuleOf 2 tokens names (n.end + 1) n.node r →
      Reads (Ending sign.Close) 0 tokens r.end t end → slice_get tokens end ≡ Some (Mark sign.Semicolon x) →
      ReadsOf (directive_kind_seen p) (DiagnosticRest p) 0 tokens names from node (record { tree = directive.Diagnostic n.tree r.tree t; end = end + 1; node = r.node })
  diagnostic_tree {p = p} {q = q} {o = o} {x = x} {n = n} {r = r} opens a comma b c ends = record {
    reads = diagnostic_reads p h q opens a.reads o comma b.reads c x ends;
    known = (let d = a.known in let e = b.known in omega arith);
    nodes = count_join (named_nodes n.tree) (rule_nodes r.tree) node n.node r.node a.nodes b.nodes;
  }

  -- a directive behind its keyword, with its number
  pub directive_tree : {p : Place} (t : Lexeme) {k : Read DirectiveKind} → slice_get tokens from ≡ Some t → ReadsOf (directive_kind_seen p) (DirectiveAt t) 0 tokens names (from + 1) node k →
      ReadsOf directive_seen DirectiveOf 0 tokens names from node (record { tree = record { node = k.node; place = p; kind = k.tree }; end = k.end; node = k.node + 1 })
  directive_tree t {k = k} is x = record {
    reads = directive_reads h t is x.reads;
    known = x.known;
    nodes = count_join (directive_kind_nodes k.tree) (k.node ∷ []) node k.node (k.node + 1) x.nodes (refl, refl);
  }

  pub requires_tree : {p : Place} {l : Read (ItemList Named)} → ReadsOf (enclosed_seen named_seen) (Enclosed (Listed Name) sign.Semicolon) 0 tokens names from node l →
      ReadsOf (directive_kind_seen p) (DirectiveAt (Key word.Requires p)) 0 tokens names from node
      (record { tree = directive.Requires l.tree.items l.tree.trailing; end = l.end; node = l.node })
  requires_tree {p = p} x = record { reads = built_reads (λ l. requires_directive p l.0.0 l.0.1) h x.reads; known = x.known; nodes = x.nodes }

  pub enable_tree : {p : Place} {l : Read (ItemList Named)} → ReadsOf (enclosed_seen named_seen) (Enclosed (Listed Name) sign.Semicolon) 0 tokens names from node l →
      ReadsOf (directive_kind_seen p) (DirectiveAt (Key word.Enable p)) 0 tokens names from node (record { tree = directive.Enable l.tree.items l.tree.trailing; end = l.end; node = l.node })
  enable_tree {p = p} x = record { reads = built_reads (λ l. enable_directive p l.0.0 l.0.1) h x.reads; known = x.known; nodes = x.nodes }
