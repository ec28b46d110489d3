-- Trees of attributes, from their parts.
use Rattle.std.proofs.Common.{◌≡◌, refl, ℕ, ◌+◌, ◌<◌, ◌≤◌, Option, Some, List, [], ◌∷◌, ◌++◌, length, arith, slice_get}
use Rattle.std.specs.Prelude.{option_map}
use Rattle.shade_base.specs.declared.place.Place.{Place}
use Rattle.shade_ast.specs.declared.attr.Attr.{Attr}
use Rattle.shade_ast.specs.declared.attr.AttrName.{AttrName}
use Rattle.shade_ast.specs.declared.attr.Arguments.{Arguments}
use Rattle.shade_ast.specs.declared.lexeme.Sign.TheVariants as sign
use Rattle.shade_ast.specs.Lexemes.{Lexeme, Mark}
use Rattle.shade_ast.specs.Names.{Grows}
use Rattle.shade_ast.specs.Shaped.{attr_name_shape, arguments_shape}
use Rattle.shade_ast.specs.Needs.{attr_name_needs, arguments_need}
use Rattle.shade_ast.specs.Nodes.{maybe_of as nodes_maybe, attr_name_nodes, arguments_nodes}
use Rattle.shade_ast.specs.Repeats.{Many, MaybeListed}
use Rattle.shade_ast.specs.Expressions.{Expression}
use Rattle.shade_ast.specs.Statements.{AttrName as AttrNamePhrase, AttrArguments, Attribute}
use Rattle.shade_ast.specs.Chains.{Closed}
use Rattle.shade_ast.proofs.ShapeLaws.{shape_grows, attr_name_same, arguments_same, attr_grows}
use Rattle.shade_cursor.specs.declared.part.Listing.{Listing}
use Rattle.shade_parse_expr.specs.Parts.{ReadsList}
use Rattle.shade_parse_expr.proofs.Trees.{count_join}
use Rattle.shade_parse_simple.specs.declared.read.Read.{Read}
use Rattle.shade_parse_simple.specs.Readings.{ReadsOf, attr_name_seen, arguments_seen, attr_seen, attrs_seen}
use Rattle.shade_parse_simple.specs.Maybes.{MaybeOf}
use Rattle.shade_parse_simple.proofs.Widens.{Keeps}
use Rattle.shade_parse_simple.proofs.Openings.{opened_reads, arguments_opens}
use Rattle.shade_parse_simple.proofs.Turns.{Turn, turn_shapes, turn_more}
use Rattle.shade_parse_simple.proofs.AttributeLaws.{attr_reads, Attributes, attributes_more, attributes_end}

pub attr_name_keeps : Keeps attr_name_seen
attr_name_keeps = shape_grows attr_name_needs attr_name_shape attr_name_same

pub arguments_keep : Keeps arguments_seen
arguments_keep = shape_grows arguments_need arguments_shape arguments_same

pub attr_keeps : Keeps attr_seen
attr_keeps = attr_grows

module _ {tokens : List Lexeme} {names : List (List ℕ)} {from node : ℕ} (h : from ≤ length tokens) {p : Place} where
  pub arguments_tree : {l : Listing} → slice_get tokens from ≡ Some (Mark sign.Open p) → from < l.end →
      ReadsList (Closed (MaybeListed Expression) (Mark sign.Close)) 0 tokens names (from + 1) node l →
      MaybeOf arguments_seen (Mark sign.Open) AttrArguments 0 tokens names from node (record { tree = Some (record { items = l.items; trailing = l.trailing }); end = l.end; node = l.node })
  arguments_tree is lt x = record { reads = ((p, is), lt, opened_reads arguments_opens (omega arith) h (λ p. refl) p is x.reads); known = x.known; nodes = x.nodes }

  pub attr_tree : {n : Read AttrName} {a : Read (Option Arguments)} → slice_get tokens from ≡ Some (Mark sign.At p) → ReadsOf attr_name_seen AttrNamePhrase 0 tokens names (from + 1) node n →
      MaybeOf arguments_seen (Mark sign.Open) AttrArguments 0 tokens names n.end n.node a →
      ReadsOf attr_seen Attribute 1 tokens names from node (record { tree = record { node = a.node; place = p; name = n.tree; arguments = a.tree }; end = a.end; node = a.node + 1 })
  attr_tree {n = n} {a = a} is x y = record {
    reads = attr_reads h p is x.reads (option_map (arguments_shape names) a.tree) a.end y.reads;
    known = (let b = x.known in let c = y.known in omega arith);
    nodes = count_join (attr_name_nodes n.tree) (nodes_maybe arguments_nodes a.tree ++ a.node ∷ []) node n.node (a.node + 1) x.nodes (count_join (nodes_maybe arguments_nodes a.tree) (a.node ∷ []) n.node a.node (a.node + 1) y.nodes (refl, refl));
  }

-- attributes so far
abbrev pub AttrTurn : List Lexeme → ℕ → List (List ℕ) → List (List ℕ) → ℕ → ℕ → List Attr → ℕ → ℕ → Type 0
AttrTurn = Turn attr_seen (Many Attribute) 8 Attributes

module _ {tokens : List Lexeme} {size : ℕ} {first mid : List (List ℕ)} {from start : ℕ} {items : List Attr} {at node : ℕ} (t : AttrTurn tokens size first mid from start items at node) where
  pub attrs_tree : ((p : Place) → slice_get tokens at ≡ Some (Mark sign.At p) → ⊥) → ReadsOf attrs_seen (Many Attribute) 8 tokens mid from start (record { tree = items; end = at; node = node })
  attrs_tree never = record { reads = attributes_end t.stage never; known = t.known; nodes = t.nodes }

  pub attr_turn : {new : List (List ℕ)} {r : Read Attr} {p : Place} (more : List Attr) → Grows mid new → slice_get tokens at ≡ Some (Mark sign.At p) →
      ReadsOf attr_seen Attribute 1 tokens new at node r → more ≡ items ++ r.tree ∷ [] → at < r.end → r.end ≤ size → r.node + at ≤ node + r.end → length new + at ≤ length mid + r.end →
      AttrTurn tokens size first new from start more r.end r.node
  attr_turn {r = r} {p = p} more g is x same further high numbered few = turn_more attr_keeps t g x same r.end (omega arith) high further numbered few (attributes_more t.stage p is further _ (turn_shapes attr_keeps t g x same) x.reads)
