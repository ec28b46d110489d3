-- What was read stays what it is when names are added.
use Rattle.std.proofs.Common.{◌≡◌, refl, sym, ap, subst, ℕ, ◌<◌, ◌≤◌, Option, None, Some, List, [], length, arith}
use Rattle.std.specs.Prelude.{option_map}
use Rattle.shade_base.specs.declared.place.Place.{Place}
use Rattle.shade_ast.specs.Lexemes.{Lexeme}
use Rattle.shade_ast.specs.Names.{Grows}
use Rattle.shade_ast.specs.Shapes.{ExprShape}
use Rattle.shade_ast.specs.Shaped.{name_shape, attr_shapes}
use Rattle.shade_ast.specs.Needs.{maybe_of as most_maybe, named_needs, attrs_need}
use Rattle.shade_ast.specs.Nodes.{expr_nodes, maybe_of as nodes_maybe, CountFrom}
use Rattle.shade_ast.specs.Reads.{Reads}
use Rattle.shade_ast.proofs.ShapeLaws.{shape_grows, length_grows, expr_grows, named_same, attrs_same}
use Rattle.shade_cursor.specs.declared.part.Part.{Part}
use Rattle.shade_parse_expr.specs.Parts.{ReadsTree}
use Rattle.shade_parse_expr.proofs.Trees.{counted_all}
use Rattle.shade_parse_simple.specs.declared.read.Read.{Read}
use Rattle.shade_parse_simple.specs.Readings.{Seen, ReadsOf, expr_seen, named_seen, attrs_seen}
use Rattle.shade_parse_simple.specs.Maybes.{Stands, ReadsMaybe, MaybeOf}

-- a shape stays when names are added to those that it needs
abbrev pub Keeps : {T R : Type 0} → Seen T R → Type 0
Keeps {T} {R} seen = (old new : List (List ℕ)) (a : T) → seen.needs a ≤ length old → Grows old new → seen.shape new a ≡ seen.shape old a

maybe_keeps : {T R : Type 0} (seen : Seen T R) → Keeps seen → (old new : List (List ℕ)) → Grows old new → (o : Option T) → most_maybe seen.needs o ≤ length old → option_map (seen.shape new) o ≡ option_map (seen.shape old) o
maybe_keeps seen keeps old new g None h = refl
maybe_keeps seen keeps old new g (Some a) h = ap Some (keeps old new a h g)

module _ {T R : Type 0} {seen : Seen T R} (keeps : Keeps seen) {old new : List (List ℕ)} (g : Grows old new) where
  pub widen : {G : R → List Lexeme → List Lexeme → Type 0} {n : ℕ} {tokens : List Lexeme} {from node : ℕ} {r : Read T} → ReadsOf seen G n tokens old from node r → ReadsOf seen G n tokens new from node r
  widen {G = G} {n = n} {tokens = tokens} {from = from} {r = r} x = record {
    reads = subst (λ s. Reads G n tokens from s r.end) (sym (keeps old new r.tree x.known g)) x.reads;
    known = (let le : length old ≤ length new = length_grows old new g in let k : seen.needs r.tree ≤ length old = x.known in omega arith);
    nodes = x.nodes;
  }

  pub widen_maybe : {kind : Place → Lexeme} {X : R → List Lexeme → List Lexeme → Type 0} {n : ℕ} {tokens : List Lexeme} {from node : ℕ} {r : Read (Option T)} → MaybeOf seen kind X n tokens old from node r → MaybeOf seen kind X n tokens new from node r
  widen_maybe {kind = kind} {X = X} {n = n} {tokens = tokens} {from = from} {r = r} x = record {
    reads = subst (λ s. ReadsMaybe kind X n tokens from s r.end) (sym (maybe_keeps seen keeps old new g r.tree x.known)) x.reads;
    known = (let le : length old ≤ length new = length_grows old new g in let k : most_maybe seen.needs r.tree ≤ length old = x.known in omega arith);
    nodes = x.nodes;
  }

pub expr_keeps : Keeps expr_seen
expr_keeps = expr_grows

pub named_keeps : Keeps named_seen
named_keeps = shape_grows named_needs name_shape named_same

pub attrs_keep : Keeps attrs_seen
attrs_keep = shape_grows attrs_need attr_shapes attrs_same

-- an expression or a type that was read
pub part_reads : {G : ExprShape → List Lexeme → List Lexeme → Type 0} {n : ℕ} {tokens : List Lexeme} {names : List (List ℕ)} {from node : ℕ} {p : Part} → ReadsTree G n tokens names [] from node p → ReadsOf expr_seen G n tokens names from node (record { tree = p.expr; end = p.end; node = p.node })
part_reads {node = node} {p = p} x = record { reads = x.reads; known = x.known; nodes = counted_all (expr_nodes p.expr) node p.node x.nodes }

-- the same tree, read as another phrase
pub reads_on : {T R : Type 0} {seen : Seen T R} {G : R → List Lexeme → List Lexeme → Type 0} {n : ℕ} {tokens : List Lexeme} {names : List (List ℕ)} {from node : ℕ} {r : Read T}
    (B : R → List Lexeme → List Lexeme → Type 0) (m at : ℕ) → (Reads B m tokens at (seen.shape names r.tree) r.end → Reads G n tokens from (seen.shape names r.tree) r.end) →
    ReadsOf seen B m tokens names at node r → ReadsOf seen G n tokens names from node r
reads_on B m at f x = record { reads = f x.reads; known = x.known; nodes = x.nodes }

-- an optional part that is there, and one that is not
module _ {T R : Type 0} {seen : Seen T R} {kind : Place → Lexeme} {X : R → List Lexeme → List Lexeme → Type 0} {n : ℕ} {tokens : List Lexeme} {names : List (List ℕ)} {from node : ℕ} where
  pub part_there : {r : Read T} → Stands kind tokens from → from < r.end → ReadsOf seen X n tokens names from node r → MaybeOf seen kind X n tokens names from node (record { tree = Some r.tree; end = r.end; node = r.node })
  part_there t lt x = record { reads = (t, lt, x.reads); known = x.known; nodes = x.nodes }

  pub part_absent : (Stands kind tokens from → ⊥) → MaybeOf seen kind X n tokens names from node (record { tree = None; end = from; node = node })
  part_absent never = record { reads = (refl, never); known = omega arith; nodes = refl }

  -- what an optional part is, by whether it is there
  pub part_is : {r : Read (Option T)} {x : T} → r.tree ≡ Some x → MaybeOf seen kind X n tokens names from node r → ReadsOf seen X n tokens names from node (record { tree = x; end = r.end; node = r.node })
  part_is {r = r} {x = x} e m =
      let there : ReadsMaybe kind X n tokens from (Some (seen.shape names x)) r.end = subst (λ o. ReadsMaybe kind X n tokens from (option_map (seen.shape names) o) r.end) e m.reads in
      record {
        reads = there.2;
        known = subst (λ o. most_maybe seen.needs o ≤ length names) e m.known;
        nodes = subst (λ o. CountFrom node (nodes_maybe seen.nodes o) r.node) e m.nodes;
      }

  pub part_none : {r : Read (Option T)} → r.tree ≡ None → MaybeOf seen kind X n tokens names from node r → (r.end ≡ from) × (Stands kind tokens from → ⊥)
  part_none {r = r} e m = subst (λ o. ReadsMaybe kind X n tokens from (option_map (seen.shape names) o) r.end) e m.reads
