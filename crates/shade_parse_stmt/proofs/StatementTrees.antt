-- Trees of statements that were read, with their numbers.
use Rattle.std.proofs.Common.{◌≡◌, refl, sym, ap, ◌∙◌, subst, ℕ, ◌+◌, ◌≤◌, List, [], ◌∷◌, ◌++◌, length, arith}
use Rattle.shade_base.specs.declared.place.Place.{Place}
use Rattle.shade_ast.specs.declared.attr.Attr.{Attr}
use Rattle.shade_ast.specs.declared.stmt.Simple.{Simple}
use Rattle.shade_ast.specs.declared.stmt.Simple.TheVariants as simple
use Rattle.shade_ast.specs.declared.stmt.Stmt.{Stmt}
use Rattle.shade_ast.specs.declared.stmt.StmtKind.{StmtKind}
use Rattle.shade_ast.specs.declared.stmt.Update.{Update}
use Rattle.shade_ast.specs.declared.stmt.Update.TheVariants as update
use Rattle.shade_ast.specs.Lexemes.{Lexeme}
use Rattle.shade_ast.specs.Shapes.{StmtShape, first_place, simple_place, update_place}
use Rattle.shade_ast.specs.Shaped.{attr_shapes, simple_shape, update_shape}
use Rattle.shade_ast.specs.Nodes.{CountFrom}
use Rattle.shade_ast.proofs.StmtLayers.{stmt_kind_shaped, stmt_kind_count, stmt_is, stmt_counts}
use Rattle.shade_ast.proofs.StmtNodes.{stmt_kind_numbers, stmt_numbered}
use Rattle.shade_parse_expr.proofs.Trees.{count_join, place_same}
use Rattle.shade_parse_stmt.specs.StatementParts.{stmt_seen}
use Rattle.shade_parse_stmt.specs.Follows.{ReadsBy, ReadsOfBy}
use Rattle.shade_parse_simple.specs.Readings.{first_of}
use Rattle.shade_parse_stmt.specs.Trees.{update_first, simple_first}

-- a number behind others
pub count_last : (nodes : List ℕ) (from last : ℕ) → CountFrom from nodes last → CountFrom from (nodes ++ last ∷ []) (last + 1)
count_last nodes from last c = count_join nodes (last ∷ []) from last (last + 1) c (refl, refl)

-- a statement that was read
pub statement_tree : (G : StmtShape → List Lexeme → List Lexeme → Type 0) (F : List Lexeme → Type 0) (tokens : List Lexeme) (names : List (List ℕ)) (from node : ℕ) (k : StmtKind)
    (place : Place) (end last : ℕ) (s : StmtShape) (needs : ℕ) (nodes : List ℕ) → stmt_kind_shaped names k place ≡ s → stmt_kind_count k ≡ needs → needs ≤ length names →
    stmt_kind_numbers k ≡ nodes → CountFrom node nodes last → ReadsBy G F tokens from s end →
    ReadsOfBy stmt_seen G F tokens names from node (record { tree = record { node = last; place = place; kind = k }; end = end; node = last + 1 })
statement_tree G F tokens names from node k place end last s needs nodes shape count known numbers counted x =
    let t : Stmt = record { node = last; place = place; kind = k } in
    record {
      reads = subst (λ y. ReadsBy G F tokens from y end) (sym (stmt_is names t ∙ shape)) x;
      known = (let counts : stmt_seen.needs t ≡ needs = stmt_counts t ∙ count in omega arith);
      nodes = subst (λ y. CountFrom node y (last + 1)) (sym (stmt_numbered t ∙ ap (λ y. y ++ last ∷ []) numbers)) (count_last nodes node last counted);
    }

pub update_place_same : (names : List (List ℕ)) (u : Update) → update_place (update_shape names u) ≡ update_first u
update_place_same names (update.Assign target at value) = place_same names target
update_place_same names (update.Compound target operator at value) = place_same names target
update_place_same names (update.Phony underscore at value) = refl
update_place_same names (update.Increment target at) = place_same names target
update_place_same names (update.Decrement target at) = place_same names target
update_place_same names (update.Call e) = place_same names e

pub simple_place_same : (names : List (List ℕ)) (s : Simple) → simple_place (simple_shape names s) ≡ simple_first s
simple_place_same names (simple.Var v) = refl
simple_place_same names (simple.Const b) = refl
simple_place_same names (simple.Let b) = refl
simple_place_same names (simple.Update u) = update_place_same names u

pub first_same : (names : List (List ℕ)) (attrs : List Attr) (place : Place) → first_place (attr_shapes names attrs) place ≡ first_of attrs place
first_same names [] place = refl
first_same names (a ∷ attrs) place = refl
