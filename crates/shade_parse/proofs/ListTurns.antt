-- A list with commas, one item at a time, with trees and numbers.
use Rattle.std.proofs.Common.{◌≡◌, refl, sym, subst, ℕ, ◌+◌, ◌<◌, ◌≤◌, true, false, List, [], ◌∷◌, ◌++◌, length, map, arith, Some, slice_get}
use Rattle.std.proofs.lemmas.List.{append-nil}
use Rattle.shade_base.specs.declared.place.Place.{Place}
use Rattle.shade_ast.specs.declared.lexeme.Sign.{Sign}
use Rattle.shade_ast.specs.declared.lexeme.Sign.TheVariants as sign
use Rattle.shade_ast.specs.Lexemes.{Lexeme, Mark}
use Rattle.shade_ast.specs.Names.{Grows}
use Rattle.shade_ast.specs.Repeats.{Listed, MaybeListed}
use Rattle.shade_ast.specs.Reads.{Fails, sign_rank}
use Rattle.shade_parse_simple.specs.declared.read.Read.{Read}
use Rattle.shade_parse.specs.declared.members.ItemList.{ItemList}
use Rattle.shade_parse_simple.specs.Readings.{Seen, ReadsOf}
use Rattle.shade_parse.specs.Parts.{enclosed_seen}
use Rattle.shade_parse.specs.Rests.{Enclosed}
use Rattle.shade_parse_simple.proofs.Widens.{Keeps}
use Rattle.shade_parse_simple.proofs.Turns.{Turn, turn_first, turn_shapes, turn_known, turn_nodes, turn_more}
use Rattle.shade_parse.proofs.Enclosing.{Item, listed_begin, choose_close, choose_item, item_fails, item_close, item_stuck, item_comma, maybe_none, maybe_reads}

-- the items so far, and one more to come
abbrev pub ListTurn : {T R : Type 0} → Seen T R → (R → List Lexeme → List Lexeme → Type 0) → Sign → List Lexeme → ℕ → List (List ℕ) → List (List ℕ) → ℕ → ℕ → List T → ℕ → ℕ → Type 0
ListTurn seen G closer = Turn seen (Enclosed (Listed G) closer) 0 (Item G closer)

-- what lists of such items want
pub record Listable {R : Type 0} (G : R → List Lexeme → List Lexeme → Type 0) (closer : Sign) (m : ℕ) : Type 0 where
  pub comma_low : m < 10
  pub closer_low : m < sign_rank closer
  pub apart : closer ≡ sign.Comma → ⊥
  pub no_item : (r : R) (p : Place) (ts w : List Lexeme) → G r (Mark closer p ∷ ts) w → ⊥

module _ {T R : Type 0} {seen : Seen T R} {G : R → List Lexeme → List Lexeme → Type 0} {closer : Sign} {m : ℕ} (k : Listable G closer m) {tokens : List Lexeme} where
  pub list_first : {size : ℕ} {first : List (List ℕ)} {from start : ℕ} {items : List T} → items ≡ [] → from ≤ length tokens → from ≤ size → ListTurn seen G closer tokens size first first from start items from start
  list_first {first = first} is h high = turn_first is ([], sym (append-nil first)) (omega arith) high (omega arith) (listed_begin G closer m k.comma_low k.closer_low k.apart k.no_item h)

  -- a list without items
  pub list_none : {names : List (List ℕ)} {from node : ℕ} {items : List T} {p : Place} → items ≡ [] → from ≤ length tokens → slice_get tokens from ≡ Some (Mark closer p) →
      ReadsOf (enclosed_seen seen) (Enclosed (MaybeListed G) closer) 0 tokens names from node
      (record { tree = record { items = items; trailing = false; close = p }; end = from + 1; node = node })
  list_none {names = names} {from = from} {node = node} {items = items} {p = p} is h closes =
      subst (λ l. ReadsOf (enclosed_seen seen) (Enclosed (MaybeListed G) closer) 0 tokens names from node (record { tree = record { items = l; trailing = false; close = p }; end = from + 1; node = node })) (sym is)
      (record { reads = maybe_none G closer m k.comma_low k.closer_low k.apart k.no_item h p closes; known = omega arith; nodes = refl })

  -- a list with items
  pub list_some : {names : List (List ℕ)} {from node : ℕ} {r : Read (ItemList T)} → from ≤ length tokens → ((p : Place) → slice_get tokens from ≡ Some (Mark closer p) → ⊥) →
      ReadsOf (enclosed_seen seen) (Enclosed (Listed G) closer) 0 tokens names from node r → ReadsOf (enclosed_seen seen) (Enclosed (MaybeListed G) closer) 0 tokens names from node r
  list_some h never x = record { reads = maybe_reads G closer m k.comma_low k.closer_low k.apart k.no_item h never x.reads; known = x.known; nodes = x.nodes }

  module _ {size : ℕ} {first mid : List (List ℕ)} {from start : ℕ} {items : List T} {at node : ℕ} (t : ListTurn seen G closer tokens size first mid from start items at node) where
    pub list_fails : {to : ℕ} → Fails G m tokens at to → Fails (Enclosed (Listed G) closer) 0 tokens from to
    list_fails f = item_fails G closer m k.comma_low k.closer_low k.apart k.no_item (map (seen.shape mid) items) t.stage f

    module _ (keeps : Keeps seen) {new : List (List ℕ)} (more : List T) (g : Grows mid new) {r : Read T} (x : ReadsOf seen G m tokens new at node r) (is : more ≡ items ++ r.tree ∷ []) where
      pub list_close : {p : Place} → slice_get tokens r.end ≡ Some (Mark closer p) → ReadsOf (enclosed_seen seen) (Enclosed (Listed G) closer) 0 tokens new from start (record { tree = record { items = more; trailing = false; close = p }; end = r.end + 1; node = r.node })
      list_close {p = p} closes = record {
        reads = item_close G closer m k.comma_low k.closer_low k.apart k.no_item (map (seen.shape mid) items) t.stage (map (seen.shape new) more) (turn_shapes keeps t g x is) x.reads p closes;
        known = turn_known keeps t g x is;
        nodes = turn_nodes keeps t g x is;
      }

      module _ (unclosed : (p : Place) → slice_get tokens r.end ≡ Some (Mark closer p) → ⊥) where
        pub list_stuck : ((p : Place) → slice_get tokens r.end ≡ Some (Mark sign.Comma p) → ⊥) → Fails (Enclosed (Listed G) closer) 0 tokens from r.end
        list_stuck never = item_stuck G closer m k.comma_low k.closer_low k.apart k.no_item (map (seen.shape mid) items) t.stage (map (seen.shape new) more) (turn_shapes keeps t g x is) x.reads unclosed never

        module _ {q : Place} (commas : slice_get tokens r.end ≡ Some (Mark sign.Comma q)) where
          pub list_comma_close : {p : Place} → slice_get tokens (r.end + 1) ≡ Some (Mark closer p) → ReadsOf (enclosed_seen seen) (Enclosed (Listed G) closer) 0 tokens new from start (record { tree = record { items = more; trailing = true; close = p }; end = r.end + 1 + 1; node = r.node })
          list_comma_close {p = p} closes = record {
            reads = choose_close G closer m k.comma_low k.closer_low k.apart k.no_item (item_comma G closer m k.comma_low k.closer_low k.apart k.no_item (map (seen.shape mid) items) t.stage (map (seen.shape new) more) (turn_shapes keeps t g x is) x.reads unclosed q commas) p closes;
            known = turn_known keeps t g x is;
            nodes = turn_nodes keeps t g x is;
          }

          pub list_more : ((p : Place) → slice_get tokens (r.end + 1) ≡ Some (Mark closer p) → ⊥) → at < r.end → r.end + 1 ≤ size → r.node + at ≤ node + r.end → length new + at ≤ length mid + r.end → ListTurn seen G closer tokens size first new from start more (r.end + 1) r.node
          list_more never further high numbered few =
              turn_more keeps t g x is (r.end + 1) (omega arith) high further numbered few
              (choose_item G closer m k.comma_low k.closer_low k.apart k.no_item (item_comma G closer m k.comma_low k.closer_low k.apart k.no_item (map (seen.shape mid) items) t.stage (map (seen.shape new) more) (turn_shapes keeps t g x is) x.reads unclosed q commas) never)
