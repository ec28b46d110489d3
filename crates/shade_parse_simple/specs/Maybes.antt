-- What a function answers that reads an optional part, which is there exactly where a token of one kind stands.
use Rattle.std.specs.Prelude.{◌≡◌, ℕ, ◌+◌, ◌<◌, ◌≤◌, List, length, Option, None, Some, option_map, slice_get}
use Rattle.shade_base.specs.declared.place.Place.{Place}
use Rattle.shade_ast.specs.Lexemes.{Lexeme}
use Rattle.shade_ast.specs.Needs.{maybe_of as most_maybe}
use Rattle.shade_ast.specs.Nodes.{maybe_of as nodes_maybe, CountFrom}
use Rattle.shade_ast.specs.Reads.{Reads}
use Rattle.shade_cursor.specs.declared.part.Fault.{Fault}
use Rattle.shade_cursor.specs.declared.part.Fault.TheVariants as fault
use Rattle.shade_parse_expr.specs.Parts.{FailsAt}
use Rattle.shade_parse_simple.specs.declared.read.Read.{Read}
use Rattle.shade_parse_simple.specs.Readings.{Seen}

-- a token of this kind stands at a place
abbrev pub Stands : (Place → Lexeme) → List Lexeme → ℕ → Type 0
Stands kind tokens at = (p : Place) × (slice_get tokens at ≡ Some (kind p))

-- the part where it is there, and nothing where it is not
abbrev pub ReadsMaybe : {R : Type 0} → (Place → Lexeme) → (R → List Lexeme → List Lexeme → Type 0) → ℕ → List Lexeme → ℕ → Option R → ℕ → Type 0
ReadsMaybe kind X n tokens from None to = (to ≡ from) × (Stands kind tokens from → ⊥)
ReadsMaybe kind X n tokens from (Some r) to = Stands kind tokens from × (from < to) × Reads X n tokens from r to

pub record MaybeOf {T R : Type 0} (seen : Seen T R) (kind : Place → Lexeme) (X : R → List Lexeme → List Lexeme → Type 0) (n : ℕ) (tokens : List Lexeme) (names : List (List ℕ)) (from node : ℕ) (r : Read (Option T)) : Type 0 where
  pub reads : ReadsMaybe kind X n tokens from (option_map (seen.shape names) r.tree) r.end
  pub known : most_maybe seen.needs r.tree ≤ length names
  pub nodes : CountFrom node (nodes_maybe seen.nodes r.tree) r.node

-- the part is there, and does not go on past a place
abbrev pub MaybeFaults : {R : Type 0} → (Place → Lexeme) → (R → List Lexeme → List Lexeme → Type 0) → ℕ → List Lexeme → List (List ℕ) → List (List ℕ) → ℕ → Fault → Type 0
MaybeFaults kind X n tokens old new from (fault.Unexpected at) = Stands kind tokens from × (from < at) × FailsAt X n tokens (length old) (length new) from at
MaybeFaults kind X n tokens old new from fault.NoMemory = length new + from ≤ length old + length tokens
