-- Braces and arms, token by token: the numbers stay small, and a walk goes on.
use Rattle.std.proofs.Common.{◌≡◌, sym, ap, ◌∙◌, subst, ℕ, ◌+◌, ◌<◌, ◌≤◌, inl, inr, List, [], ◌∷◌, length, arith}
use Rattle.std.specs.List.{slice_index_or}
use Rattle.shade_ast.specs.Lexemes.{Lexeme}
use Rattle.shade_cursor.specs.declared.piece.Piece.{Piece}
use Rattle.shade_cursor.specs.Shown.{lexeme, lexemes}
use Rattle.shade_cursor.proofs.PassLaws.{Walked, walk_begins, walks_on, piece_stands, pieces_behind, none_passes}
use Rattle.shade_parse.specs.declared.nesting.Inner.{Inner}
use Rattle.shade_parse.specs.declared.nesting.Past.{Past}
use Rattle.shade_parse.specs.declared.nesting.Past.TheVariants as past
use Rattle.shade_parse.specs.declared.nesting.Turn.{Turn}
use Rattle.shade_parse.specs.declared.nesting.Turn.TheVariants as turn
use Rattle.shade_parse.specs.Nesting.{Nested, turn_of, start, after, closed_to, if_after, before_other, before, behind, over, Exceeds, IsNested, AllSmall, Small}

pub small_begin : Small start
small_begin = record { inner = record { depth = omega arith; start = omega arith; arms = omega arith }; outer = tt }

small_other : (p : Past) (s : Nested) → Small s → Small (before_other p s)
small_other past.Closed s k = record { inner = record { depth = k.inner.depth; start = k.inner.start; arms = k.inner.start }; outer = k.outer }
small_other _ s k = k

pub small_before : (r : Turn) (s : Nested) → Small s → Small (before r s)
small_before turn.Else s k = k
small_before _ s k = small_other s.past s k

small_after : (was : Past) (s : Nested) → Small s → Small (after was s)
small_after was s k = record { inner = k.inner; outer = k.outer }

small_closed : (fs : List Inner) → AllSmall fs → Small (closed_to fs)
small_closed [] k = record { inner = record { depth = omega arith; start = omega arith; arms = omega arith }; outer = tt }
small_closed (f ∷ fs) k = record { inner = k.0; outer = k.1 }

small_if : (p : Past) (s : Nested) → Small s → s.inner.arms < 1024 → Small (if_after p s)
small_if past.Else s k low = record { inner = record { depth = k.inner.depth; start = k.inner.start; arms = omega arith }; outer = k.outer }
small_if _ s k low = small_after past.Token s k

small_behind : (r : Turn) (s : Nested) → Small s → s.inner.arms < 1024 → (behind r s).inner.depth < 128 → Small (behind r s)
small_behind turn.Opens s k a d = record { inner = record { depth = d; start = k.inner.arms; arms = k.inner.arms }; outer = (k.inner, k.outer) }
small_behind turn.Closes s k a d = small_closed s.outer k.outer
small_behind turn.Else s k a d = small_after past.Else s k
small_behind turn.If s k a d = small_if s.past s k a
small_behind turn.Other s k a d = small_after past.Token s k

-- what the walk knows before a token
pub record Known (tokens : List Lexeme) (at : ℕ) (s : Nested) : Type 0 where
  pub walked : Walked over start Exceeds tokens 0 at s
  pub small : Small s

pub known_first : (tokens : List Lexeme) → Known tokens 0 start
known_first tokens = record { walked = walk_begins over start Exceeds tokens 0; small = small_begin }

pub known_on : (pieces : List Piece) (at : ℕ) (d : Piece) (r : Turn) (s u v : Nested) → at < length pieces → Known (lexemes pieces) at s → r ≡ turn_of (lexeme (slice_index_or pieces at d)) →
    u ≡ before r s → v ≡ behind r u → u.inner.arms ≤ 1023 → v.inner.depth ≤ 127 → Known (lexemes pieces) (at + 1) v
known_on pieces at d r s u v lt k is_r is_u is_v few shallow =
    let t : Lexeme = lexeme (slice_index_or pieces at d) in
    let before_is : u ≡ before (turn_of t) s = is_u ∙ ap (λ x. before x s) is_r in
    let over_is : v ≡ over t s = is_v ∙ ap (λ x. behind x u) is_r ∙ ap (behind (turn_of t)) before_is in
    let arms : (before (turn_of t) s).inner.arms < 1024 = subst (λ x. x.inner.arms < 1024) before_is (omega arith) in
    let depth : (over t s).inner.depth < 128 = subst (λ x. x.inner.depth < 128) over_is (omega arith) in
    record {
      walked = walks_on over start Exceeds (lexemes pieces) 0 at s t (omega arith) (piece_stands pieces at d lt) k.walked v over_is (λ e. not t e arms depth);
      small = subst Small (sym over_is) (small_behind (turn_of t) (before (turn_of t) s) (small_before (turn_of t) s k.small) arms depth);
    }
  where
    not : (t : Lexeme) → Exceeds t s → (before (turn_of t) s).inner.arms < 1024 → (over t s).inner.depth < 128 → ⊥
    not t (inl long) c d = omega arith
    not t (inr deep) c d = omega arith

pub none_nested : (pieces : List Piece) (at : ℕ) (s : Nested) → length pieces ≤ at → Known (lexemes pieces) at s → (k : ℕ) → IsNested (lexemes pieces) k → ⊥
none_nested pieces at s all k = none_passes over start Exceeds (lexemes pieces) 0 at s (pieces_behind pieces at all) k.walked
