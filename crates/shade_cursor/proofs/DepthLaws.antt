-- How deep tokens stand in expressions: the numbers stay small, and a walk goes on.
use Rattle.std.proofs.Common.{◌≡◌, sym, ap, ◌∙◌, refl, subst, ℕ, ◌+◌, ◌<◌, ◌≤◌, inl, inr, Bool, true, false, List, [], ◌∷◌, length, arith}
use Rattle.std.specs.List.{slice_index_or}
use Rattle.shade_ast.specs.Lexemes.{Lexeme}
use Rattle.shade_cursor.specs.declared.piece.Piece.{Piece}
use Rattle.shade_cursor.specs.declared.depths.Inside.{Inside}
use Rattle.shade_cursor.specs.declared.depths.Last.{Last}
use Rattle.shade_cursor.specs.declared.depths.Last.TheVariants as last
use Rattle.shade_cursor.specs.declared.depths.Role.{Role}
use Rattle.shade_cursor.specs.declared.depths.Role.TheVariants as role
use Rattle.shade_cursor.specs.Shown.{lexeme, lexemes}
use Rattle.shade_cursor.specs.Depths.{Opened, role_of, start, anew, after, joined, prefixed, accessed, opened, closed_to, opened_after, named_after, either_after, greater_after, equal_after, is_half, goes_on, before, behind, over, Exceeds, IsDeep}
use Rattle.shade_cursor.specs.Walks.{AllSmall, Small}
use Rattle.shade_cursor.proofs.PassLaws.{Walked, walk_begins, walks_on, piece_stands, pieces_behind, none_passes}

-- numbers stay small
small_start : (said : Last) → Small (anew said)
small_start said = record { inner = record { floor = omega arith; depth = omega arith; start = omega arith; chain = omega arith }; outer = tt }

pub small_begin : Small start
small_begin = small_start last.Fresh

small_joined : (s : Opened) → Small s → s.inner.chain < 1024 → Small (joined s)
small_joined s k low = record { inner = record { floor = k.inner.floor; depth = k.inner.floor; start = k.inner.start; chain = omega arith }; outer = k.outer }

pub small_before : (r : Role) (s : Opened) → Small s → (before r s).inner.chain < 1024 → Small (before r s)
small_before r s k low = by (is_half s.last) refl (goes_on s.last r) refl
  where
    by : (h : Bool) → is_half s.last ≡ h → (g : Bool) → goes_on s.last r ≡ g → Small (before r s)
    by false e g f = rw e k
    by true e true f = rw (e, f) k
    by true e false f = let lower : s.inner.chain + 1 < 1024 = rw (e, f) at low in rw (e, f) (small_joined s k (omega arith))

small_closed : (fs : List Inside) → AllSmall fs → Small (closed_to fs)
small_closed [] k = small_begin
small_closed (f ∷ fs) k = record { inner = k.0; outer = k.1 }

small_opened : (s : Opened) → Small s → s.inner.depth + 1 < 128 → Small (opened s)
small_opened s k low = record { inner = record { floor = low; depth = low; start = k.inner.chain; chain = k.inner.chain }; outer = (k.inner, k.outer) }

small_after : (said : Last) (s : Opened) → Small s → Small (after said s)
small_after said s k = record { inner = k.inner; outer = k.outer }

small_accessed : (s : Opened) → Small s → s.inner.chain < 1024 → Small (accessed s)
small_accessed s k low = record { inner = record { floor = k.inner.floor; depth = k.inner.depth; start = k.inner.start; chain = omega arith }; outer = k.outer }

small_prefixed : (s : Opened) → Small s → s.inner.depth + 1 < 128 → Small (prefixed s)
small_prefixed s k low = record { inner = record { floor = k.inner.floor; depth = low; start = k.inner.start; chain = k.inner.chain }; outer = k.outer }

pub small_behind : (r : Role) (s : Opened) → Small s → s.inner.chain < 1024 → (behind r s).inner.depth < 128 → Small (behind r s)
small_behind role.Operand s k c d = small_after last.Ended s k
small_behind role.Name s k c d = by s.last
  where
    by : (l : Last) → Small (named_after l s)
    by last.Naming = small_after last.Apart s k
    by _ = small_after last.Ended s k
small_behind role.Names s k c d = small_start last.Naming
small_behind role.Parts s k c d = small_start last.Apart
small_behind role.Opens s k c d = by s.last d
  where
    by : (l : Last) → (opened_after l s).inner.depth < 128 → Small (opened_after l s)
    by last.Apart d = small_after last.Fresh s k
    by _ d = small_opened s k d
small_behind role.Indexes s k c d = small_opened (accessed s) (small_accessed s k c) d
small_behind role.Closes s k c d = small_closed s.outer k.outer
small_behind role.Comma s k c d = record { inner = record { floor = k.inner.floor; depth = k.inner.floor; start = k.inner.start; chain = k.inner.start }; outer = k.outer }
small_behind role.Accesses s k c d = small_accessed s k c
small_behind role.Prefix s k c d = small_prefixed s k d
small_behind role.Either s k c d = by s.last d
  where
    by : (l : Last) → (either_after l s).inner.depth < 128 → Small (either_after l s)
    by last.Ended d = small_joined s k c
    by _ d = small_prefixed s k d
small_behind role.Infix s k c d = small_joined s k c
small_behind (role.Greater place) s k c d = by s.last
  where
    by : (l : Last) → Small (greater_after l place s)
    by (last.Greater first) = small_after (last.Greaters place) s k
    by _ = small_after (last.Greater place) s k
small_behind (role.Equal place) s k c d = by s.last
  where
    by : (l : Last) → Small (equal_after l s)
    by (last.Greater first) = small_joined s k c
    by _ = small_begin
small_behind role.Ends s k c d = small_begin

-- what the walk knows before a token
pub record Known (tokens : List Lexeme) (from at : ℕ) (s : Opened) : Type 0 where
  pub walked : Walked over start Exceeds tokens from at s
  pub small : Small s

pub known_first : (tokens : List Lexeme) (from : ℕ) → Known tokens from from start
known_first tokens from = record { walked = walk_begins over start Exceeds tokens from; small = small_begin }

pub known_on : (pieces : List Piece) (from at : ℕ) (d : Piece) (r : Role) (s u v : Opened) → from ≤ at → at < length pieces → Known (lexemes pieces) from at s → r ≡ role_of (lexeme (slice_index_or pieces at d)) → u ≡ before r s → v ≡ behind r u → u.inner.chain ≤ 1023 → v.inner.depth ≤ 127 → Known (lexemes pieces) from (at + 1) v
known_on pieces from at d r s u v low lt k is_r is_u is_v few shallow =
    let t : Lexeme = lexeme (slice_index_or pieces at d) in
    let before_is : u ≡ before (role_of t) s = is_u ∙ ap (λ x. before x s) is_r in
    let over_is : v ≡ over t s = is_v ∙ ap (λ x. behind x u) is_r ∙ ap (behind (role_of t)) before_is in
    let chain : (before (role_of t) s).inner.chain < 1024 = subst (λ x. x.inner.chain < 1024) before_is (omega arith) in
    let depth : (over t s).inner.depth < 128 = subst (λ x. x.inner.depth < 128) over_is (omega arith) in
    record {
      walked = walks_on over start Exceeds (lexemes pieces) from at s t low (piece_stands pieces at d lt) k.walked v over_is (λ e. not t e chain depth);
      small = subst Small (sym over_is) (small_behind (role_of t) (before (role_of t) s) (small_before (role_of t) s k.small chain) chain depth);
    }
  where
    not : (t : Lexeme) → Exceeds t s → (before (role_of t) s).inner.chain < 1024 → (over t s).inner.depth < 128 → ⊥
    not t (inl long) c d = omega arith
    not t (inr deep) c d = omega arith

pub none_deep : (pieces : List Piece) (from at : ℕ) (s : Opened) → length pieces ≤ at → Known (lexemes pieces) from at s → (k : ℕ) → IsDeep (lexemes pieces) from k → ⊥
none_deep pieces from at s all k = none_passes over start Exceeds (lexemes pieces) from at s (pieces_behind pieces at all) k.walked
