-- Bits of words joined and cut, and what is left to do.
use Rattle.std.proofs.Common.{ℕ, zero, suc, ◌+◌, ◌^◌, ◌<◌, ◌≤◌, List, [], ◌∷◌, length, arith, inl, inr}
use Rattle.std.specs.Prelude.{slice_set, ◌≢◌, ◌⊎◌, bit_and, bit_or}
use Rattle.std.specs.Int.{bit_at}
use Rattle.std.proofs.lemmas.Bool.Decides.{eqb_tells}
use Rattle.std.proofs.lemmas.Nat.{le_or_l}
use Rattle.std.proofs.lemmas.Nat.Bits.{bit_at_or, bit_at_and, bit_at-lt}
use Rattle.shade_flow.specs.Bits.{Has, at}
use Rattle.shade_flow.specs.Work.{Within, slack, handed}

pub within_self : (word : ℕ) → Within word word
within_self word bit h = h

pub or_left : (a b : ℕ) → Within a (bit_or a b)
or_left a b bit h = omega (arith, bit_at_or a b bit, bit_at-lt b bit, h)

pub or_right : (a b : ℕ) → Within b (bit_or a b)
or_right a b bit h = omega (arith, bit_at_or a b bit, bit_at-lt a bit, h)

pub or_cases : (a b bit : ℕ) → Has (bit_or a b) bit → Has a bit ⊎ Has b bit
or_cases a b bit h = elim (eqb_tells (bit_at a bit) 1) [
  | inl s ↦ inl s.1
  | inr o ↦ inr (omega (arith, bit_at_or a b bit, bit_at-lt a bit, bit_at-lt b bit, h, o.1))
]

pub and_both : (a b bit : ℕ) → Has a bit → Has b bit → Has (bit_and a b) bit
and_both a b bit h g = omega (arith, bit_at_and a b bit, h, g)

pub and_cases : (a b bit : ℕ) → Has (bit_and a b) bit → Has a bit × Has b bit
and_cases a b bit h = (omega (arith, bit_at_and a b bit, bit_at-lt a bit, bit_at-lt b bit, h), omega (arith, bit_at_and a b bit, bit_at-lt a bit, bit_at-lt b bit, h))

-- what is handed on is made, or was there and passes
pub handed_cases : (row passes makes bit : ℕ) → Has (handed row passes makes) bit → (Has row bit × Has passes bit) ⊎ Has makes bit
handed_cases row passes makes bit h = elim (or_cases (bit_and row passes) makes bit h) [
  | inl both ↦ inl (and_cases row passes bit both)
  | inr one ↦ inr one
]

-- a row that grows is nearer to being full
pub slack_less : (rows : List ℕ) (i word : ℕ) → i < length rows → at rows i < 2 ^ 64 → at rows i < word → slack (slice_set rows i word) + 1 ≤ slack rows
slack_less [] i word h low up = absurd (omega (arith, h))
slack_less (row ∷ rows) zero word h low up = omega (arith, low, up)
slack_less (row ∷ rows) (suc i) word h low up = omega (arith, slack_less rows i word (omega (arith, h)) low up)

pub grown_more : (row word : ℕ) → bit_or row word ≢ row → row < bit_or row word
grown_more row word n = elim (eqb_tells (bit_or row word) row) [
  | inl s ↦ absurd (n s.1)
  | inr o ↦ omega (arith, le_or_l row word, o.1)
]
