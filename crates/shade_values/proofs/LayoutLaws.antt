-- The members of a struct, laid out one after another.
use Rattle.std.proofs.Common.{◌≡◌, refl, sym, ap, ◌∙◌, ℕ, ◌+◌, ◌<◌, ◌≤◌, max, List, [], ◌∷◌, length, get_or, drop, arith, add-one, drop-cons, zero, suc}
use Rattle.shade_values.specs.declared.types.Layout.{Layout}
use Rattle.shade_values.specs.Layouts.{offset_after, end_after, greatest_align}

-- the members below i are laid out: they end at `end`, and their greatest alignment is `align`
pub record Laying (ms : List Layout) (i end align : ℕ) : Type 0 where
  pub ends : end_after end (drop i ms) ≡ end_after 0 ms
  pub aligns : max align (greatest_align (drop i ms)) ≡ greatest_align ms

one_least : (ms : List Layout) → 1 ≤ greatest_align ms
one_least [] = omega arith
one_least (m ∷ ms) = omega (arith, one_least ms)

pub laying_begins : (ms : List Layout) → Laying ms 0 0 1
laying_begins ms = record { ends = refl; aligns = omega (arith, one_least ms) }

next : (ms : List Layout) (i : ℕ) (m : Layout) → i < length ms → m ≡ get_or ms i m → drop i ms ≡ m ∷ drop (i + 1) ms
next ms i m h e = rw add-one (drop-cons ms i m h ∙ ap (λ x. x ∷ drop (suc i) ms) (sym e))

pub laying_step : (ms : List Layout) (i end align : ℕ) (m : Layout) → i < length ms → m ≡ get_or ms i m → Laying ms i end align
    → Laying ms (i + 1) (offset_after end m + m.size) (max align m.align)
laying_step ms i end align m h e laying =
    let cons = next ms i m h e in
    record {
      ends = sym (ap (end_after end) cons) ∙ laying.ends;
      aligns = let now : max align (max m.align (greatest_align (drop (i + 1) ms))) ≡ greatest_align ms =
          sym (ap (λ l. max align (greatest_align l)) cons) ∙ laying.aligns in
          omega arith;
    }

past : (ms : List Layout) (i : ℕ) → length ms ≤ i → drop i ms ≡ []
past [] zero h = refl
past [] (suc i) h = refl
past (m ∷ ms) zero h = absurd (omega arith)
past (m ∷ ms) (suc i) h = past ms i (omega arith)

pub laying_ends : (ms : List Layout) (i end align : ℕ) → length ms ≤ i → Laying ms i end align → end ≡ end_after 0 ms
laying_ends ms i end align h laying = sym (ap (end_after end) (past ms i h)) ∙ laying.ends

pub laying_aligns : (ms : List Layout) (i end align : ℕ) → length ms ≤ i → 0 < align → Laying ms i end align → align ≡ greatest_align ms
laying_aligns ms i end align h positive laying =
    let now : max align 1 ≡ greatest_align ms = sym (ap (λ l. max align (greatest_align l)) (past ms i h)) ∙ laying.aligns in
    omega arith
