-- Open comments, step by step.
use Rattle.std.proofs.Common.{◌≡◌, ℕ, zero, suc, ◌+◌, ◌-◌, ◌<◌, ◌≤◌, List, [], ◌∷◌, length, drop, Bool, true, false, refl, ap, ◌∙◌, arith, inl, inr}
use Rattle.std.specs.Prelude.{◌&&◌, ◌==◌}
use Rattle.std.proofs.lemmas.List.{drop-drop, drop_all, length-drop}
use Rattle.std.proofs.lemmas.Bool.Decides.{leb_tells}
use Rattle.shade_lex.specs.Characters.{starts_with_two}
use Rattle.shade_lex.specs.Comments.{closes, IsBlockComment, IsCommentStep}

two_long : (a b : ℕ) (text : List ℕ) → starts_with_two a b text ≡ true → 2 ≤ length text
two_long a b [] e = cc
two_long a b (c ∷ []) e = absurd (no (c == a) e)
  where
    no : (t : Bool) → (t && false) ≡ true → ⊥
    no true h = cc
    no false h = cc
two_long a b (c ∷ d ∷ text) e = omega arith

-- where some are open, none and one character close nothing
pub closes-none : (depth : ℕ) (text : List ℕ) → 1 ≤ depth → closes depth text 0 ≡ false
closes-none zero text h = absurd (omega (arith, h))
closes-none (suc depth) text h = refl

closes-one : (depth : ℕ) (text : List ℕ) → 1 ≤ depth → closes depth text 1 ≡ false
closes-one zero text h = absurd (omega (arith, h))
closes-one (suc depth) text h = refl

-- at the end of the text nothing closes
pub closes-nil : (depth count : ℕ) → 1 ≤ depth → closes depth [] count ≡ false
closes-nil zero count h = absurd (omega (arith, h))
closes-nil (suc depth) zero h = refl
closes-nil (suc depth) (suc zero) h = refl
closes-nil (suc depth) (suc (suc count)) h = closes-nil (suc depth) (suc count) h

close_step : (depth : ℕ) (text : List ℕ) (count : ℕ) → 1 ≤ depth → starts_with_two 42 47 text ≡ true → closes depth text (count + 2) ≡ closes (depth - 1) (drop 2 text) count
close_step zero text count h e = absurd (omega (arith, h))
close_step (suc depth) text count h e =
    let two : count + 2 ≡ suc (suc count) = omega arith in
    let less : suc depth - 1 ≡ depth = omega arith in
    rw (two, less, e) refl

open_step : (depth : ℕ) (text : List ℕ) (count : ℕ) → 1 ≤ depth → starts_with_two 42 47 text ≡ false → starts_with_two 47 42 text ≡ true → closes depth text (count + 2) ≡ closes (depth + 1) (drop 2 text) count
open_step zero text count h n e = absurd (omega (arith, h))
open_step (suc depth) text count h n e =
    let two : count + 2 ≡ suc (suc count) = omega arith in
    let more : suc depth + 1 ≡ suc (suc depth) = omega arith in
    rw (two, more, n, e) refl

other_step : (depth : ℕ) (text : List ℕ) (count : ℕ) → 1 ≤ depth → starts_with_two 42 47 text ≡ false → starts_with_two 47 42 text ≡ false → closes depth text (count + 1) ≡ closes depth (drop 1 text) count
other_step zero text count h n e = absurd (omega (arith, h))
other_step (suc depth) text zero h n e =
    refl
other_step (suc depth) text (suc count) h n e =
    let two : suc count + 1 ≡ suc (suc count) = omega arith in
    rw (two, n, e) refl

module _ (text : List ℕ) (at depth : ℕ) (within : at < length text) (some : 1 ≤ depth) where
  -- the rest two on
  two_on : drop 2 (drop at text) ≡ drop (at + 2) text
  two_on = drop-drop 2 at text

  fits : (a b : ℕ) → starts_with_two a b (drop at text) ≡ true → at + 2 ≤ length text
  fits a b e = omega (arith, two_long a b (drop at text) e, length-drop at text, within)

  early_two : (count : ℕ) → count < at + 2 - at → closes depth (drop at text) count ≡ false
  early_two zero lt = closes-none depth (drop at text) some
  early_two (suc zero) lt = closes-one depth (drop at text) some
  early_two (suc (suc count)) lt = absurd (omega (arith, lt))

  gap_two : (count : ℕ) → count + (at + 2 - at) ≡ count + 2
  gap_two count = omega arith

  gap_one : (count : ℕ) → count + (at + 1 - at) ≡ count + 1
  gap_one count = omega arith

  pub step-close : starts_with_two 42 47 (drop at text) ≡ true → IsCommentStep text at depth (at + 2) (depth - 1)
  step-close e = record {
    later = omega arith;
    near = omega arith;
    within = fits 42 47 e;
    few = omega arith;
    leaves = λ count. ap (closes depth (drop at text)) (gap_two count) ∙ close_step depth (drop at text) count some e ∙ ap (λ (t : List ℕ). closes (depth - 1) t count) two_on;
    early = early_two;
  }

  pub step-open : starts_with_two 42 47 (drop at text) ≡ false → starts_with_two 47 42 (drop at text) ≡ true → IsCommentStep text at depth (at + 2) (depth + 1)
  step-open n e = record {
    later = omega arith;
    near = omega arith;
    within = fits 47 42 e;
    few = omega arith;
    leaves = λ count. ap (closes depth (drop at text)) (gap_two count) ∙ open_step depth (drop at text) count some n e ∙ ap (λ (t : List ℕ). closes (depth + 1) t count) two_on;
    early = early_two;
  }

  pub step-other : starts_with_two 42 47 (drop at text) ≡ false → starts_with_two 47 42 (drop at text) ≡ false → IsCommentStep text at depth (at + 1) depth
  step-other n e = record {
    later = omega arith;
    near = omega arith;
    within = omega (arith, within);
    few = omega arith;
    leaves = λ count. ap (closes depth (drop at text)) (gap_one count) ∙ other_step depth (drop at text) count some n e ∙ ap (λ (t : List ℕ). closes depth t count) (drop-drop 1 at text);
    early = early_one;
  }
    where
      early_one : (count : ℕ) → count < at + 1 - at → closes depth (drop at text) count ≡ false
      early_one zero lt = closes-none depth (drop at text) some
      early_one (suc count) lt = absurd (omega (arith, lt))

-- Inside a comment that began at the front: what is left to close, and that nothing was closed before.
pub record IsInComment (text : List ℕ) (at depth : ℕ) : Type 0 where
  pub later : 2 ≤ at
  pub few : depth < at
  pub within : at ≤ length text
  pub leaves : (count : ℕ) → closes 1 (drop 2 text) (count + (at - 2)) ≡ closes depth (drop at text) count
  pub early : (count : ℕ) → count < at - 2 → closes 1 (drop 2 text) count ≡ false

pub in_comment-begin : (text : List ℕ) → starts_with_two 47 42 text ≡ true → IsInComment text 2 1
in_comment-begin text e = record {
  later = omega arith;
  few = omega arith;
  within = two_long 47 42 text e;
  leaves = λ count. (let none : count + (2 - 2) ≡ count = omega arith in ap (closes 1 (drop 2 text)) none);
  early = λ count lt. absurd (omega (arith, lt));
}

pub in_comment-step : (text : List ℕ) (at depth next left : ℕ) → 1 ≤ depth → IsInComment text at depth → IsCommentStep text at depth next left → IsInComment text next left
in_comment-step text at depth next left some i s = record {
  later = omega (arith, i.later, s.later);
  few = omega (arith, i.few, s.few, s.later);
  within = s.within;
  leaves = λ count. (let gap : count + (next - 2) ≡ count + (next - at) + (at - 2) = omega (arith, s.later, i.later) in
      ap (closes 1 (drop 2 text)) gap ∙ i.leaves (count + (next - at)) ∙ s.leaves count);
  early = early;
}
  where
    early : (count : ℕ) → count < next - 2 → closes 1 (drop 2 text) count ≡ false
    early count lt = elim (leb_tells (at - 2) count) [
      | inl t ↦ (let gap : count ≡ count - (at - 2) + (at - 2) = omega (arith, t.1) in
          let short : count - (at - 2) < next - at = omega (arith, lt, t.1, i.later, s.later) in
          ap (closes 1 (drop 2 text)) gap ∙ i.leaves (count - (at - 2)) ∙ s.early (count - (at - 2)) short)
      | inr f ↦ i.early count f.1
    ]

-- none is open any more
pub in_comment-closed : (text : List ℕ) (at depth : ℕ) → starts_with_two 47 42 text ≡ true → IsInComment text at depth → depth ≡ 0 → IsBlockComment text at
in_comment-closed text at depth e i z = record {
  begins = e;
  two = i.later;
  within = i.within;
  closed = ap (closes 1 (drop 2 text)) none ∙ i.leaves 0 ∙ ap (λ (d : ℕ). closes d (drop at text) 0) z;
}
  where
    none : at - 2 ≡ 0 + (at - 2)
    none = omega arith

-- the end of the text
pub in_comment-open : (text : List ℕ) (at depth : ℕ) → IsInComment text at depth → 1 ≤ depth → length text ≤ at → (count : ℕ) → IsBlockComment text count → ⊥
in_comment-open text at depth i some end count b = elim (leb_tells (at - 2) (count - 2)) [
  | inl t ↦ (let gap : count - 2 ≡ count - 2 - (at - 2) + (at - 2) = omega (arith, t.1) in
      let no : closes 1 (drop 2 text) (count - 2) ≡ false = ap (closes 1 (drop 2 text)) gap ∙ i.leaves (count - 2 - (at - 2)) ∙ ap (λ (r : List ℕ). closes depth r (count - 2 - (at - 2))) (drop_all at text end) ∙ closes-nil depth (count - 2 - (at - 2)) some in
      cc (no, b.closed))
  | inr f ↦ cc (i.early (count - 2) f.1, b.closed)
]
