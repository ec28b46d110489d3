-- Tokens have one answer.
use Rattle.std.proofs.Common.{◌≡◌, refl, sym, ap, ◌∙◌, subst, ℕ, zero, suc, ◌+◌, ◌-◌, ◌<◌, ◌≤◌, ◌⊎◌, inl, inr, List, [], ◌++◌, length, take, drop, arith, append_assoc, slice_range}
use Rattle.std.proofs.lemmas.List.{take-append-drop}
use Rattle.shade_ast.specs.Lexemes.{Lexeme}
use Rattle.shade_ast.specs.Shaped.{expr_shape}
use Rattle.shade_ast.specs.Places.{Begins, IsStop}
use Rattle.shade_parse_expr.specs.declared.goal.Goal.{Goal}
use Rattle.shade_parse_expr.specs.Answers.{production, IsShallow, IsTooDeep}
use Rattle.shade_parse_expr.specs.Once.{IsAnsweredOnce}
use Rattle.shade_parse_expr.proofs.AnswerLaws.{take_take}

-- two numbers of which neither is less
pub trichotomy : (a b : ℕ) → (a < b → ⊥) → (b < a → ⊥) → a ≡ b
trichotomy zero zero f g = refl
trichotomy zero (suc b) f g = absurd (f (omega arith))
trichotomy (suc a) zero f g = absurd (g (omega arith))
trichotomy (suc a) (suc b) f g = ap suc (trichotomy a b (λ lt. f (omega arith)) (λ lt. g (omega arith)))

-- a number is less than another, or not
pub less_or : (a b : ℕ) → (a < b) ⊎ (b ≤ a)
less_or a zero = inr (omega arith)
less_or zero (suc b) = inl (omega arith)
less_or (suc a) (suc b) = elim (less_or a b) [ inl l ↦ inl (omega arith) | inr l ↦ inr (omega arith) ]

module _ {R : Type 0} (G : R → List Lexeme → List Lexeme → Type 0) (tokens : List Lexeme) (from : ℕ) where
  -- a beginning of a beginning
  shorter : (k q : ℕ) → k ≤ q → Begins G (slice_range tokens from q) → Begins G (slice_range tokens from k)
  shorter k q le b =
      let xs : List Lexeme = take (q - from) (drop from tokens) in
      let cut : take (k - from) (drop from tokens) ≡ take (k - from) xs = sym (take_take (k - from) (q - from) (drop from tokens) (omega arith)) in (
        b.0,
        drop (k - from) xs ++ b.1,
        subst (λ x. G b.0 x []) (ap (λ x. x ++ b.1) (sym (take-append-drop (k - from) xs) ∙ ap (λ x. x ++ drop (k - from) xs) (sym cut)) ∙ append_assoc (take (k - from) (drop from tokens)) (drop (k - from) xs) b.1) b.2,
      )

  -- what begins with the tokens up to one has not stopped there
  pub not_past : (stop k : ℕ) → IsStop G tokens from stop → k < length tokens → Begins G (slice_range tokens from (k + 1)) → stop ≤ k → ⊥
  not_past stop k s lt b le = s.none (omega arith) (shorter (stop + 1) (k + 1) (omega arith) b)

  less : (a b : ℕ) → IsStop G tokens from a → IsStop G tokens from b → a < b → ⊥
  less a b s t lt = s.none (omega (arith, t.high)) (t.before (a + 1) (omega (arith, s.low)) (omega arith))

  pub one_stop : (a b : ℕ) → IsStop G tokens from a → IsStop G tokens from b → a ≡ b
  one_stop a b s t = trichotomy a b (less a b s t) (less b a t s)

-- no token before a stop is deep, and one is
deep_past : (goal : Goal) (tokens : List Lexeme) (old new : List (List ℕ)) (from stop at : ℕ) → IsStop (production goal) tokens from stop → IsShallow tokens from stop → IsTooDeep goal tokens old new from at → ⊥
deep_past goal tokens old new from stop at s shallow d = by (less_or at stop)
  where
    by : (at < stop) ⊎ (stop ≤ at) → ⊥
    by (inl lt) = shallow at d.low lt d.deep
    by (inr le) = not_past (production goal) tokens from stop at s d.high d.begun le

pub answered_once : (goal : Goal) (tokens : List Lexeme) (from : ℕ) → IsAnsweredOnce goal tokens from
answered_once goal tokens from = record {
  one_phrase =
      λ old new older newer node start e f end stop next last x y.
      let same : end ≡ stop = one_stop (production goal) tokens from end stop x.stop y.stop in (
        same,
        y.only.same (expr_shape new e) (subst (λ k. production goal (expr_shape new e) (slice_range tokens from k) []) same x.only.spells),
      );
  one_unexpected = λ old new older newer at other x y. one_stop (production goal) tokens from at other x.stop y.stop;
  one_too_deep = λ old new older newer at other x y. trichotomy at other (λ lt. y.first at x.low lt x.deep) (λ lt. x.first other y.low lt y.deep);
  phrase_or_unexpected =
      λ old new older newer node e end next at x y.
      let same : end ≡ at = one_stop (production goal) tokens from end at x.stop y.stop in
      y.none (expr_shape new e) (subst (λ k. production goal (expr_shape new e) (slice_range tokens from k) []) same x.only.spells);
  phrase_or_too_deep = λ old new older newer node e end next at x y. deep_past goal tokens older newer from end at x.stop x.shallow y;
  unexpected_or_too_deep = λ old new older newer at other x y. deep_past goal tokens older newer from at other x.stop x.shallow y;
}
