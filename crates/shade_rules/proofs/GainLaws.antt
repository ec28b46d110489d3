-- Sets that have more than before.
use Rattle.std.proofs.Common.{inl, inr}
use Rattle.std.specs.Prelude.{◌⊎◌}
use Rattle.shade_rules.specs.Sets.{Gains}

module _ {X : Type 0} where
  -- one thing after another
  pub gains_both : (Old Mid New One Two Both : X → Type 0) → Gains X Old Mid One → Gains X Mid New Two → ((x : X) → Both x → One x ⊎ Two x) → ((x : X) → One x → Both x) → ((x : X) → Two x → Both x) → Gains X Old New Both
  gains_both Old Mid New One Two Both g h split one two = record {
    from = λ x n. elim (h.from x n) [
      | inl m ↦ elim (g.from x m) [ inl o ↦ inl o | inr a ↦ inr (one x a) ]
      | inr b ↦ inr (two x b)
    ];
    keeps = λ x o. h.keeps x (g.keeps x o);
    adds = λ x c. elim (split x c) [ inl a ↦ h.keeps x (g.adds x a) | inr b ↦ h.adds x b ];
  }

  pub gains_then : (Old Mid New One Two : X → Type 0) → Gains X Old Mid One → Gains X Mid New Two → Gains X Old New (λ x. One x ⊎ Two x)
  gains_then Old Mid New One Two g h = gains_both Old Mid New One Two (λ x. One x ⊎ Two x) g h (λ x c. c) (λ x a. inl a) (λ x b. inr b)

  -- the same, said in another way
  pub gains_as : (Old New One Other : X → Type 0) → Gains X Old New One → ((x : X) → One x → Other x) → ((x : X) → Other x → One x) → Gains X Old New Other
  gains_as Old New One Other g there back = record {
    from = λ x n. elim (g.from x n) [ inl o ↦ inl o | inr a ↦ inr (there x a) ];
    keeps = g.keeps;
    adds = λ x b. g.adds x (back x b);
  }

  pub gains_nothing : (Old None : X → Type 0) → ((x : X) → None x → ⊥) → Gains X Old Old None
  gains_nothing Old None none = record { from = λ x o. inl o; keeps = λ x o. o; adds = λ x a. absurd (none x a) }
