-- What is left begins with a token that decides, or goes another way.
use Rattle.std.proofs.Common.{◌≡◌, refl, subst, ℕ, ◌+◌, ◌<◌, ◌⊎◌, inl, inr, List, ◌∷◌, drop, Some, slice_get}
use Rattle.shade_ast.specs.Lexemes.{Lexeme}
use Rattle.shade_ast.specs.Reads.{Near, rank}
use Rattle.shade_ast.proofs.Stages.{Stage, near_get, change, consume}
use Rattle.shade_ast.specs.Chains.{Headed}

module _ {R : Type 0} (G : R → List Lexeme → List Lexeme → Type 0) (n : ℕ) (tokens : List Lexeme) (from at : ℕ) (At : Lexeme → R → List Lexeme → List Lexeme → Type 0) (D : R → List Lexeme → List Lexeme → Type 0) where
  -- the token that stands here decides
  pub take_head : (t : Lexeme) → slice_get tokens at ≡ Some t → ((r : R) (zs w : List Lexeme) → n < rank w → D r (t ∷ zs) w → ⊥) → Stage G n tokens from at (λ r ys w. Headed At r ys w ⊎ D r ys w) → Stage G n tokens from (at + 1) (At t)
  take_head t is never s =
      change G n tokens from (at + 1) (λ r zs w. Headed At r (t ∷ zs) w ⊎ D r (t ∷ zs) w) (At t)
      (λ r zs w stop near c.
      elim c [
        | inl h ↦
            (let e : t ∷ zs ≡ h.first ∷ h.others = h.split in
            let same_t : h.first ≡ t = cc in
            let same_zs : h.others ≡ zs = cc in
            subst (λ x. At t r x w) same_zs (subst (λ x. At x r h.others w) same_t h.at))
        | inr d ↦ absurd (never r zs w stop d)
      ])
      (λ r zs w a. inl (record { first = t; others = zs; split = refl; at = a }))
      (consume G n tokens from at (λ r ys w. Headed At r ys w ⊎ D r ys w) t is s)

  -- no such token stands here
  pub skip_head : ((t : Lexeme) (r : R) (zs w : List Lexeme) → slice_get tokens at ≡ Some t → At t r zs w → ⊥) → Stage G n tokens from at (λ r ys w. Headed At r ys w ⊎ D r ys w) → Stage G n tokens from at D
  skip_head never s =
      change G n tokens from at (λ r ys w. Headed At r ys w ⊎ D r ys w) D
      (λ r ys w stop near c.
      elim c [
        | inl h ↦ absurd (never h.first r h.others w (near_get tokens at h.first h.others (subst (λ x. Near x (drop at tokens)) h.split near)) h.at)
        | inr d ↦ d
      ])
      (λ r ys w d. inr d)
      s
