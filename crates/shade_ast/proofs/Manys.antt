-- Phrases one after another, as many as there are.
use Rattle.std.proofs.Common.{◌≡◌, refl, sym, ap, ◌∙◌, subst, ℕ, zero, suc, ◌+◌, ◌<◌, ◌≤◌, ◌⊎◌, inl, inr, List, [], ◌∷◌, ◌++◌, length, drop, arith, append_assoc, Some, slice_get}
use Rattle.std.proofs.lemmas.List.{append-nil}
use Rattle.shade_ast.specs.Lexemes.{Lexeme}
use Rattle.shade_ast.specs.Repeats.{Many, no_more, more}
use Rattle.shade_ast.specs.Reads.{Near, Reads, Fails, rank, rank_of}
use Rattle.shade_ast.proofs.Stages.{Stage, Closes, one_token, begin, change, finish, phrase_or, phrase_or_fails}
use Rattle.shade_ast.specs.Chains.{After, Ends}

-- the tokens of what was read begin with the token at its place
pub first_read : (tokens us : List Lexeme) (at to : ℕ) (t : Lexeme) → at < to → to ≤ length tokens → drop at tokens ≡ us ++ drop to tokens → slice_get tokens at ≡ Some t → (vs : List Lexeme) × (us ≡ t ∷ vs)
first_read tokens [] at to t lt high spelled is = absurd (shorter tokens at to lt high spelled)
  where
    shorter : (l : List Lexeme) (i j : ℕ) → i < j → j ≤ length l → drop i l ≡ drop j l → ⊥
    shorter [] i zero h k e = omega arith
    shorter [] i (suc j) h k e = omega arith
    shorter (x ∷ l) i zero h k e = omega arith
    shorter (x ∷ l) zero (suc j) h k e = let m : length (x ∷ l) ≡ length (drop j l) = ap length e in let n : length (drop j l) ≤ length l = dropped l j in omega arith
      where
        dropped : (l : List Lexeme) (j : ℕ) → length (drop j l) ≤ length l
        dropped [] zero = omega arith
        dropped [] (suc j) = omega arith
        dropped (x ∷ l) zero = omega arith
        dropped (x ∷ l) (suc j) = let n : length (drop j l) ≤ length l = dropped l j in omega arith
    shorter (x ∷ l) (suc i) (suc j) h k e = shorter l i j (omega arith) (omega arith) e
first_read tokens (u ∷ us) at to t lt high spelled is =
    let e : t ∷ drop (at + 1) tokens ≡ u ∷ (us ++ drop to tokens) = sym (one_token tokens at t is) ∙ spelled in
    let same : u ≡ t = cc in
    (us, ap (λ x. x ∷ us) same)

module _ {R : Type 0} (G : R → List Lexeme → List Lexeme → Type 0) where
  -- what is left where these stand so far
  pub record More (rs : List R) (r : List R) (ys w : List Lexeme) : Type 0 where
    pub others : List R
    pub phrases : Many G others ys w
    pub same : r ≡ rs ++ others

  -- one phrase more, or the end
  abbrev pub MoreChoice : List R → List R → List Lexeme → List Lexeme → Type 0
  MoreChoice rs r ys w = After G (λ s. More (rs ++ s ∷ [])) r ys w ⊎ Ends rs r ys w

  more_forth : (rs r : List R) (ys w : List Lexeme) → More rs r ys w → MoreChoice rs r ys w
  more_forth rs r ys w m = by_case m.others ys w m.phrases m.same
    where
      by_case : (os : List R) (ys w : List Lexeme) → Many G os ys w → r ≡ rs ++ os → MoreChoice rs r ys w
      by_case os ys w no_more same = inr (record { same = same ∙ append-nil rs; left = refl })
      by_case os ys w (more {r = s} {rs = ss} {us = us} g l) same = inl (record { part = s; others = us; phrase = g; rest = record { others = ss; phrases = l; same = same ∙ sym (append_assoc rs (s ∷ []) ss) } })

  more_back : (rs r : List R) (ys w : List Lexeme) → MoreChoice rs r ys w → More rs r ys w
  more_back rs r ys w c =
      elim c [
        | inl a ↦ record { others = a.part ∷ a.rest.others; phrases = more a.phrase a.rest.phrases; same = a.rest.same ∙ append_assoc rs (a.part ∷ []) a.rest.others }
        | inr e ↦ record { others = []; phrases = subst (Many G [] ys) e.left no_more; same = e.same ∙ sym (append-nil rs) }
      ]

  pub more_closes : (rs : List R) → Closes (More rs)
  more_closes rs = record { tree = rs; more = []; closed = λ w. record { others = []; phrases = no_more; same = sym (append-nil rs) } }

  module _ (H : List R → List Lexeme → List Lexeme → Type 0) (n : ℕ) (tokens : List Lexeme) (from : ℕ) where
    -- no phrase begins here
    pub more_ends : (at : ℕ) (rs e : List R) → e ≡ rs → ((s : R) (ys w : List Lexeme) → G s ys w → Near ys (drop at tokens) → ⊥) → Stage H n tokens from at (More rs) → Reads H n tokens from e at
    more_ends at rs e is never s =
        finish H n tokens from at (More rs) e
        (λ w. record { others = []; phrases = no_more; same = is ∙ sym (append-nil rs) })
        (λ r ys w stop m near.
        elim (more_forth rs r ys w m) [
          | inl a ↦ absurd (never a.part ys a.others a.phrase near)
          | inr c ↦ (c.same ∙ sym is, c.left)
        ])
        s

    -- A phrase begins with the token here, with which no list of them ends, and goes on with it. `stops` says that what
    -- follows a phrase in the list does not go on with it.
    module _ (m at to : ℕ) (rs : List R) (stops : (r : List R) (zs w : List Lexeme) (s : R) → n < rank w → More (rs ++ s ∷ []) r zs w → m < rank zs) (t : Lexeme) (is : slice_get tokens at ≡ Some t) (low : rank_of t ≤ n) (lt : at < to) (s : Stage H n tokens from at (More rs)) where
      choice : Stage H n tokens from at (MoreChoice rs)
      choice = change H n tokens from at (More rs) (MoreChoice rs) (λ r ys w stop near c. more_forth rs r ys w c) (more_back rs) s

      never : (us : List Lexeme) → to ≤ length tokens → drop at tokens ≡ us ++ drop to tokens → (r : List R) (ys w : List Lexeme) → n < rank w → Ends rs r (us ++ ys) w → Near ys (drop to tokens) → ⊥
      never us high spelled r ys w stop e near =
          let f : (vs : List Lexeme) × (us ≡ t ∷ vs) = first_read tokens us at to t lt high spelled is in
          let same : w ≡ t ∷ (f.0 ++ ys) = sym e.left ∙ ap (λ x. x ++ ys) f.1 in
          let bad : n < rank_of t = subst (λ x. n < rank x) same stop in
          omega arith

      pub more_one : (r : R) (es : List R) → es ≡ rs ++ r ∷ [] → Reads G m tokens at r to → Stage H n tokens from to (More es)
      more_one r es is p =
          subst (λ x. Stage H n tokens from to (More x)) (sym is)
          (phrase_or H n tokens from G m (λ s. More (rs ++ s ∷ [])) (λ b q zs w stop c. stops q zs w b stop c) at to (Ends rs) choice r p (never p.us p.high p.spelled))

      pub more_fails : Fails G m tokens at to → Fails H n tokens from to
      more_fails f =
          phrase_or_fails H n tokens from G m (λ s. More (rs ++ s ∷ [])) (λ b q zs w stop c. stops q zs w b stop c) at to (Ends rs) choice (λ b. more_closes (rs ++ b ∷ [])) f (never f.us f.high f.spelled)

  module _ (n : ℕ) (tokens : List Lexeme) (from : ℕ) where
    pub more_begin : from ≤ length tokens → Stage (Many G) n tokens from from (More [])
    more_begin h =
        change (Many G) n tokens from from (Many G) (More [])
        (λ r ys w stop near l. record { others = r; phrases = l; same = refl })
        (λ r ys w m. subst (λ x. Many G x ys w) (sym m.same) m.phrases)
        (begin (Many G) n tokens from h)
