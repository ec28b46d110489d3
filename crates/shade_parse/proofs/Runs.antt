-- Phrases one after another, and then what depends on them.
use Rattle.std.proofs.Common.{◌≡◌, sym, subst, ℕ, ◌<◌, ◌⊎◌, inl, inr, List, [], ◌∷◌, ◌++◌, drop, append_assoc}
use Rattle.std.proofs.lemmas.List.{append-nil}
use Rattle.shade_ast.specs.Lexemes.{Lexeme}
use Rattle.shade_ast.specs.Repeats.{Many, no_more, more}
use Rattle.shade_ast.specs.Reads.{Near, Reads, Fails, rank}
use Rattle.shade_ast.proofs.Stages.{Stage, Closes, change, phrase_or, phrase_or_fails}
use Rattle.shade_ast.specs.Chains.{After}
use Rattle.shade_parse_simple.proofs.Steps.{Stops}

module _ {R S : Type 0} (X : R → List Lexeme → List Lexeme → Type 0) (C : List R → S → List Lexeme → List Lexeme → Type 0) where
  -- what is left where these phrases stand so far
  pub record Run (rs : List R) (r : S) (ys w : List Lexeme) : Type 0 where
    pub others : List R
    pub behind : List Lexeme
    pub phrases : Many X others ys behind
    pub rest : C (rs ++ others) r behind w

  -- one phrase more, or what follows them
  abbrev pub Turned : List R → S → List Lexeme → List Lexeme → Type 0
  Turned rs r ys w = C rs r ys w ⊎ After X (λ x. Run (rs ++ x ∷ [])) r ys w

  run_cases : (rs os : List R) (r : S) (ys us w : List Lexeme) → Many X os ys us → C (rs ++ os) r us w → Turned rs r ys w
  run_cases rs os r ys us w no_more c = inl (subst (λ l. C l r ys w) (append-nil rs) c)
  run_cases rs os r ys us w (more {r = x} {rs = xs} {us = vs} g l) c = inr (record { part = x; others = vs; phrase = g; rest = record { others = xs; behind = us; phrases = l; rest = subst (λ z. C z r us w) (sym (append_assoc rs (x ∷ []) xs)) c } })

  run_forth : (rs : List R) (r : S) (ys w : List Lexeme) → Run rs r ys w → Turned rs r ys w
  run_forth rs r ys w m = run_cases rs m.others r ys m.behind w m.phrases m.rest

  run_back : (rs : List R) (r : S) (ys w : List Lexeme) → Turned rs r ys w → Run rs r ys w
  run_back rs r ys w c =
      elim c [
        | inl d ↦ record { others = []; behind = ys; phrases = no_more; rest = subst (λ l. C l r ys w) (sym (append-nil rs)) d }
        | inr a ↦ record { others = a.part ∷ a.rest.others; behind = a.rest.behind; phrases = more a.phrase a.rest.phrases; rest = subst (λ l. C l r a.rest.behind w) (append_assoc rs (a.part ∷ []) a.rest.others) a.rest.rest }
      ]

  pub run_closes : (rs : List R) → Closes (C rs) → Closes (Run rs)
  run_closes rs c = record { tree = c.tree; more = c.more; closed = λ w. run_back rs c.tree (c.more ++ w) w (inl (c.closed w)) }

  -- what begins with such phrases, or with what follows them
  pub run_stops : (n m : ℕ) → ((x : R) (ts w : List Lexeme) → X x ts w → m < rank ts) → ((rs : List R) → Stops n m (C rs)) → (rs : List R) → Stops n m (Run rs)
  run_stops n m first stops rs r zs w stop u =
      elim (run_forth rs r zs w u) [
        | inl c ↦ stops rs r zs w stop c
        | inr a ↦ first a.part zs a.others a.phrase
      ]

  module _ {H : S → List Lexeme → List Lexeme → Type 0} {n : ℕ} {tokens : List Lexeme} {from at : ℕ} where
    pub run_begin : Stage H n tokens from at (After (Many X) C) → Stage H n tokens from at (Run [])
    run_begin s =
        change H n tokens from at (After (Many X) C) (Run [])
        (λ r ys w stop near a. record { others = a.part; behind = a.others; phrases = a.phrase; rest = a.rest })
        (λ r ys w u. record { part = u.others; others = u.behind; phrase = u.phrases; rest = u.rest })
        s

    module _ (rs : List R) (s : Stage H n tokens from at (Run rs)) where
      turned : Stage H n tokens from at (Turned rs)
      turned = change H n tokens from at (Run rs) (Turned rs) (λ r ys w stop near u. run_forth rs r ys w u) (run_back rs) s

      either : Stage H n tokens from at (λ r ys w. After X (λ x. Run (rs ++ x ∷ [])) r ys w ⊎ C rs r ys w)
      either =
          change H n tokens from at (Turned rs) (λ r ys w. After X (λ x. Run (rs ++ x ∷ [])) r ys w ⊎ C rs r ys w)
          (λ r ys w stop near c. elim c [ inl d ↦ inr d | inr a ↦ inl a ])
          (λ r ys w c. elim c [ inl a ↦ inr a | inr d ↦ inl d ])
          turned

      module _ {m : ℕ} (stops : (x : R) → Stops n m (Run (rs ++ x ∷ []))) where
        -- no phrase begins here
        pub run_ends : ((x : R) (ys w : List Lexeme) → X x ys w → m < rank w → Near ys (drop at tokens) → ⊥) → Stage H n tokens from at (C rs)
        run_ends never =
            change H n tokens from at (Turned rs) (C rs)
            (λ r ys w stop near c.
            elim c [
              | inl d ↦ d
              | inr a ↦ absurd (never a.part ys a.others a.phrase (stops a.part r a.others w stop a.rest) near)
            ])
            (λ r ys w d. inl d)
            turned

        -- a phrase more is read, or fails, which begins with a token that rules out what follows
        pub run_more : {x : R} {to : ℕ} (es : List R) → es ≡ rs ++ x ∷ [] → (p : Reads X m tokens at x to) → ((r : S) (ys w : List Lexeme) → n < rank w → C rs r (p.us ++ ys) w → ⊥) → Stage H n tokens from to (Run es)
        run_more {x = x} {to = to} es same p never = subst (λ l. Stage H n tokens from to (Run l)) (sym same) (phrase_or H n tokens from X m (λ x. Run (rs ++ x ∷ [])) stops at to (C rs) either x p (λ r ys w stop c near. never r ys w stop c))

        pub run_fails : {to : ℕ} → ((x : R) → Closes (C (rs ++ x ∷ []))) → (f : Fails X m tokens at to) → ((r : S) (ys w : List Lexeme) → n < rank w → C rs r (f.us ++ ys) w → ⊥) → Fails H n tokens from to
        run_fails {to = to} ends f never = phrase_or_fails H n tokens from X m (λ x. Run (rs ++ x ∷ [])) stops at to (C rs) either (λ x. run_closes (rs ++ x ∷ []) (ends x)) f (λ r ys w stop c near. never r ys w stop c)
