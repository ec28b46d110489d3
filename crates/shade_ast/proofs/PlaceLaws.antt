-- What the answers of a parser say of places.
use Rattle.std.proofs.Common.{◌≡◌, refl, sym, ap, ◌∙◌, subst, ℕ, zero, suc, ◌+◌, ◌-◌, ◌<◌, ◌≤◌, List, [], ◌∷◌, ◌++◌, length, take, drop, arith, append_assoc, length-append, length-drop, slice_range}
use Rattle.std.proofs.lemmas.List.{append-nil, take-append-drop}
use Rattle.std.proofs.Math.Seq.{take-append_seam}
use Rattle.shade_ast.specs.Lexemes.{Lexeme}
use Rattle.shade_ast.specs.Reads.{Near, Reads, Fails}
use Rattle.shade_ast.specs.Places.{Begins, IsStop, IsOnly}

module _ (tokens us : List Lexeme) (from to : ℕ) (low : from ≤ to) (high : to ≤ length tokens) (spelled : drop from tokens ≡ us ++ drop to tokens) where
  measured : to - from ≡ length us
  measured = omega (arith, ap length spelled, length-drop from tokens, length-drop to tokens, length-append us (drop to tokens))

  pub slice_is : slice_range tokens from to ≡ us
  slice_is = ap (λ k. take k (drop from tokens)) measured ∙ ap (λ x. take (length us) x) spelled ∙ take-append_seam us (drop to tokens)

-- one token more
record Next (tokens : List Lexeme) (to : ℕ) : Type 0 where
  token : Lexeme
  is : drop to tokens ≡ token ∷ drop (to + 1) tokens

next : (tokens : List Lexeme) (to : ℕ) → to < length tokens → Next tokens to
next [] to h = absurd (omega arith)
next (t ∷ ts) zero h = record { token = t; is = refl }
next (t ∷ ts) (suc i) h =
    let n : Next ts i = next ts i (omega arith) in
    let same : suc (i + 1) ≡ suc i + 1 = omega arith in
    record { token = n.token; is = n.is ∙ ap (λ k. n.token ∷ drop k (t ∷ ts)) same }

-- a beginning of a beginning
shorter : {R : Type 0} (G : R → List Lexeme → List Lexeme → Type 0) (tokens : List Lexeme) (from k q : ℕ) → k ≤ q → Begins G (slice_range tokens from q) → Begins G (slice_range tokens from k)
shorter G tokens from k q le b =
    let xs : List Lexeme = take (q - from) (drop from tokens) in
    let cut : take (k - from) (drop from tokens) ≡ take (k - from) xs = sym (take_take (k - from) (q - from) (drop from tokens) (omega arith)) in (
      b.0,
      drop (k - from) xs ++ b.1,
      subst (λ x. G b.0 x []) (ap (λ x. x ++ b.1) (sym (take-append-drop (k - from) xs) ∙ ap (λ x. x ++ drop (k - from) xs) (sym cut)) ∙ append_assoc (take (k - from) (drop from tokens)) (drop (k - from) xs) b.1) b.2,
    )
  where
    take_take : (i j : ℕ) (l : List Lexeme) → i ≤ j → take i (take j l) ≡ take i l
    take_take zero j l h = refl
    take_take (suc i) zero l h = absurd (omega arith)
    take_take (suc i) (suc j) [] h = refl
    take_take (suc i) (suc j) (x ∷ l) h = ap (λ m. x ∷ m) (take_take i j l (omega arith))

module _ {R : Type 0} (G : R → List Lexeme → List Lexeme → Type 0) (n : ℕ) (small : n < 10) (tokens : List Lexeme) (from to : ℕ) where
  module _ (us : List Lexeme) (low : from ≤ to) (high : to ≤ length tokens) (spelled : drop from tokens ≡ us ++ drop to tokens) where
    here : slice_range tokens from to ≡ us
    here = slice_is tokens us from to low high spelled

    longer : (x : Next tokens to) → to < length tokens → slice_range tokens from (to + 1) ≡ us ++ x.token ∷ []
    longer x lt = slice_is tokens (us ++ x.token ∷ []) from (to + 1) (omega arith) (omega arith) (spelled ∙ ap (λ y. us ++ y) x.is ∙ sym (append_assoc us (x.token ∷ []) (drop (to + 1) tokens)))

    -- what begins with one token more goes on here
    goes_on : (lt : to < length tokens) → (b : Begins G (slice_range tokens from (to + 1))) → (t : Lexeme) × (G b.0 (us ++ t ∷ b.1) []) × (Near (t ∷ b.1) (drop to tokens))
    goes_on lt b =
        let x : Next tokens to = next tokens to lt in (
          x.token,
          subst (λ y. G b.0 y []) (ap (λ y. y ++ b.1) (longer x lt) ∙ append_assoc us (x.token ∷ []) b.1) b.2,
          subst (Near (x.token ∷ b.1)) (sym x.is) refl,
        )

  pub stop_of_reads : (e : R) → Reads G n tokens from e to → IsStop G tokens from to
  stop_of_reads e p = record {
    low = p.low;
    high = p.high;
    before = λ k low le. shorter G tokens from k to le (e, [], subst (λ x. G e (x ++ []) []) (sym (here p.us p.low p.high p.spelled)) (p.phrase []));
    none =
        λ lt b.
        let g = goes_on p.us p.low p.high p.spelled lt b in
        let o : (b.0 ≡ e) × (g.0 ∷ b.1 ≡ []) = p.only b.0 (g.0 ∷ b.1) [] g.1 small g.2 in
        let bad : g.0 ∷ b.1 ≡ [] = o.1 in
        cc;
  }

  pub only_of_reads : (e : R) → Reads G n tokens from e to → IsOnly G e (slice_range tokens from to)
  only_of_reads e p =
      let is : slice_range tokens from to ≡ p.us = here p.us p.low p.high p.spelled in
      record {
        spells = subst (λ x. G e x []) (append-nil p.us ∙ sym is) (p.phrase []);
        same = λ s g. (p.only s [] [] (subst (λ x. G s x []) (is ∙ sym (append-nil p.us)) g) small tt).0;
      }

  pub stop_of_fails : Fails G n tokens from to → IsStop G tokens from to
  stop_of_fails p = record {
    low = p.low;
    high = p.high;
    before =
        λ k low le.
        shorter G tokens from k to le (p.begun.0, p.begun.1, subst (λ x. G p.begun.0 x []) (ap (λ y. p.us ++ y) (append-nil p.begun.1) ∙ ap (λ x. x ++ p.begun.1) (sym (here p.us p.low p.high p.spelled))) (p.begun.2 []));
    none =
        λ lt b.
        let g = goes_on p.us p.low p.high p.spelled lt b in
        p.none b.0 (g.0 ∷ b.1) [] g.1 small g.2;
  }

  pub none_of_fails : Fails G n tokens from to → (e : R) → G e (slice_range tokens from to) [] → ⊥
  none_of_fails p e g = p.none e [] [] (subst (λ x. G e x []) (here p.us p.low p.high p.spelled ∙ sym (append-nil p.us)) g) small tt

near_same : (l : List Lexeme) → Near l l
near_same [] = tt
near_same (t ∷ l) = refl

-- of all tokens
module _ {R : Type 0} (G : R → List Lexeme → List Lexeme → Type 0) (n : ℕ) (small : n < 10) (tokens : List Lexeme) where
  pub none_of_all : (q : ℕ) → Fails G n tokens 0 q → (e : R) → G e tokens [] → ⊥
  none_of_all q p e g = p.none e (drop q tokens) [] (subst (λ x. G e x []) p.spelled g) small (near_same (drop q tokens))

  -- a list that a phrase spells goes on past no phrase that is read
  pub none_past : (e s : R) (q : ℕ) → q < length tokens → Reads G n tokens 0 e q → G s tokens [] → ⊥
  none_past e s q lt p g =
      let x : Next tokens q = next tokens q lt in
      let o : (s ≡ e) × (drop q tokens ≡ []) = p.only s (drop q tokens) [] (subst (λ y. G s y []) p.spelled g) small (near_same (drop q tokens)) in
      let bad : x.token ∷ drop (q + 1) tokens ≡ [] = sym x.is ∙ o.1 in
      cc

  pub only_all : (e : R) (q : ℕ) → length tokens ≤ q → Reads G n tokens 0 e q → IsOnly G e tokens
  only_all e q le p =
      let is : p.us ++ [] ≡ tokens = sym (p.spelled ∙ ap (λ x. p.us ++ x) (ended tokens q le)) in
      record {
        spells = subst (λ x. G e x []) is (p.phrase []);
        same = λ s g. (p.only s [] [] (subst (λ x. G s x []) (sym is) g) small tt).0;
      }
    where
      ended : (l : List Lexeme) (i : ℕ) → length l ≤ i → drop i l ≡ []
      ended [] zero h = refl
      ended [] (suc i) h = refl
      ended (x ∷ l) zero h = absurd (omega arith)
      ended (x ∷ l) (suc i) h = ended l i (omega arith)
