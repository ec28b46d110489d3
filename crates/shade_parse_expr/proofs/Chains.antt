-- What is left of a phrase is read by another function.
use Rattle.std.proofs.Common.{◌≡◌, sym, ap, ◌∙◌, subst, ℕ, ◌+◌, ◌<◌, ◌≤◌, List, ◌++◌, drop, arith, append_assoc, Some, slice_get}
use Rattle.shade_ast.specs.Lexemes.{Lexeme}
use Rattle.shade_ast.specs.Reads.{Near, Reads, Fails, rank, rank_of}
use Rattle.shade_ast.proofs.Stages.{Stage, near_append, change, phrase, phrase_fails}
use Rattle.shade_ast.specs.Chains.{After, Tail}
use Rattle.shade_ast.proofs.Tails.{On, takes, tail_stops, tail_closes}

module _ {R : Type 0} (G C : R → List Lexeme → List Lexeme → Type 0) (n : ℕ) (tokens : List Lexeme) (from at to : ℕ) (s : Stage G n tokens from at C) where
  pub then_reads : (r : R) → Reads C n tokens at r to → Reads G n tokens from r to
  then_reads r p = record {
    low = omega (arith, s.low, p.low);
    high = p.high;
    us = s.us ++ p.us;
    spelled = s.spelled ∙ ap (λ xs. s.us ++ xs) p.spelled ∙ sym (append_assoc s.us p.us (drop to tokens));
    phrase = λ w. subst (λ x. G r x w) (sym (append_assoc s.us p.us w)) (s.back r (p.us ++ w) w (p.phrase w));
    only =
        λ q ys w g stop near.
        p.only q ys w (s.leads q (p.us ++ ys) w (subst (λ x. G q x w) (append_assoc s.us p.us ys) g) stop (subst (Near (p.us ++ ys)) (sym p.spelled) (near_append p.us ys (drop to tokens) near))) stop near;
  }

  pub then_fails : Fails C n tokens at to → Fails G n tokens from to
  then_fails f = record {
    low = omega (arith, s.low, f.low);
    high = f.high;
    us = s.us ++ f.us;
    spelled = s.spelled ∙ ap (λ xs. s.us ++ xs) f.spelled ∙ sym (append_assoc s.us f.us (drop to tokens));
    begun = (f.begun.0, f.begun.1, λ w. subst (λ x. G f.begun.0 x w) (sym (append_assoc s.us f.us (f.begun.1 ++ w))) (s.back f.begun.0 (f.us ++ (f.begun.1 ++ w)) w (f.begun.2 w)));
    none =
        λ q ys w g stop near.
        f.none q ys w (s.leads q (f.us ++ ys) w (subst (λ x. G q x w) (append_assoc s.us f.us ys) g) stop (subst (Near (f.us ++ ys)) (sym f.spelled) (near_append f.us ys (drop to tokens) near))) stop near;
  }

-- a step is read as a phrase
module _ {R : Type 0} (At : Lexeme → R → R → List Lexeme → List Lexeme → Type 0) (m : ℕ) (ranks : (t : Lexeme) (l q : R) (us zs : List Lexeme) → At t l q us zs → m < rank_of t) (G : R → List Lexeme → List Lexeme → Type 0) (n : ℕ) (le : m ≤ n) (tokens : List Lexeme) (from at : ℕ) (l : R) (t : Lexeme) (is : slice_get tokens at ≡ Some t) (low : rank_of t ≤ n) (s : Stage G n tokens from at (Tail At l)) where
  behind : Stage G n tokens from (at + 1) (After (At t l) (λ q. Tail At q))
  behind =
      change G n tokens from (at + 1) (On At t l) (After (At t l) (λ q. Tail At q))
      (λ r ys w stop near o. record { part = o.tree; others = o.others; phrase = o.at; rest = o.rest })
      (λ r ys w a. record { tree = a.part; others = a.others; at = a.phrase; rest = a.rest })
      (takes At G n tokens from at l t is low s)

  pub step_reads : (q : R) (to : ℕ) → Reads (At t l) m tokens (at + 1) q to → Stage G n tokens from to (Tail At q)
  step_reads q to p = phrase G n tokens from (At t l) m (λ q. Tail At q) (λ q. tail_stops At n m le ranks q) (at + 1) to q behind p

  pub step_fails : (to : ℕ) → Fails (At t l) m tokens (at + 1) to → Fails G n tokens from to
  step_fails to f = phrase_fails G n tokens from (At t l) m (λ q. Tail At q) (λ q. tail_stops At n m le ranks q) (at + 1) to (λ q. tail_closes At q) behind f

-- The same where other ways were open, which what was read rules out.
module _ {R : Type 0} (G C B : R → List Lexeme → List Lexeme → Type 0) (n : ℕ) (tokens : List Lexeme) (from at to : ℕ) (here : (q : R) (ys w : List Lexeme) → B q ys w → C q ys w) (s : Stage G n tokens from at C) where
  pub then_reads_by : (r : R) (p : Reads B n tokens at r to) → ((q : R) (ys w : List Lexeme) → n < rank w → Near ys (drop to tokens) → C q (p.us ++ ys) w → B q (p.us ++ ys) w) → Reads G n tokens from r to
  then_reads_by r p there = record {
    low = omega (arith, s.low, p.low);
    high = p.high;
    us = s.us ++ p.us;
    spelled = s.spelled ∙ ap (λ xs. s.us ++ xs) p.spelled ∙ sym (append_assoc s.us p.us (drop to tokens));
    phrase = λ w. subst (λ x. G r x w) (sym (append_assoc s.us p.us w)) (s.back r (p.us ++ w) w (here r (p.us ++ w) w (p.phrase w)));
    only =
        λ q ys w g stop near.
        p.only q ys w (there q ys w stop near (s.leads q (p.us ++ ys) w (subst (λ x. G q x w) (append_assoc s.us p.us ys) g) stop (subst (Near (p.us ++ ys)) (sym p.spelled) (near_append p.us ys (drop to tokens) near)))) stop near;
  }

  pub then_fails_by : (f : Fails B n tokens at to) → ((q : R) (ys w : List Lexeme) → n < rank w → Near ys (drop to tokens) → C q (f.us ++ ys) w → B q (f.us ++ ys) w) → Fails G n tokens from to
  then_fails_by f there = record {
    low = omega (arith, s.low, f.low);
    high = f.high;
    us = s.us ++ f.us;
    spelled = s.spelled ∙ ap (λ xs. s.us ++ xs) f.spelled ∙ sym (append_assoc s.us f.us (drop to tokens));
    begun = (f.begun.0, f.begun.1, λ w. subst (λ x. G f.begun.0 x w) (sym (append_assoc s.us f.us (f.begun.1 ++ w))) (s.back f.begun.0 (f.us ++ (f.begun.1 ++ w)) w (here f.begun.0 (f.us ++ (f.begun.1 ++ w)) w (f.begun.2 w))));
    none =
        λ q ys w g stop near.
        f.none q ys w (there q ys w stop near (s.leads q (f.us ++ ys) w (subst (λ x. G q x w) (append_assoc s.us f.us ys) g) stop (subst (Near (f.us ++ ys)) (sym f.spelled) (near_append f.us ys (drop to tokens) near)))) stop near;
  }

-- a phrase that is one of another production fails
pub fails_as : {R S : Type 0} (G : R → List Lexeme → List Lexeme → Type 0) (n : ℕ) (tokens : List Lexeme) (from : ℕ) (B : S → List Lexeme → List Lexeme → Type 0) (m : ℕ) → m ≤ n → (f : S → R) →
    ((b : S) (ts w : List Lexeme) → B b ts w → G (f b) ts w) → ((r : R) (ts w : List Lexeme) → G r ts w → n < rank w → (b : S) × (r ≡ f b) × B b ts w) → (to : ℕ) → Fails B m tokens from to →
    Fails G n tokens from to
fails_as G n tokens from B m le f there here to x = record {
  low = x.low;
  high = x.high;
  us = x.us;
  spelled = x.spelled;
  begun = (f x.begun.0, x.begun.1, λ w. there x.begun.0 (x.us ++ (x.begun.1 ++ w)) w (x.begun.2 w));
  none = λ s ys w g stop near. let h : (b : _) × (s ≡ f b) × B b (x.us ++ ys) w = here s (x.us ++ ys) w g stop in x.none h.0 ys w h.2 (omega arith) near;
}
