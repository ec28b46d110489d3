-- A phrase that goes on to the right of a phrase of the same production.
use Rattle.std.proofs.Common.{◌≡◌, refl, sym, subst, ℕ, ◌+◌, ◌<◌, ◌≤◌, ◌⊎◌, inl, inr, List, [], ◌∷◌, length, drop, arith, Some, slice_get}
use Rattle.shade_ast.specs.Lexemes.{Lexeme}
use Rattle.shade_ast.specs.Reads.{Near, Reads, Fails, rank, rank_of}
use Rattle.shade_ast.proofs.Stages.{Stage, Closes, near_get, begin, consume, change, finish, phrase, phrase_fails}
use Rattle.shade_ast.specs.Chains.{After, Tail, done, on, Infix}

-- a step behind its first token, and the rest
pub record On {R : Type 0} (At : Lexeme → R → R → List Lexeme → List Lexeme → Type 0) (t : Lexeme) (l r : R) (us w : List Lexeme) : Type 0 where
  pub tree : R
  pub others : List Lexeme
  pub at : At t l tree us others
  pub rest : Tail At tree r others w

module _ {R : Type 0} (At : Lexeme → R → R → List Lexeme → List Lexeme → Type 0) where
  pub unroll : (l r : R) (ys w : List Lexeme) → Tail At l r ys w → ((r ≡ l) × (ys ≡ w)) ⊎ ((t : Lexeme) × (us : List Lexeme) × (ys ≡ t ∷ us) × On At t l r us w)
  unroll l r ys w done = inl (refl, refl)
  unroll l r ys w (on {m = m} t {us = us} {zs = zs} a rest) = inr (t, us, refl, record { tree = m; others = zs; at = a; rest = rest })

  pub roll : (t : Lexeme) (l r : R) (us w : List Lexeme) → On At t l r us w → Tail At l r (t ∷ us) w
  roll t l r us w o = on t o.at o.rest

  -- what goes on in steps does not go on more tightly
  pub tail_stops : (n m : ℕ) → m ≤ n → ((t : Lexeme) (l q : R) (us zs : List Lexeme) → At t l q us zs → m < rank_of t) → (l r : R) (ys w : List Lexeme) → n < rank w → Tail At l r ys w → m < rank ys
  tail_stops n m le ranks l r ys w stop t =
      elim (unroll l r ys w t) [
        | inl s ↦ subst (λ x. m < rank x) (sym s.1) (omega arith)
        | inr o ↦ subst (λ x. m < rank x) (sym o.2) (ranks o.0 l o.3.tree o.1 o.3.others o.3.at)
      ]

  pub tail_closes : (l : R) → Closes (Tail At l)
  tail_closes l = record { tree = l; more = []; closed = λ w. done }

  module _ (G : R → List Lexeme → List Lexeme → Type 0) (n : ℕ) (tokens : List Lexeme) (from at : ℕ) (l : R) where
    -- no step begins here
    pub tail_ends : ((t : Lexeme) (q : R) (us zs : List Lexeme) → slice_get tokens at ≡ Some t → At t l q us zs → ⊥) → Stage G n tokens from at (Tail At l) → Reads G n tokens from l at
    tail_ends never s =
        finish G n tokens from at (Tail At l) l (λ w. done)
        (λ r ys w stop t near.
        elim (unroll l r ys w t) [
          | inl e ↦ e
          | inr o ↦ absurd (never o.0 o.3.tree o.1 o.3.others (near_get tokens at o.0 o.1 (subst (λ x. Near x (drop at tokens)) o.2 near)) o.3.at)
        ])
        s

    -- the first token of a step is read
    pub takes : (t : Lexeme) → slice_get tokens at ≡ Some t → rank_of t ≤ n → Stage G n tokens from at (Tail At l) → Stage G n tokens from (at + 1) (On At t l)
    takes t is low s =
        change G n tokens from (at + 1) (λ r zs w. Tail At l r (t ∷ zs) w) (On At t l)
        (λ r zs w stop near c.
        elim (unroll l r (t ∷ zs) w c) [
          | inl e ↦ absurd (let bad : n < rank (t ∷ zs) = subst (λ x. n < rank x) (sym e.1) stop in omega arith)
          | inr o ↦
              (let e : t ∷ zs ≡ o.0 ∷ o.1 = o.2 in
              let same_t : o.0 ≡ t = cc in
              let same_zs : o.1 ≡ zs = cc in
              subst (λ x. On At t l r x w) same_zs (subst (λ x. On At x l r o.1 w) same_t o.3))
        ])
        (λ r zs w o. roll t l r zs w o)
        (consume G n tokens from at (Tail At l) t is s)

    pub takes_infix : {S : Type 0} (B : S → List Lexeme → List Lexeme → Type 0) (build : S → R) (t : Lexeme) → ((q : R) (us zs : List Lexeme) → At t l q us zs → Infix B build q us zs) → ((q : R) (us zs : List Lexeme) → Infix B build q us zs → At t l q us zs) → slice_get tokens at ≡ Some t → rank_of t ≤ n → Stage G n tokens from at (Tail At l) → Stage G n tokens from (at + 1) (After B (λ b. Tail At (build b)))
    takes_infix B build t there here is low s =
        change G n tokens from (at + 1) (On At t l) (After B (λ b. Tail At (build b)))
        (λ r us w stop near o.
        let i : Infix B build o.tree us o.others = there o.tree us o.others o.at in
        record { part = i.right; others = o.others; phrase = i.phrase; rest = subst (λ x. Tail At x r o.others w) i.same o.rest })
        (λ r us w a. record { tree = build a.part; others = a.others; at = here (build a.part) us a.others (record { right = a.part; phrase = a.phrase; same = refl }); rest = a.rest })
        (takes t is low s)

-- `G` is a phrase of `B` and any number of steps. Spine and grow say so of the production, each by cases.
pub record Leftward {R : Type 0} (G B : R → List Lexeme → List Lexeme → Type 0) (At : Lexeme → R → R → List Lexeme → List Lexeme → Type 0) (n m : ℕ) : Type 0 where
  pub base : (e : R) (ts w : List Lexeme) → B e ts w → G e ts w
  pub grow : (t : Lexeme) (l q : R) (ts us zs : List Lexeme) → G l ts (t ∷ us) → At t l q us zs → G q ts zs
  pub spine : (l : R) (ts us : List Lexeme) → G l ts us → (r : R) (w : List Lexeme) → Tail At l r us w → After B (λ b. Tail At b) r ts w
  pub ranks : (t : Lexeme) (l q : R) (us zs : List Lexeme) → At t l q us zs → m < rank_of t
  pub low : m ≤ n

module _ {R : Type 0} (G B : R → List Lexeme → List Lexeme → Type 0) (At : Lexeme → R → R → List Lexeme → List Lexeme → Type 0) (n m : ℕ) (k : Leftward G B At n m) where
  join : (l r : R) (ts us w : List Lexeme) → G l ts us → Tail At l r us w → G r ts w
  join l r ts us w p done = p
  join l r ts us w p (on {m = q} t {us = vs} {zs = zs} a rest) = join q r ts zs w (k.grow t l q ts vs zs p a) rest

  left_stops : (b q : R) (zs w : List Lexeme) → n < rank w → Tail At b q zs w → m < rank zs
  left_stops b q zs w = tail_stops At n m k.low k.ranks b q zs w

  module _ (tokens : List Lexeme) (from : ℕ) where
    left_begin : from ≤ length tokens → Stage G n tokens from from (After B (λ b. Tail At b))
    left_begin h =
        change G n tokens from from G (After B (λ b. Tail At b))
        (λ r ys w stop near g. k.spine r ys w g r w done)
        (λ r ys w a. join a.part r ys a.others w (k.base a.part ys a.others a.phrase) a.rest)
        (begin G n tokens from h)

    pub left_first : (to : ℕ) (b : R) → from ≤ length tokens → Reads B m tokens from b to → Stage G n tokens from to (Tail At b)
    left_first to b h p = phrase G n tokens from B m (λ b. Tail At b) left_stops from to b (left_begin h) p

    pub left_first_fails : (to : ℕ) → from ≤ length tokens → Fails B m tokens from to → Fails G n tokens from to
    left_first_fails to h f = phrase_fails G n tokens from B m (λ b. Tail At b) left_stops from to (λ b. tail_closes At b) (left_begin h) f

    -- an operator with a phrase of its right side
    module _ {S : Type 0} (I : S → List Lexeme → List Lexeme → Type 0) (i : ℕ) (build : R → S → R) (t : Lexeme) (low_i : i ≤ n) (ranks_i : (t : Lexeme) (l q : R) (us zs : List Lexeme) → At t l q us zs → i < rank_of t) (low : rank_of t ≤ n) (at : ℕ) (l : R) (there : (q : R) (us zs : List Lexeme) → At t l q us zs → Infix I (build l) q us zs) (here : (q : R) (us zs : List Lexeme) → Infix I (build l) q us zs → At t l q us zs) (is : slice_get tokens at ≡ Some t) (s : Stage G n tokens from at (Tail At l)) where
      pub left_more : (to : ℕ) (b : S) (e : R) → e ≡ build l b → Reads I i tokens (at + 1) b to → Stage G n tokens from to (Tail At e)
      left_more to b e same p =
          subst (λ x. Stage G n tokens from to (Tail At x)) (sym same)
          (phrase G n tokens from I i (λ b. Tail At (build l b)) (λ b. tail_stops At n i low_i ranks_i (build l b)) (at + 1) to b (takes_infix At G n tokens from at l I (build l) t there here is low s) p)

      pub left_more_fails : (to : ℕ) → Fails I i tokens (at + 1) to → Fails G n tokens from to
      left_more_fails to f =
          phrase_fails G n tokens from I i (λ b. Tail At (build l b)) (λ b. tail_stops At n i low_i ranks_i (build l b)) (at + 1) to (λ b. tail_closes At (build l b)) (takes_infix At G n tokens from at l I (build l) t there here is low s) f
