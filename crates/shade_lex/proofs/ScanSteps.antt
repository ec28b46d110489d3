-- The search for template lists, by what its next token is.
use Rattle.std.proofs.Common.{◌≡◌, ℕ, zero, suc, ◌+◌, ◌<◌, ◌≤◌, List, [], ◌∷◌, take, Bool, true, false, Option, Some, refl, ap, sym, ◌∙◌, arith, subst, inl, inr}
use Rattle.std.specs.Prelude.{nat_le, slice_get}
use Rattle.std.proofs.lemmas.Bool.Decides.{leb_tells, eqb_tells}
use Rattle.shade_lex.specs.declared.candidate.Candidate.{Candidate}
use Rattle.shade_lex.specs.declared.role.Role.{Role}
use Rattle.shade_lex.specs.Templates.{role_at, is_opener, is_greater, depth, cuts, openers, greaters, IsOpen, IsPair}
use Rattle.shade_lex.specs.Scan.{below}
use Rattle.shade_lex.proofs.ScanLaws.{count_at, IsListed, IsStack, IsFoundSo, opener_none, opener_other, opener_one, greater_none, greater_other, greater_one, greaters_start, openers_start, open_less, keep_listed, pair_ends, greater_is_no_opener, same_test, differ_test}

-- a candidate is of the same depth as another, or not
count_same : (e : ℕ) (c : Candidate) (cs : List Candidate) → c.depth ≡ e → count_at e (c ∷ cs) ≡ count_at e cs + 1
count_same e c cs s = rw (same_test c.depth e s) refl

count_other : (e : ℕ) (c : Candidate) (cs : List Candidate) → (c.depth ≡ e → ⊥) → count_at e (c ∷ cs) ≡ count_at e cs
count_other e c cs n = rw (differ_test c.depth e n) (omega arith)

module _ (roles : List Role) (closed : ℕ → Bool) (k : ℕ) where
  -- nothing found changes where a token closes nothing
  found_same : (closers : List (Option ℕ)) → IsFoundSo roles closed k closers → ((i : ℕ) → IsPair roles closed i k → ⊥) → IsFoundSo roles closed (suc k) closers
  found_same closers f none = record { sound = λ i j e. (let s = f.sound i j e in (s.0, omega (arith, s.1))); complete = complete }
    where
      complete : (i j : ℕ) → j < suc k → IsPair roles closed i j → slice_get closers i ≡ Some (Some j)
      complete i j lt p = elim (eqb_tells j k) [
        | inl s ↦ absurd (none i (subst (λ (n : ℕ). IsPair roles closed i n) s.1 p))
        | inr o ↦ f.complete i j (omega (arith, lt, o.1)) p
      ]

  -- a token that is no `>` closes nothing
  pub found_quiet : (closers : List (Option ℕ)) → IsFoundSo roles closed k closers → is_greater (role_at roles k) ≡ false → IsFoundSo roles closed (suc k) closers
  found_quiet closers f g = found_same closers f (λ i p. cc (p.closer, g))

  -- what is open after this token was open before, where it is no opener
  open_before : (i : ℕ) → is_opener roles k ≡ false → IsOpen roles closed i (suc k) → i < k
  open_before i n o = elim (eqb_tells i k) [
    | inl s ↦ cc (subst (λ (m : ℕ). is_opener roles m ≡ true) s.1 o.opens, n)
    | inr t ↦ (let lt : i < suc k = o.before in omega (arith, lt, t.1))
  ]

  -- a token that opens, closes and cuts nothing
  pub stack_quiet : (cs : List Candidate) → IsStack roles closed k cs → is_opener roles k ≡ false → is_greater (role_at roles k) ≡ false → ((e : ℕ) → cuts roles closed k e ≡ false) → depth roles closed k ≤ depth roles closed (suc k) → IsStack roles closed (suc k) cs
  stack_quiet cs s n g uncut up = record {
    listed = λ p c e. (
        let l : IsListed roles closed k c (take p cs) = s.listed p c e in
        keep_listed roles closed k c (take p cs) (take p cs) l (uncut c.depth) (omega (arith, opener_none roles closed k c.at c.depth n, greater_none roles closed k c.at c.depth g, l.above)));
    all = λ i o. s.all i (open_less roles closed i k o (open_before i n o)).0;
    rising = s.rising;
    low = λ p c e. omega (arith, s.low p c e, up);
  }

  -- an opener
  pub stack_push : (cs : List Candidate) (new : Candidate) → IsStack roles closed k cs → is_opener roles k ≡ true → is_greater (role_at roles k) ≡ false → ((e : ℕ) → cuts roles closed k e ≡ false) → depth roles closed (suc k) ≡ depth roles closed k
      → new.at ≡ k → new.depth ≡ depth roles closed k → IsStack roles closed (suc k) (new ∷ cs)
  stack_push cs new s o g uncut same at level = record { listed = listed; all = all; rising = rising; low = low }
    where
      opens : IsOpen roles closed k (suc k)
      opens = record {
        opens = o;
        before = omega arith;
        uncut = λ m a b. absurd (omega (arith, a, b));
        kept = λ n le. omega (arith, greaters_start roles closed k (depth roles closed k) n le);
      }

      listed : (p : ℕ) (c : Candidate) → slice_get (new ∷ cs) p ≡ Some c → IsListed roles closed (suc k) c (take p (new ∷ cs))
      listed zero c e =
          let is : new ≡ c = cc in
          subst (λ (d : Candidate). IsListed roles closed (suc k) d []) is (record {
            still_open = subst (λ (i : ℕ). IsOpen roles closed i (suc k)) (sym at) opens;
            is_level = level ∙ ap (depth roles closed) (sym at);
            above = (let none : openers roles closed new.at new.depth (suc k) ≡ 0 = openers_start roles closed new.at new.depth (suc k) (omega (arith, at)) in
                let never : greaters roles closed new.at new.depth (suc k) ≡ 0 = greaters_start roles closed new.at new.depth (suc k) (omega (arith, at)) in omega (arith, none, never));
          })
      listed (suc p) c e =
          let l : IsListed roles closed k c (take p cs) = s.listed p c e in
          keep_listed roles closed k c (take p cs) (new ∷ take p cs) l (uncut c.depth) (elim (eqb_tells (depth roles closed k) c.depth) [
            | inl t ↦ (let more = opener_one roles closed k c.at c.depth l.still_open.before o t.1 in
                omega (arith, more, greater_none roles closed k c.at c.depth g, l.above, count_same c.depth new (take p cs) (level ∙ t.1)))
            | inr t ↦ (let more = opener_other roles closed k c.at c.depth t.1 in
                omega (arith, more, greater_none roles closed k c.at c.depth g, l.above, count_other c.depth new (take p cs) (λ d. t.1 (sym level ∙ d))))
          ])

      all : (i : ℕ) → IsOpen roles closed i (suc k) → (p : ℕ) × (c : Candidate) × (slice_get (new ∷ cs) p ≡ Some c) × (c.at ≡ i)
      all i x = elim (eqb_tells i k) [
        | inl t ↦ (0, new, refl, at ∙ sym t.1)
        | inr t ↦ (let lt : i < suc k = x.before in
            let f : (p : ℕ) × (c : Candidate) × (slice_get cs p ≡ Some c) × (c.at ≡ i) = s.all i (open_less roles closed i k x (omega (arith, lt, t.1))).0 in
            (suc f.0, f.1, f.2, f.3))
      ]

      rising : (p q : ℕ) (c d : Candidate) → p < q → slice_get (new ∷ cs) p ≡ Some c → slice_get (new ∷ cs) q ≡ Some d → d.depth ≤ c.depth
      rising p zero c d lt a b = absurd (omega (arith, lt))
      rising zero (suc q) c d lt a b = let is : new ≡ c = cc in let high : new.depth ≡ c.depth = ap (λ (x : Candidate). x.depth) is in omega (arith, s.low q d b, level, high)
      rising (suc p) (suc q) c d lt a b = s.rising p q c d (omega (arith, lt)) a b

      low : (p : ℕ) (c : Candidate) → slice_get (new ∷ cs) p ≡ Some c → c.depth ≤ depth roles closed (suc k)
      low zero c e = let is : new ≡ c = cc in let high : new.depth ≡ c.depth = ap (λ (x : Candidate). x.depth) is in omega (arith, level, high, same)
      low (suc p) c e = omega (arith, s.low p c e, same)

  -- a `>` with no candidate of its depth
  module _ (cs : List Candidate) (s : IsStack roles closed k cs) (g : is_greater (role_at roles k) ≡ true) (uncut : (e : ℕ) → cuts roles closed k e ≡ false) (same : depth roles closed (suc k) ≡ depth roles closed k) where
    pub stack_unmatched : ((p : ℕ) (c : Candidate) → slice_get cs p ≡ Some c → depth roles closed k ≡ c.depth → ⊥) → IsStack roles closed (suc k) cs
    stack_unmatched none = record {
      listed = λ p c e. (
          let l : IsListed roles closed k c (take p cs) = s.listed p c e in
          keep_listed roles closed k c (take p cs) (take p cs) l (uncut c.depth) (omega (arith, opener_other roles closed k c.at c.depth (none p c e), greater_other roles closed k c.at c.depth (none p c e), l.above)));
      all = λ i o. s.all i (open_less roles closed i k o (open_before i (greater_is_no_opener roles k g) o)).0;
      rising = s.rising;
      low = λ p c e. omega (arith, s.low p c e, same);
    }

    pub pair_unmatched : ((p : ℕ) (c : Candidate) → slice_get cs p ≡ Some c → depth roles closed k ≡ c.depth → ⊥) → (i : ℕ) → IsPair roles closed i k → ⊥
    pair_unmatched none i x =
        let f : (p : ℕ) × (c : Candidate) × (slice_get cs p ≡ Some c) × (c.at ≡ i) = s.all i x.open_before in
        none f.0 f.1 f.2 (x.level ∙ ap (depth roles closed) (sym f.3) ∙ sym (s.listed f.0 f.1 f.2).is_level)

  -- a `>` that closes the newest candidate
  module _ (c : Candidate) (cs : List Candidate) (s : IsStack roles closed k (c ∷ cs)) (g : is_greater (role_at roles k) ≡ true) (uncut : (e : ℕ) → cuts roles closed k e ≡ false) (same : depth roles closed (suc k) ≡ depth roles closed k) (level : c.depth ≡ depth roles closed k) where
    newest : IsListed roles closed k c []
    newest = s.listed 0 c refl

    no_opener : is_opener roles k ≡ false
    no_opener = greater_is_no_opener roles k g

    pub closes_newest : IsPair roles closed c.at k
    closes_newest = record {
      open_before = newest.still_open;
      closer = g;
      level = sym level ∙ newest.is_level;
      even = subst (λ (e : ℕ). greaters roles closed c.at e k ≡ openers roles closed c.at e k) newest.is_level (omega (arith, newest.above));
    }

    pub closes_only : (i : ℕ) → IsPair roles closed i k → c.at ≡ i
    closes_only i x = only f.0 f.1 f.2 f.3
      where
        f : (p : ℕ) × (d : Candidate) × (slice_get (c ∷ cs) p ≡ Some d) × (d.at ≡ i)
        f = s.all i x.open_before

        only : (p : ℕ) (d : Candidate) → slice_get (c ∷ cs) p ≡ Some d → d.at ≡ i → c.at ≡ i
        only zero d e is = let one : c ≡ d = cc in ap (λ (x : Candidate). x.at) one ∙ is
        only (suc p) d e is =
            let l : IsListed roles closed k d (c ∷ take p cs) = s.listed (suc p) d e in
            let deep : depth roles closed i ≡ d.depth = ap (depth roles closed) (sym is) ∙ sym l.is_level in
            let one : count_at d.depth (c ∷ take p cs) ≡ count_at d.depth (take p cs) + 1 = count_same d.depth c (take p cs) (level ∙ x.level ∙ deep) in
            let even : greaters roles closed d.at d.depth k ≡ openers roles closed d.at d.depth k = subst (λ (e : ℕ). greaters roles closed d.at e k ≡ openers roles closed d.at e k) deep (subst (λ (n : ℕ). greaters roles closed n (depth roles closed i) k ≡ openers roles closed n (depth roles closed i) k) (sym is) x.even) in
            absurd (omega (arith, l.above, one, even))

    pub stack_pop : IsStack roles closed (suc k) cs
    stack_pop = record {
      listed = listed;
      all = all;
      rising = λ p q a b lt e f. s.rising (suc p) (suc q) a b (omega (arith, lt)) e f;
      low = λ p d e. omega (arith, s.low (suc p) d e, same);
    }
      where
        listed : (p : ℕ) (d : Candidate) → slice_get cs p ≡ Some d → IsListed roles closed (suc k) d (take p cs)
        listed p d e =
            let l : IsListed roles closed k d (c ∷ take p cs) = s.listed (suc p) d e in
            keep_listed roles closed k d (c ∷ take p cs) (take p cs) l (uncut d.depth) (elim (eqb_tells (depth roles closed k) d.depth) [
              | inl t ↦ (let more = greater_one roles closed k d.at d.depth l.still_open.before g t.1 in
                  omega (arith, more, opener_none roles closed k d.at d.depth no_opener, l.above, count_same d.depth c (take p cs) (level ∙ t.1)))
              | inr t ↦ (let more = greater_other roles closed k d.at d.depth t.1 in
                  omega (arith, more, opener_none roles closed k d.at d.depth no_opener, l.above, count_other d.depth c (take p cs) (λ q. t.1 (sym level ∙ q))))
            ])

        all : (i : ℕ) → IsOpen roles closed i (suc k) → (p : ℕ) × (d : Candidate) × (slice_get cs p ≡ Some d) × (d.at ≡ i)
        all i o = rest f.0 f.1 f.2 f.3
          where
            f : (p : ℕ) × (d : Candidate) × (slice_get (c ∷ cs) p ≡ Some d) × (d.at ≡ i)
            f = s.all i (open_less roles closed i k o (open_before i no_opener o)).0

            rest : (p : ℕ) (d : Candidate) → slice_get (c ∷ cs) p ≡ Some d → d.at ≡ i → (p : ℕ) × (d : Candidate) × (slice_get cs p ≡ Some d) × (d.at ≡ i)
            rest (suc p) d e is = (p, d, e, is)
            rest zero d e is =
                let one : c ≡ d = cc in
                let here : c.at ≡ i = ap (λ (x : Candidate). x.at) one ∙ is in
                absurd (pair_ends roles closed c.at k (suc k) no_opener closes_newest (subst (λ (n : ℕ). IsOpen roles closed n (suc k)) (sym here) o) (omega arith))

  -- a token that ends all lists
  pub stack_clear : (cs : List Candidate) → IsStack roles closed k cs → is_opener roles k ≡ false → ((e : ℕ) → cuts roles closed k e ≡ true) → IsStack roles closed (suc k) []
  stack_clear cs s n cut = record {
    listed = λ p c e. cc;
    all = λ i o. cc (cut (depth roles closed i), (open_less roles closed i k o (open_before i n o)).1);
    rising = λ p q c d lt a b. cc;
    low = λ p c e. cc;
  }

-- What is left of candidates that are cut at a depth.
pub record IsCut (roles : List Role) (closed : ℕ → Bool) (k level : ℕ) (cs left : List Candidate) : Type 0 where
  pub listed : (p : ℕ) (c : Candidate) → slice_get left p ≡ Some c → (c.depth < level) × IsListed roles closed k c (take p left)
  pub all : (p : ℕ) (c : Candidate) → slice_get cs p ≡ Some c → c.depth < level → (q : ℕ) × (slice_get left q ≡ Some c)
  pub rising : (p q : ℕ) (c d : Candidate) → p < q → slice_get left p ≡ Some c → slice_get left q ≡ Some d → d.depth ≤ c.depth

cut-below : (roles : List Role) (closed : ℕ → Bool) (k level : ℕ) (cs : List Candidate) → ((p : ℕ) (c : Candidate) → slice_get cs p ≡ Some c → c.depth < level → IsListed roles closed k c (take p cs))
    → ((p q : ℕ) (c d : Candidate) → p < q → slice_get cs p ≡ Some c → slice_get cs q ≡ Some d → d.depth ≤ c.depth) → IsCut roles closed k level cs (below level cs)
cut-below roles closed k level [] listed rising = record { listed = λ p c e. cc; all = λ p c e lt. cc; rising = λ p q c d lt a b. cc }
cut-below roles closed k level (h ∷ cs) listed rising = elim (leb_tells level h.depth) [
  | inl t ↦ (
      let rest : IsCut roles closed k level cs (below level cs) = cut-below roles closed k level cs
      (λ p c e lt. (let l : IsListed roles closed k c (h ∷ take p cs) = listed (suc p) c e lt in
      let other : count_at c.depth (h ∷ take p cs) ≡ count_at c.depth (take p cs) = count_other c.depth h (take p cs) (λ same. (omega (arith, same, lt, t.1))) in
      record { still_open = l.still_open; is_level = l.is_level; above = omega (arith, l.above, other) }))
      (λ p q c d lt a b. rising (suc p) (suc q) c d (omega (arith, lt)) a b) in
      rw t.0 (record { listed = rest.listed; rising = rest.rising; all = deep t.1 rest }))
  | inr f ↦ rw f.0 (record {
    listed = λ p c e. (shallow f.1 p c e, listed p c e (shallow f.1 p c e));
    all = λ p c e lt. (p, e);
    rising = rising;
  })
]
  where
    deep : level ≤ h.depth → IsCut roles closed k level cs (below level cs) → (p : ℕ) (c : Candidate) → slice_get (h ∷ cs) p ≡ Some c → c.depth < level → (q : ℕ) × (slice_get (below level cs) q ≡ Some c)
    deep le rest zero c e lt = let same : h ≡ c = cc in let high : h.depth ≡ c.depth = ap (λ (x : Candidate). x.depth) same in absurd (omega (arith, high, lt, le))
    deep le rest (suc p) c e lt = rest.all p c e lt

    shallow : h.depth < level → (p : ℕ) (c : Candidate) → slice_get (h ∷ cs) p ≡ Some c → c.depth < level
    shallow lt zero c e = let same : h ≡ c = cc in let high : h.depth ≡ c.depth = ap (λ (x : Candidate). x.depth) same in omega (arith, high, lt)
    shallow lt (suc p) c e = omega (arith, rising 0 (suc p) h c (omega arith) refl e, lt)

-- a token that cuts the lists of its depth and deeper
pub stack_cut : (roles : List Role) (closed : ℕ → Bool) (k : ℕ) (cs : List Candidate) → IsStack roles closed k cs → is_opener roles k ≡ false → is_greater (role_at roles k) ≡ false
    → ((e : ℕ) → cuts roles closed k e ≡ nat_le (depth roles closed k) e) → depth roles closed k ≤ depth roles closed (suc k) + 1 → IsStack roles closed (suc k) (below (depth roles closed k) cs)
stack_cut roles closed k cs s n g cut near = record { listed = listed; all = all; rising = b.rising; low = low }
  where
    level : ℕ
    level = depth roles closed k

    b : IsCut roles closed k (depth roles closed k) cs (below (depth roles closed k) cs)
    b = cut-below roles closed k (depth roles closed k) cs (λ p c e lt. s.listed p c e) s.rising

    not_cut : (e : ℕ) → e < depth roles closed k → cuts roles closed k e ≡ false
    not_cut e lt = elim (leb_tells (depth roles closed k) e) [ inl t ↦ absurd (omega (arith, t.1, lt)) | inr f ↦ cut e ∙ f.0 ]

    listed : (p : ℕ) (c : Candidate) → slice_get (below (depth roles closed k) cs) p ≡ Some c → IsListed roles closed (suc k) c (take p (below (depth roles closed k) cs))
    listed p c e =
        let l : (c.depth < depth roles closed k) × IsListed roles closed k c (take p (below (depth roles closed k) cs)) = b.listed p c e in
        keep_listed roles closed k c _ _ l.1 (not_cut c.depth l.0) (omega (arith, opener_none roles closed k c.at c.depth n, greater_none roles closed k c.at c.depth g, l.1.above))

    all : (i : ℕ) → IsOpen roles closed i (suc k) → (p : ℕ) × (c : Candidate) × (slice_get (below (depth roles closed k) cs) p ≡ Some c) × (c.at ≡ i)
    all i o =
        let before : IsOpen roles closed i k × (cuts roles closed k (depth roles closed i) ≡ false) = open_less roles closed i k o (open_before roles closed k i n o) in
        let f : (p : ℕ) × (c : Candidate) × (slice_get cs p ≡ Some c) × (c.at ≡ i) = s.all i before.0 in
        let deep : depth roles closed i ≡ f.1.depth = ap (depth roles closed) (sym f.3) ∙ sym (s.listed f.0 f.1 f.2).is_level in
        let not_le : nat_le (depth roles closed k) (depth roles closed i) ≡ false = sym (cut (depth roles closed i)) ∙ before.1 in
        let less : f.1.depth < depth roles closed k = elim (leb_tells (depth roles closed k) (depth roles closed i)) [ inl t ↦ cc (t.0, not_le) | inr u ↦ omega (arith, u.1, deep) ] in
        let q : (q : ℕ) × (slice_get (below (depth roles closed k) cs) q ≡ Some f.1) = b.all f.0 f.1 f.2 less in
        (q.0, f.1, q.1, f.3)

    low : (p : ℕ) (c : Candidate) → slice_get (below (depth roles closed k) cs) p ≡ Some c → c.depth ≤ depth roles closed (suc k)
    low p c e = omega (arith, (b.listed p c e).0, near)
