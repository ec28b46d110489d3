-- A lane that runs by itself, on a memory of its own, to the next wait or its end.
use Rattle.std.proofs.Common.{◌≡◌, ℕ, zero, suc, ◌+◌, Bool, true, false, not, List, [], ◌++◌, Option, Some, None, refl, ap, sym, ◌∙◌, subst, append-nil, arith, inl, inr, add-zero, add-suc}
use Rattle.std.specs.Prelude.{◌⊎◌}
use Rattle.shade_schedules.specs.System.{System}
use Rattle.shade_schedules.specs.Machine.{Member, Touch, touched, stored, moved, is_able}
use Rattle.shade_schedules.specs.Races.{Among}
use Rattle.shade_schedules.proofs.Lists.{false_true, among_left}

pub apart : (n k : ℕ) → ((d : ℕ) × (k ≡ n + d)) ⊎ ((d : ℕ) × (n ≡ k + d))
apart zero k = inl (k, omega arith)
apart (suc n) zero = inr (suc n, omega arith)
apart (suc n) (suc k) = elim (apart n k) [ inl p ↦ inl (p.0, let e : k ≡ n + p.0 = p.1 in omega (arith, e)) | inr p ↦ inr (p.0, let e : n ≡ k + p.0 = p.1 in omega (arith, e)) ]

module _ (K : System) where
  -- a lane, if there is one, with a memory of its own
  pub record Alone : Type 0 where
    pub member : Option (Member K)
    pub memory : K.Memory

  abbrev pub alone_by : Bool → Member K → K.Memory → Alone
  alone_by true m memory = record { member = Some (moved K memory m); memory = stored K memory (K.does m.lane) }
  alone_by false m memory = record { member = Some m; memory = memory }

  abbrev pub alone_of : Option (Member K) → K.Memory → Alone
  alone_of None memory = record { member = None; memory = memory }
  alone_of (Some m) memory = alone_by (is_able K m.state) m memory

  -- after so many steps; one that stopped stays as it is
  abbrev pub solo : ℕ → Alone → Alone
  solo zero s = s
  solo (suc n) s = alone_of (solo n s).member (solo n s).memory

  abbrev pub touches_by : Bool → Member K → List (Touch K)
  touches_by true m = touched K (K.does m.lane)
  touches_by false m = []

  abbrev pub touches_of : Option (Member K) → List (Touch K)
  touches_of None = []
  touches_of (Some m) = touches_by (is_able K m.state) m

  -- what it touched
  abbrev pub touches : ℕ → Alone → List (Touch K)
  touches zero s = []
  touches (suc n) s = touches n s ++ touches_of (solo n s).member

  abbrev pub is_stopped : Option (Member K) → Bool
  is_stopped None = true
  is_stopped (Some m) = not (is_able K m.state)

  not_false : (b : Bool) → not b ≡ true → b ≡ false
  not_false true e = false_true false refl e
  not_false false e = refl

  stop_stays : (s : Alone) → is_stopped s.member ≡ true → alone_of s.member s.memory ≡ s
  stop_stays s h = by s.member s.memory h
    where
      by : (o : Option (Member K)) (memory : K.Memory) → is_stopped o ≡ true → alone_of o memory ≡ record { member = o; memory = memory }
      by None memory h = refl
      by (Some m) memory h = rw (not_false (is_able K m.state) h) refl

  stop_touches : (o : Option (Member K)) → is_stopped o ≡ true → touches_of o ≡ []
  stop_touches None h = refl
  stop_touches (Some m) h = rw (not_false (is_able K m.state) h) refl

  pub stays : (n d : ℕ) (s : Alone) → is_stopped (solo n s).member ≡ true → solo (n + d) s ≡ solo n s
  stays n zero s h = ap (λ k. solo k s) (add-zero n)
  stays n (suc d) s h = ap (λ k. solo k s) (add-suc n d) ∙ (ap (λ (x : Alone). alone_of x.member x.memory) (stays n d s h) ∙ stop_stays (solo n s) h)

  pub touches_stay : (n d : ℕ) (s : Alone) → is_stopped (solo n s).member ≡ true → touches (n + d) s ≡ touches n s
  touches_stay n zero s h = ap (λ k. touches k s) (add-zero n)
  touches_stay n (suc d) s h =
      ap (λ k. touches k s) (add-suc n d)
      ∙ (ap (λ (x : Alone). touches (n + d) s ++ touches_of x.member) (stays n d s h)
      ∙ (ap (λ xs. touches (n + d) s ++ xs) (stop_touches (solo n s).member h) ∙ (append-nil (touches (n + d) s) ∙ touches_stay n d s h)))

  pub touches_more : (n d : ℕ) (s : Alone) {t : Touch K} → Among t (touches n s) → Among t (touches (n + d) s)
  touches_more n zero s {t} h = subst (λ k. Among t (touches k s)) (sym (add-zero n)) h
  touches_more n (suc d) s {t} h = subst (λ k. Among t (touches k s)) (sym (add-suc n d)) (among_left (touches_of (solo (n + d) s).member) (touches_more n d s h))

  -- whatever it touched, it touched before it stopped
  pub touches_within : (n k : ℕ) (s : Alone) {t : Touch K} → is_stopped (solo k s).member ≡ true → Among t (touches n s) → Among t (touches k s)
  touches_within n k s {t} h a = elim (apart n k) [
    | inl p ↦ subst (λ z. Among t (touches z s)) (sym p.1) (touches_more n p.0 s a)
    | inr p ↦ subst (λ xs. Among t xs) (ap (λ z. touches z s) p.1 ∙ touches_stay k p.0 s h) a
  ]

  -- it stops in one way
  pub stops_once : (n k : ℕ) (s : Alone) → is_stopped (solo n s).member ≡ true → is_stopped (solo k s).member ≡ true → solo n s ≡ solo k s
  stops_once n k s h g = elim (apart n k) [
    | inl p ↦ sym (ap (λ z. solo z s) p.1 ∙ stays n p.0 s h)
    | inr p ↦ ap (λ z. solo z s) p.1 ∙ stays k p.0 s g
  ]

  pub touches_once : (n k : ℕ) (s : Alone) → is_stopped (solo n s).member ≡ true → is_stopped (solo k s).member ≡ true → touches n s ≡ touches k s
  touches_once n k s h g = elim (apart n k) [
    | inl p ↦ sym (ap (λ z. touches z s) p.1 ∙ touches_stay n p.0 s h)
    | inr p ↦ ap (λ z. touches z s) p.1 ∙ touches_stay k p.0 s g
  ]
