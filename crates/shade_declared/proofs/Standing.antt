-- Which declarations stand before which: each stands once, and behind those that it names.
use Rattle.std.proofs.Common.{◌≡◌, refl, sym, ap, subst, ◌∙◌, ℕ, zero, suc, ◌+◌, ◌<◌, ◌≤◌, List, [], ◌∷◌, ◌++◌, length, get_or, Contains, ◌⊎◌, inl, inr, ⊎_elim, arith}
use Rattle.std.proofs.Math.Nat.{eq-or-lt_of_le}
use Rattle.std.proofs.lemmas.List.Elements.{Contains-append_cases}
use Rattle.shade_reach.specs.Paths.{Walk}
use Rattle.shade_declared.specs.Order.{Takes, ends, again, missing, fresh, numbers_from, IsOrder}
use Rattle.shade_declared.specs.Laws.{Names, NeedsItself, StandOnce, StandBehind, OrdersHaveEachOnce, OrdersGoBehindNames}
use Rattle.shade_declared.proofs.Members.{empty_has_none, here, there, is_here, first_or_rest, in_three, in_first, in_middle, in_rest}

-- ---- once

once_joined : (first others : List ℕ) → StandOnce first → StandOnce others → ((x : ℕ) → Contains first x → ¬ Contains others x) → StandOnce (first ++ others)
once_joined [] others f o apart = o
once_joined (d ∷ first) others f o apart =
    (λ c. ⊎_elim f.0 (apart d (here d first)) (Contains-append_cases first others d c), once_joined first others f.1 o (λ x c. apart x (there d first x c)))

numbers_have : (n from d : ℕ) → from ≤ d → d < from + n → Contains (numbers_from from n) d
numbers_have zero from d low high = absurd (omega (arith, low, high))
numbers_have (suc n) from d low high =
    ⊎_elim (λ e. is_here from (numbers_from (suc from) n) d e) (λ more. there from (numbers_from (suc from) n) d (numbers_have n (suc from) d (omega (arith, more)) (omega (arith, high))))
    (eq-or-lt_of_le low)

module _ (named : List (List ℕ)) where
  record Facts (begun wanted order after : List ℕ) : Type 0 where
    whence : (x : ℕ) → Contains after x → Contains begun x ⊎ Contains order x
    stays : (x : ℕ) → Contains begun x → Contains after x
    taken : (x : ℕ) → Contains order x → Contains after x
    low : (x : ℕ) → Contains order x → x < length named
    new : (x : ℕ) → Contains order x → ¬ Contains begun x
    all : (x : ℕ) → Contains wanted x → x < length named → Contains after x
    once : StandOnce order

  facts : {begun wanted order after : List ℕ} → Takes named begun wanted order after → Facts begun wanted order after
  facts (ends begun) = record {
    whence = λ x c. inl c;
    stays = λ x c. c;
    taken = λ x c. absurd (empty_has_none x c);
    low = λ x c. absurd (empty_has_none x c);
    new = λ x c. absurd (empty_has_none x c);
    all = λ x c lt. absurd (empty_has_none x c);
    once = tt;
  }
  facts (again begun others order after d has t) =
      let f = facts t in
      record {
        whence = f.whence;
        stays = f.stays;
        taken = f.taken;
        low = f.low;
        new = f.new;
        all = λ x c lt. ⊎_elim (λ e. subst (Contains after) e (f.stays d has)) (λ o. f.all x o lt) (first_or_rest d others x c);
        once = f.once;
      }
  facts (missing begun others order after d far t) =
      let f = facts t in
      record {
        whence = f.whence;
        stays = f.stays;
        taken = f.taken;
        low = f.low;
        new = f.new;
        all = λ x c lt. ⊎_elim (λ e. absurd (omega (arith, far, e, lt))) (λ o. f.all x o lt) (first_or_rest d others x c);
        once = f.once;
      }
  facts (fresh begun between after others first rest d lt not t u) =
      let f = facts t in
      let g = facts u in
      let marked : Contains between d = f.stays d (here d begun) in
      record {
        whence = λ x c. ⊎_elim
            (λ b. ⊎_elim (λ s. ⊎_elim (λ e. inr (in_middle first d rest x e)) (λ o. inl o) (first_or_rest d begun x s)) (λ o. inr (in_first first d rest x o)) (f.whence x b))
            (λ r. inr (in_rest first d rest x r)) (g.whence x c);
        stays = λ x c. g.stays x (f.stays x (there d begun x c));
        taken = λ x c. ⊎_elim (λ o. g.stays x (f.taken x o)) (λ o. ⊎_elim (λ e. subst (Contains after) e (g.stays d marked)) (g.taken x) o) (in_three first d rest x c);
        low = λ x c. ⊎_elim (f.low x) (λ o. ⊎_elim (λ e. subst (λ z. z < length named) e lt) (g.low x) o) (in_three first d rest x c);
        new = λ x c has. ⊎_elim (λ o. f.new x o (there d begun x has))
            (λ o. ⊎_elim (λ e. not (subst (Contains begun) (sym e) has)) (λ r. g.new x r (f.stays x (there d begun x has))) o) (in_three first d rest x c);
        all = λ x c low. ⊎_elim (λ e. subst (Contains after) e (g.stays d marked)) (λ o. g.all x o low) (first_or_rest d others x c);
        once = once_joined first (d ∷ rest) f.once (λ c. g.new d c marked, g.once)
            (λ x c o. ⊎_elim (λ e. f.new x c (is_here d begun x e)) (λ r. g.new x r (f.taken x c)) (first_or_rest d rest x o));
      }

  -- ---- behind

  -- a path leads to it from one of some
  record Reached (wanted : List ℕ) (x : ℕ) : Type 0 where
    start : ℕ
    path : List ℕ
    has : Contains wanted start
    walk : Walk (Names named) start x path

  widen : (d : ℕ) (wanted : List ℕ) (x : ℕ) → Reached wanted x → Reached (d ∷ wanted) x
  widen d wanted x r = record { start = r.start; path = r.path; has = there d wanted r.start r.has; walk = r.walk }

  reached : {begun wanted order after : List ℕ} → Takes named begun wanted order after → (x : ℕ) → Contains order x → Reached wanted x
  reached (ends begun) x c = absurd (empty_has_none x c)
  reached (again begun others order after d has t) x c = widen d others x (reached t x c)
  reached (missing begun others order after d far t) x c = widen d others x (reached t x c)
  reached (fresh begun between after others first rest d lt not t u) x c =
      ⊎_elim (λ o. let r = reached t x o in record { start = d; path = r.start ∷ r.path; has = here d others; walk = (r.has, r.walk) })
      (λ o. ⊎_elim (λ e. record { start = d; path = []; has = here d others; walk = e }) (λ b. widen d others x (reached u x b)) o) (in_three first d rest x c)

  -- those that these name may be said to stand before by another list
  before_by : (ds one other : List ℕ) → ((x : ℕ) → Contains ds x → (e : ℕ) → Names named x e → Contains one e → Contains other e)
      → StandBehind named one ds → StandBehind named other ds
  before_by [] one other goes s = tt
  before_by (d ∷ ds) one other goes s = (
    λ e n low. goes d (here d ds) e n (s.0 e n low),
    before_by ds (d ∷ one) (d ∷ other)
        (λ x c e n o. ⊎_elim (λ is. is_here d other e is) (λ r. there d other e (goes x (there d ds x c) e n r)) (first_or_rest d one e o)) s.1,
  )

  -- those in front, and then these
  abbrev over : List ℕ → List ℕ → List ℕ
  over [] before = before
  over (d ∷ ds) before = over ds (d ∷ before)

  over_old : (ds before : List ℕ) (x : ℕ) → Contains before x → Contains (over ds before) x
  over_old [] before x c = c
  over_old (d ∷ ds) before x c = over_old ds (d ∷ before) x (there d before x c)

  over_new : (ds before : List ℕ) (x : ℕ) → Contains ds x → Contains (over ds before) x
  over_new [] before x c = absurd (empty_has_none x c)
  over_new (d ∷ ds) before x c = ⊎_elim (λ e. over_old ds (d ∷ before) x (is_here d before x e)) (over_new ds (d ∷ before) x) (first_or_rest d ds x c)

  behind_joined : (ds es before : List ℕ) → StandBehind named before ds → StandBehind named (over ds before) es → StandBehind named before (ds ++ es)
  behind_joined [] es before s t = t
  behind_joined (d ∷ ds) es before s t = (s.0, behind_joined ds es (d ∷ before) s.1 t)

  module _ (free : (d : ℕ) → ¬ NeedsItself named d) where
    ends_with : (s x : ℕ) (path : List ℕ) → Walk (Names named) s x path → (e : ℕ) → Names named x e → (next : ℕ) × (rest : List ℕ) × Walk (Names named) s e (next ∷ rest)
    ends_with s x [] is e n = (e, [], (subst (λ z. Names named z e) (sym is) n, refl))
    ends_with s x (p ∷ path) w e n = let r = ends_with p x path w.1 e n in (p, r.0 ∷ r.1, (w.0, r.2))

    -- none that is reached from what a declaration names names it
    unnamed : (d x : ℕ) → Reached (get_or named d []) x → ¬ Names named x d
    unnamed d x r n = let w = ends_with r.start x r.path r.walk d n in free d (r.start, w.0 ∷ w.1, (r.has, w.2))

    behind : {begun wanted order after : List ℕ} → Takes named begun wanted order after → StandBehind named begun order
    behind (ends begun) = tt
    behind (again begun others order after d has t) = behind t
    behind (missing begun others order after d far t) = behind t
    behind (fresh begun between after others first rest d lt not t u) =
        let f = facts t in
        let before : StandBehind named begun first =
        before_by first (d ∷ begun) begun
        (λ x c e n o. ⊎_elim (λ is. absurd (unnamed d x (reached t x c) (subst (Names named x) (sym is) n))) (λ b. b) (first_or_rest d begun e o)) (behind t) in
        let known : (e : ℕ) → Contains between e → Contains (d ∷ over first begun) e =
        λ e c. ⊎_elim
        (λ s. ⊎_elim (λ is. is_here d (over first begun) e is) (λ b. there d (over first begun) e (over_old first begun e b)) (first_or_rest d begun e s))
        (λ o. there d (over first begun) e (over_new first begun e o)) (f.whence e c) in
        behind_joined first (d ∷ rest) begun before (
          λ e n low. ⊎_elim (λ is. absurd (free d (d, [], (subst (Names named d) (sym is) n, refl)))) (λ b. b) (first_or_rest d (over first begun) e (known e (f.all e n low))),
          before_by rest between (d ∷ over first begun) (λ x c e n o. known e o) (behind u),
        )

pub orders_have_each_once : OrdersHaveEachOnce
orders_have_each_once named order o =
    let f = facts named o.takes in
    (λ d. (f.low d, λ low. ⊎_elim (λ c. absurd (empty_has_none d c)) (λ c. c) (f.whence d (f.all d (numbers_have (length named) 0 d (omega arith) (omega (arith, low))) low))), f.once)

pub orders_go_behind_names : OrdersGoBehindNames
orders_go_behind_names named order free o = behind named free o.takes
