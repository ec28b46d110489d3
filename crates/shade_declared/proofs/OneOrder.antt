-- Declarations have one order.
use Rattle.std.proofs.Common.{◌≡◌, refl, sym, ap, ap₂, subst, ◌∙◌, ℕ, ◌<◌, ◌≤◌, List, [], ◌∷◌, ◌++◌, length, get_or, Contains, ◌⊎◌, inl, inr, ⊎_elim, arith}
use Rattle.shade_declared.specs.Order.{Takes, ends, again, missing, fresh, IsOrder}
use Rattle.shade_declared.specs.Laws.{OrdersAreOne}

module _ (named : List (List ℕ)) where
  record Fresh (begun : List ℕ) (d : ℕ) (others order after : List ℕ) : Type 0 where
    between : List ℕ
    first : List ℕ
    rest : List ℕ
    low : d < length named
    new : ¬ Contains begun d
    names : Takes named (d ∷ begun) (get_or named d []) first between
    more : Takes named between others rest after
    joined : order ≡ first ++ (d ∷ rest)

  abbrev Cases : List ℕ → List ℕ → List ℕ → List ℕ → Type 0
  Cases begun [] order after = (order ≡ []) × (after ≡ begun)
  Cases begun (d ∷ others) order after = ((Contains begun d ⊎ (length named ≤ d)) × Takes named begun others order after) ⊎ Fresh begun d others order after

  cases : {begun wanted order after : List ℕ} → Takes named begun wanted order after → Cases begun wanted order after
  cases (ends begun) = (refl, refl)
  cases (again begun others order after d has t) = inl (inl has, t)
  cases (missing begun others order after d far t) = inl (inr far, t)
  cases (fresh begun between after others first rest d lt not t u) =
      inr (record { between = between; first = first; rest = rest; low = lt; new = not; names = t; more = u; joined = refl })

  one : {begun wanted order after : List ℕ} → Takes named begun wanted order after → (p q : List ℕ) → Takes named begun wanted p q → (order ≡ p) × (after ≡ q)
  one (ends begun) p q u = let c = cases u in (sym c.0, sym c.1)
  one (again begun others order after d has t) p q u = ⊎_elim (λ c. one t p q c.1) (λ c. absurd (c.new has)) (cases u)
  one (missing begun others order after d far t) p q u =
      ⊎_elim (λ c. one t p q c.1) (λ c. let low = c.low in absurd (omega (arith, far, low))) (cases u)
  one (fresh begun between after others first rest d lt not t u) p q v =
      ⊎_elim (λ c. absurd (⊎_elim not (λ far. omega (arith, far, lt)) c.0))
      (λ c.
      let s = one t c.first c.between c.names in
      let r = one u c.rest q (subst (λ z. Takes named z others c.rest q) (sym s.1) c.more) in
      (ap₂ (λ f l. f ++ (d ∷ l)) s.0 r.0 ∙ sym c.joined, r.1)) (cases v)

pub orders_are_one : OrdersAreOne
orders_are_one named order other o p = (one named o.takes other p.after p.takes).0
