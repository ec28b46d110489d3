-- The order in which functions are analysed: callees first, and all of them.
use Rattle.std.proofs.Common.{◌≡◌, refl, sym, subst, ℕ, zero, suc, ◌<◌, ◌⊎◌, inl, inr, List, [], ◌∷◌, ◌++◌, length, arith}
use Rattle.std.proofs.lemmas.Bool.Decides.{eqb_tells}
use Rattle.shade_core.specs.declared.module.CoreModule.{CoreModule}
use Rattle.shade_core.specs.Chains.{Calls}
use Rattle.shade_graph.specs.Graph.{Among, here, later}
use Rattle.shade_tags.specs.Order.{IsReady, IsNext, IsOrder, none_yet, one_more}
use Rattle.shade_tags.specs.Laws.{CallsDescend, IsBehindCallees, CalleesFirst, AllAreAnalysed}

abbrev Cases : ℕ → List ℕ → Type 0
Cases x [] = ⊥
Cases x (y ∷ ys) = (x ≡ y) ⊎ Among x ys

among_cases : {x : ℕ} {zs : List ℕ} → Among x zs → Cases x zs
among_cases here = inl refl
among_cases (later h) = inr h

among_first : (x y : ℕ) (xs : List ℕ) → x ≡ y → Among x (y ∷ xs)
among_first x y xs e = subst (λ (z : ℕ). Among x (z ∷ xs)) e here

among_left : {x : ℕ} {xs : List ℕ} (ys : List ℕ) → Among x xs → Among x (xs ++ ys)
among_left ys here = here
among_left ys (later h) = later (among_left ys h)

among_pushed : (xs : List ℕ) (y x : ℕ) → Among x (xs ++ y ∷ []) → Among x xs ⊎ (x ≡ y)
among_pushed [] y x h = elim (among_cases h) [ inl e ↦ inr e | inr none ↦ absurd (among_cases none) ]
among_pushed (z ∷ xs) y x h = elim (among_cases h) [
  | inl e ↦ inl (among_first x z xs e)
  | inr more ↦ elim (among_pushed xs y x more) [ inl old ↦ inl (later old) | inr e ↦ inr e ]
]

among_or : (x : ℕ) (xs : List ℕ) → Among x xs ⊎ (Among x xs → ⊥)
among_or x [] = inr (λ h. among_cases h)
among_or x (y ∷ xs) = elim (eqb_tells x y) [
  | inl is ↦ inl (among_first x y xs is.1)
  | inr other ↦ elim (among_or x xs) [ inl h ↦ inl (later h) | inr left ↦ inr (λ h. elim (among_cases h) [ inl e ↦ other.1 e | inr g ↦ left g ]) ]
]

order_behind : (shader : CoreModule) {done : List ℕ} → IsOrder shader done → (k : ℕ) → Among k done → IsBehindCallees shader done k
order_behind shader none_yet k h = absurd (among_cases h)
order_behind shader (one_more {done} {k = last} order next) k h = elim (among_pushed done last k h) [
  | inl old ↦ (let r = order_behind shader order k old in (r.0, λ g c. among_left (last ∷ []) (r.1 g c)))
  | inr same ↦ subst (λ (j : ℕ). IsBehindCallees shader (done ++ last ∷ []) j) (sym same) (next.ready.stands, λ g c. among_left (last ∷ []) (next.ready.callees g c))
]

pub callees_first : CalleesFirst
callees_first shader done order k h = order_behind shader order k h

pub all_are_analysed : AllAreAnalysed
all_are_analysed shader done down stand none k l = all_at (suc (down.depth k)) k (omega arith) l where
  all_at : (n j : ℕ) → down.depth j < n → j < length shader.functions → Among j done
  all_at zero j d s = absurd (omega (arith, d))
  all_at (suc n) j d s = elim (among_or j done) [
    | inl h ↦ h
    | inr left ↦ absurd (none j (record { stands = s; left = left; callees = λ g c. all_at n g (omega (arith, d, down.falls j g c)) (stand j g c) }))
  ]
