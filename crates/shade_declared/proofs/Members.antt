-- What is in a list with one more in front.
use Rattle.std.proofs.Common.{◌≡◌, sym, subst, ℕ, ◌<◌, ◌≤◌, List, [], ◌∷◌, ◌++◌, Contains, ◌⊎◌, inl, inr, ⊎_elim, arith}
use Rattle.std.proofs.lemmas.List.Elements.{Contains-append_left, Contains-append_right, Contains-append_cases, Contains-push, Contains-push_cases}

pub empty_has_none : (x : ℕ) → ¬ Contains [] x
empty_has_none x h = let low : h.0 < 0 = h.1 in absurd (omega (arith, low))

pub here : (d : ℕ) (xs : List ℕ) → Contains (d ∷ xs) d
here d xs = Contains-append_left (d ∷ []) xs d (Contains-push [] d)

pub there : (d : ℕ) (xs : List ℕ) (x : ℕ) → Contains xs x → Contains (d ∷ xs) x
there d xs x h = Contains-append_right (d ∷ []) xs x h

pub is_here : (d : ℕ) (xs : List ℕ) (x : ℕ) → d ≡ x → Contains (d ∷ xs) x
is_here d xs x e = subst (Contains (d ∷ xs)) e (here d xs)

pub first_or_rest : (d : ℕ) (xs : List ℕ) (x : ℕ) → Contains (d ∷ xs) x → (d ≡ x) ⊎ Contains xs x
first_or_rest d xs x h =
    ⊎_elim (λ c. ⊎_elim (λ n. absurd (empty_has_none x n)) (λ e. inl e) (Contains-push_cases [] d x c)) (λ c. inr c) (Contains-append_cases (d ∷ []) xs x h)

-- what is in two lists with one between them
pub in_three : (first : List ℕ) (d : ℕ) (rest : List ℕ) (x : ℕ) → Contains (first ++ (d ∷ rest)) x → Contains first x ⊎ (d ≡ x) ⊎ Contains rest x
in_three first d rest x h = ⊎_elim (λ c. inl c) (λ c. inr (first_or_rest d rest x c)) (Contains-append_cases first (d ∷ rest) x h)

pub in_first : (first : List ℕ) (d : ℕ) (rest : List ℕ) (x : ℕ) → Contains first x → Contains (first ++ (d ∷ rest)) x
in_first first d rest x h = Contains-append_left first (d ∷ rest) x h

pub in_middle : (first : List ℕ) (d : ℕ) (rest : List ℕ) (x : ℕ) → d ≡ x → Contains (first ++ (d ∷ rest)) x
in_middle first d rest x e = Contains-append_right first (d ∷ rest) x (is_here d rest x e)

pub in_rest : (first : List ℕ) (d : ℕ) (rest : List ℕ) (x : ℕ) → Contains rest x → Contains (first ++ (d ∷ rest)) x
in_rest first d rest x h = Contains-append_right first (d ∷ rest) x (there d rest x h)
