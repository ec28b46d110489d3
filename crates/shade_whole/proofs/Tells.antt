-- A test that answers, and what it tells; what holds of all things of a list.
use Rattle.std.proofs.Common.{◌≡◌, refl, sym, subst, ℕ, ◌+◌, ◌<◌, List, length, get_or, take}
use Rattle.std.specs.Prelude.{◌↔◌, All, IsTrue, true, false}
use Rattle.std.proofs.lemmas.List.Elements.{All-get_or, All-more}

-- a test that answers no, and one that answers yes
pub refutes : {P : Type 0} → ¬ P → IsTrue false ↔ P
refutes none = (λ f. absurd (cc), λ p. absurd (none p))

pub confirms : {P : Type 0} → P → IsTrue true ↔ P
confirms p = (λ t. p, λ q. refl)

pub all_at : {A : Type 0} (P : A → Type 0) (xs : List A) (i : ℕ) (x : A) → i < length xs → x ≡ get_or xs i x → All P xs → P x
all_at P xs i x lt is all = subst P (sym is) (All-get_or P xs i x lt all)

pub all_with : {A : Type 0} (P : A → Type 0) (xs : List A) (i : ℕ) (x : A) → i < length xs → x ≡ get_or xs i x → All P (take i xs) → P x → All P (take (i + 1) xs)
all_with P xs i x lt is all one = All-more P xs i x lt all (subst P is one)
