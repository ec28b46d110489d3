-- Answers, and what follows from them.
use Rattle.std.proofs.Common.{◌≡◌, refl, ap, subst, Option, Some, None}
use Rattle.std.specs.Prelude.{◌↔◌, Bool, true, false, IsTrue}
use Rattle.shade_typed.specs.Answers.{Answers}

pub some_same : {A : Type 0} (x y : A) → Some x ≡ Some y → x ≡ y
some_same x y e = cc

pub none_some : {A : Type 0} (x : A) → None ≡ Some x → ⊥
none_some x e = cc

pub answers_none : {A : Type 0} (P : A → Type 0) → ((x : A) → P x → ⊥) → Answers P None
answers_none P none x = (λ h. absurd (none x h), λ e. absurd (none_some x e))

pub answers_one : {A : Type 0} (P : A → Type 0) (x : A) → P x → ((y : A) → P y → x ≡ y) → Answers P (Some x)
answers_one P x h one y = (λ p. ap Some (one y p), λ e. subst P (some_same x y e) h)

-- what is answered holds
pub holds : {A : Type 0} (P : A → Type 0) (x : A) → Answers P (Some x) → P x
holds P x h = (h x).1 refl

-- and of nothing else
pub only : {A : Type 0} (P : A → Type 0) (x y : A) → Answers P (Some x) → P y → x ≡ y
only P x y h p = some_same x y ((h y).0 p)

pub nowhere : {A : Type 0} (P : A → Type 0) (x : A) → Answers P None → P x → ⊥
nowhere P x h p = none_some x ((h x).0 p)

-- of what holds alike
pub answers_as : {A : Type 0} (P Q : A → Type 0) (r : Option A) → ((x : A) → P x ↔ Q x) → Answers P r → Answers Q r
answers_as P Q r same h x = (λ q. (h x).0 ((same x).1 q), λ e. (same x).0 ((h x).1 e))

-- one that holds only with another thing that was not found
pub answers_without : {A B : Type 0} (P : A → Type 0) (Q : B → Type 0) → Answers P None → ((y : B) → Q y → (x : A) × P x) → Answers Q None
answers_without P Q h needs = answers_none Q (λ y q. nowhere P (needs y q).0 h (needs y q).1)

-- a test of the one thing
pub tests : {A : Type 0} (P : A → Type 0) (x y : A) (b : Bool) → Answers P (Some x) → IsTrue b ↔ (x ≡ y) → IsTrue b ↔ P y
tests P x y b h t = (λ e. subst P (t.0 e) (holds P x h), λ p. t.1 (only P x y h p))

pub refutes : {P : Type 0} → ¬ P → IsTrue false ↔ P
refutes none = (λ f. absurd (cc), λ p. absurd (none p))

pub confirms : {P : Type 0} → P → IsTrue true ↔ P
confirms p = (λ t. p, λ q. refl)
