-- A test that answers, and what it tells.
use Rattle.std.proofs.Common.{refl}
use Rattle.std.specs.Prelude.{◌↔◌, IsTrue, true, false}

-- a test that answers no, and one that answers yes
pub refutes : {P : Type 0} → ¬ P → IsTrue false ↔ P
refutes none = (λ f. absurd (cc), λ p. absurd (none p))

pub confirms : {P : Type 0} → P → IsTrue true ↔ P
confirms p = (λ t. p, λ q. refl)
