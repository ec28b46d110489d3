-- What an answer tells.
use Rattle.std.specs.Prelude.{◌≡◌, ◌↔◌, Option, Some}

-- The answer is the one thing of which something holds, and None where it holds of nothing.
abbrev pub Answers : {A : Type 0} → (A → Type 0) → Option A → Type 0
Answers {A} P answer = (x : A) → P x ↔ (answer ≡ Some x)
