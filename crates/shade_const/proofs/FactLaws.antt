-- A list of facts that grows, and one of them that is set.
use Rattle.std.proofs.Common.{◌≡◌, refl, ap, ◌∙◌, ℕ, zero, suc, ◌<◌, List, [], ◌∷◌, ◌++◌, length, set, Option, Some, None, arith}
use Rattle.std.specs.Prelude.{◌==◌, if◌then◌else◌}
use Rattle.std.proofs.lemmas.Bool.Decides.{nat_tests}
use Rattle.shade_const.specs.declared.fact.Fact.{Fact}
use Rattle.shade_const.specs.Facts.{fact_at, AreSame, IsPut}

longer_same : (facts : List (Option Fact)) → AreSame facts (facts ++ None ∷ [])
longer_same [] zero = refl
longer_same [] (suc n) = refl
longer_same (f ∷ facts) zero = refl
longer_same (f ∷ facts) (suc n) = longer_same facts n

pub same_more : (old now new : List (Option Fact)) → AreSame old now → new ≡ now ++ None ∷ [] → AreSame old new
same_more old now new h e n = ap (λ l. fact_at l n) e ∙ longer_same now n ∙ h n

set_put : (facts : List (Option Fact)) (node : ℕ) (f : Fact) → node < length facts → IsPut node f facts (set facts node (Some f))
set_put [] node f lt n = absurd (omega arith)
set_put (x ∷ facts) zero f lt zero = refl
set_put (x ∷ facts) zero f lt (suc n) = grind (arith, nat_tests)
set_put (x ∷ facts) (suc node) f lt zero = grind (arith, nat_tests)
set_put (x ∷ facts) (suc node) f lt (suc n) = set_put facts node f (omega (arith, lt)) n ∙ ap (λ b. if b then Some f else fact_at facts n) (grind (arith, nat_tests))

pub put_on : (old now new : List (Option Fact)) (node : ℕ) (f : Fact) → AreSame old now → node < length now → new ≡ set now node (Some f) → IsPut node f old new
put_on old now new node f h lt e other =
    ap (λ l. fact_at l other) e ∙ set_put now node f lt other ∙ ap (λ o. if other == node then Some f else o) (h other)
