-- Each function of a module that has rules has rules.
use Rattle.std.proofs.Common.{◌≡◌, refl, ap, sym, ◌∙◌, ℕ, ◌<◌, Bool, true, false, List, get_or, length}
use Rattle.std.proofs.lemmas.List.Folds.{list_all_at}
use Rattle.shade_core.specs.declared.module.CoreFunction.{CoreFunction}
use Rattle.shade_core.specs.Rules.{all_have_rules, has_rules}

not_false : (b all : Bool) → all ≡ true → (b ≡ false → all ≡ false) → b ≡ true
not_false true all e h = refl
not_false false all e h = let no_one : ⊥ = cc (h refl, e) in absurd no_one

pub rules_at : (functions : List CoreFunction) (i : ℕ) (f : CoreFunction) → all_have_rules functions ≡ true → i < length functions → f ≡ get_or functions i f → has_rules f ≡ true
rules_at functions i f all lt is = not_false (has_rules f) (all_have_rules functions) all (λ e. list_all_at has_rules functions i f lt (ap has_rules (sym is) ∙ e))
