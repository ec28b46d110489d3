-- The nodes of parameters, one after another.
use Rattle.std.proofs.Common.{◌≡◌, refl, sym, ap, ◌∙◌, ℕ, zero, suc, ◌+◌, ◌<◌, List, [], ◌∷◌, ◌++◌, length, drop, arith, add-one, append_assoc}
use Rattle.shade_core.specs.declared.module.CoreParam.{CoreParam}
use Rattle.shade_graph.specs.declared.node.Node.{Node}
use Rattle.shade_graph.specs.declared.node.Node.TheVariants.{Param}
use Rattle.shade_graph.specs.Numbered.{param_nodes}

param_step : (i k : ℕ) (params : List CoreParam) → k < length params → param_nodes i (drop k params) ≡ Param i ∷ param_nodes (i + 1) (drop (suc k) params)
param_step i k [] lt = absurd (omega (arith, lt))
param_step i zero (p ∷ params) lt = refl
param_step i (suc k) (p ∷ params) lt = param_step i k params (omega (arith, lt))

-- one more parameter
pub param_more : (i k : ℕ) (params : List CoreParam) (old new all : List Node) → k < length params → new ≡ old ++ Param i ∷ [] → old ++ param_nodes i (drop k params) ≡ all → new ++ param_nodes (i + 1) (drop (k + 1) params) ≡ all
param_more i k params old new all lt e h =
    ap (λ (ns : List Node). ns ++ param_nodes (i + 1) (drop (k + 1) params)) e
    ∙ (append_assoc old (Param i ∷ []) (param_nodes (i + 1) (drop (k + 1) params))
    ∙ (ap (λ (n : ℕ). old ++ Param i ∷ param_nodes (i + 1) (drop n params)) (add-one k) ∙ (ap (λ (ns : List Node). old ++ ns) (sym (param_step i k params lt)) ∙ h)))
