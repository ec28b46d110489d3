-- Refusals by one rule.
use Rattle.std.specs.Prelude.{◌≡◌, ℕ, List}
use Rattle.shade_job.specs.declared.refusal.JobRule.{JobRule}
use Rattle.shade_job.specs.declared.refusal.JobRefusal.{JobRefusal}
use Rattle.shade_job.specs.Refusals.{Refuses}

-- a refusal is right where it is by this rule, which fails at the pointer
abbrev pub RefusesBy : JobRule → (List ℕ → Type 0) → JobRefusal → Type 0
RefusesBy broken Fails refusal = Refuses (λ pointer other. (other ≡ broken) × Fails pointer) refusal
