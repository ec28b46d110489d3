-- A law of JSON jobs.
use Rattle.std.specs.Prelude.{◌≡◌, ℕ, List}
use Rattle.shade_core.specs.declared.module.CoreModule.{CoreModule}
use Rattle.shade_job.specs.declared.reading.Job.{Job}
use Rattle.shade_job.specs.declared.refusal.JobRule.{JobRule}
use Rattle.shade_job.specs.JobOf.{IsJob, IsFault}

-- A text states one job for a module at most, or has one first fault, and never both.
pub record OneAnswer : Type 0 where
  pub job : (bytes : List ℕ) (shader : CoreModule) (one other : Job) → IsJob bytes shader one → IsJob bytes shader other → one ≡ other
  pub fault : (bytes : List ℕ) (shader : CoreModule) (p q : List ℕ) (r t : JobRule) → IsFault bytes shader p r → IsFault bytes shader q t → (p ≡ q) × (r ≡ t)
  pub never : (bytes : List ℕ) (shader : CoreModule) (job : Job) (p : List ℕ) (r : JobRule) → IsJob bytes shader job → IsFault bytes shader p r → ⊥
