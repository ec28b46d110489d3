-- What the order of the lane steps of a job does not change.
use Rattle.std.proofs.Common.{◌≡◌, ℕ, List, Option, None, Some, refl}
use Rattle.std.specs.Prelude.{slice_get}
use Rattle.shade_core.specs.declared.module.CoreFunction.{CoreFunction}
use Rattle.shade_core.specs.declared.module.CoreModule.{CoreModule}
use Rattle.shade_core.specs.Standing.{AreNumbered}
use Rattle.shade_orders.specs.Orders.{OrdersAgree, is_numbered}
use Rattle.shade_top.specs.Answer.{inputs}
use Rattle.shade_top.specs.Laws.{JobsAgree}
use Rattle.shade_top.specs.Ready.{FirstFormIsReady}

-- where all functions are numbered, one that may be there is
numbered_at : (functions : List CoreFunction) (k : ℕ) → AreNumbered functions → is_numbered (slice_get functions k)
numbered_at functions k numbered = by (slice_get functions k) refl
  where
    by : (o : Option CoreFunction) → slice_get functions k ≡ o → is_numbered o
    by None e = tt
    by (Some function) e = numbered k function e

pub jobs_agree : FirstFormIsReady → OrdersAgree → JobsAgree
jobs_agree ready agree bytes shader one other runs end = agree shader inputs one other (numbered_at shader.functions 0 (ready bytes shader runs.is.stands).numbered) end
