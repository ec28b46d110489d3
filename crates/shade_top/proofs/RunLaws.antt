-- What the answer to a run of a text is made of.
use Rattle.std.proofs.Common.{◌≡◌, sym, ◌∙◌, ap, subst, ℕ, zero, suc, ◌<◌, List, [], ◌∷◌, length, slice_get, Some}
use Rattle.std.specs.Prelude.{IfOk, Result, Ok, Err}
use Rattle.shade_core.specs.declared.module.CoreModule.{CoreModule}
use Rattle.shade_mem.specs.declared.inputs.Inputs.{Inputs}
use Rattle.shade_group.specs.Group.{Machine, begin, run}
use Rattle.shade_job.specs.Steps.{AllBelow, States}
use Rattle.shade_files.specs.Writes.{Answer}
use Rattle.shade_top.specs.Answer.{IsRan, no_job, job, inputs, lanes_of, outcome, refused_job}

-- each step of a job is the number of a lane
below_at : (lanes : ℕ) (steps : List ℕ) (i n : ℕ) → AllBelow lanes steps → slice_get steps i ≡ Some n → n < lanes
below_at lanes [] i n all is = absurd (cc)
below_at lanes (s ∷ steps) zero n all is = let same : s ≡ n = cc in subst (λ k. k < lanes) same all.0
below_at lanes (s ∷ steps) (suc i) n all is = below_at lanes steps i n all.1 is

pub job_below : (lanes : ℕ) (bytes steps : List ℕ) (m : Machine) → lanes ≡ length m.members → States lanes bytes steps → (i n : ℕ) → slice_get steps i ≡ Some n → n < length m.members
job_below lanes bytes steps m is states i n at = subst (λ l. n < l) is (below_at lanes steps i n states.lanes_each at)

module _ (shader : CoreModule) (given : Inputs) (m : Machine) (lanes : ℕ) (given_is : given ≡ inputs) (m_is : m ≡ begin shader given) (lanes_is : lanes ≡ length m.members) where
  begun : m ≡ begin shader inputs
  begun = m_is ∙ ap (begin shader) given_is

  lanes_are : lanes ≡ lanes_of shader
  lanes_are = lanes_is ∙ ap (λ k. length k.members) begun

  -- a run by the steps that a job states answers the job
  pub run_answers : {T E : Type 0} (f : T → Answer) (result : Result T E) (bytes steps : List ℕ) → States lanes bytes steps → IfOk result (λ report. f report ≡ outcome shader (run m steps)) → IfOk result (λ report. IsRan shader bytes (f report))
  run_answers f (Ok report) bytes steps states is =
      subst (IsRan shader bytes) (sym (is ∙ ap (λ k. outcome shader (run k steps)) begun)) (job (subst (λ l. States l bytes steps) lanes_are states))
  run_answers f (Err e) bytes steps states is = tt

  -- the refusal of a job answers it
  pub refusal_answers : {T E : Type 0} (f : T → Answer) (result : Result T E) (bytes : List ℕ) → ((steps : List ℕ) → States lanes bytes steps → ⊥) → IfOk result (λ report. f report ≡ refused_job) → IfOk result (λ report. IsRan shader bytes (f report))
  refusal_answers f (Ok report) bytes none is =
      subst (IsRan shader bytes) (sym is) (no_job (λ steps states. none steps (subst (λ l. States l bytes steps) (sym lanes_are) states)))
  refusal_answers f (Err e) bytes none is = tt
