use Rattle.std.proofs.Common.{◌≡◌, refl, true, false}
use Rattle.shade_top.proofs.ReadLaws.{no_error_runs, run_rejected, run_stops}
use Rattle.shade_top.proofs.run.run_shader.Goals as goal

pub returns-in_err-violations-clause-outcome : goal.returns-in_err-violations-clause-outcome
returns-in_err-violations-clause-outcome g c bytes of = run_stops c.from_residual.result _ bytes c.args.job.now c.from_residual.ensures.0 refl

pub returns-then-has_error-clause-outcome : goal.returns-then-has_error-clause-outcome
returns-then-has_error-clause-outcome g c bytes of =
    run_rejected c.verdict.result _ bytes c.args.job.now c.args.shader.now c.in_ok-violations.violations.items (rw c.deref.ensures.value at c.if-has_error.ensures.0 refl) of c.in_ok-violations.ensures refl (rw c.deref-then-has_error.ensures.value at c.verdict.ensures)

pub returns-clause-outcome : goal.returns-clause-outcome
returns-clause-outcome g c bytes of =
    c.run_job_file.ensures.outcome bytes (no_error_runs bytes c.args.shader.now c.in_ok-violations.violations.items (λ some. let bad : false ≡ true = c.if-has_error.ensures.1 (rw c.deref.ensures.value some) in cc) of c.in_ok-violations.ensures)
