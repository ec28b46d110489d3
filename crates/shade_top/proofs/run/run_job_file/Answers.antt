use Rattle.shade_top.proofs.ReadLaws.{read_as, run_by_job, run_job_unread, run_stops}
use Rattle.shade_top.proofs.run.run_job_file.Goals as goal

pub returns-in-Some-clause-outcome : goal.returns-in-Some-clause-outcome
returns-in-Some-clause-outcome g c bytes runs =
    run_by_job c.run_job.result _ bytes c.args.job.now c.args.shader.now c.in-Some.bytes.items runs (read_as _ _ _ _ c.in_ok-bytes.field-0 _ c.in-Some.is c.in_ok-bytes.ensures.given) (rw c.deref.ensures.value at c.run_job.ensures)

pub returns-in-None-clause-outcome : goal.returns-in-None-clause-outcome
returns-in-None-clause-outcome g c bytes runs = run_job_unread c.unread.result _ bytes c.args.job.now c.args.shader.now runs (read_as _ _ _ _ c.in_ok-bytes.field-0 _ c.in-None.is c.in_ok-bytes.ensures.given) c.unread.ensures

pub returns-in_err-bytes-clause-outcome : goal.returns-in_err-bytes-clause-outcome
returns-in_err-bytes-clause-outcome g c bytes runs = run_stops c.from_residual.result _ bytes c.args.job.now c.from_residual.ensures.0 c.in_err-bytes.ensures.given
