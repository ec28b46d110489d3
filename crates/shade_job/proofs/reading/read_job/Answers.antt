use Rattle.serde_json.specs.View.{view}
use Rattle.shade_job.specs.Refusals.{Refuses}
use Rattle.shade_job.specs.JobOf.{IsFaultOf}
use Rattle.shade_job.proofs.FittingLaws.{result_fits}
use Rattle.shade_job.proofs.reading.read_job.Goals as goal

pub returns-clause-fits : goal.returns-clause-fits
returns-clause-fits c = result_fits c.args.module.now (view c.in_ok-value.value) c.read_stated.result (Refuses (IsFaultOf c.args.module.now (view c.in_ok-value.value))) c.read_stated.ensures
