use Rattle.shade_job.proofs.OneJob as law
use Rattle.shade_job.proofs.one_job.Goals as goal

pub returns : goal.returns
returns c = law.one_job
