use Rattle.shade_job.proofs.OneAnswerLaw as law
use Rattle.shade_job.proofs.reading.one_answer.Goals as goal

pub returns : goal.returns
returns c = law.one_answer
