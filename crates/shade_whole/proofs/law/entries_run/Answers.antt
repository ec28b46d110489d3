use Rattle.shade_whole.proofs.RunLaws.{runs}
use Rattle.shade_whole.proofs.law.entries_run.Goals as goal

pub returns : goal.returns
returns c = runs c.entries_start.ensures
