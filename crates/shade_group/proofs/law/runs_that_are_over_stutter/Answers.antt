use Rattle.shade_group.proofs.OverLaws.{over_stutters}
use Rattle.shade_group.proofs.law.runs_that_are_over_stutter.Goals as goal

pub returns : goal.returns
returns c = over_stutters
