use Rattle.shade_flow.proofs.ExitLaws.{reaches_alike}
use Rattle.shade_flow.proofs.law.reaching_by_exits.Goals as goal

pub returns : goal.returns
returns c = reaches_alike
