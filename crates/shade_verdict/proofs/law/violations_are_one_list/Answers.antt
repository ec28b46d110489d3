use Rattle.shade_verdict.proofs.OneList.{one_verdict}
use Rattle.shade_verdict.proofs.law.violations_are_one_list.Goals as goal

pub returns : goal.returns
returns c = one_verdict
