use Rattle.shade_rules.proofs.FaultLaws as laws
use Rattle.shade_rules.proofs.law.one_fault.Goals as goal

pub returns : goal.returns
returns c = laws.one_fault
