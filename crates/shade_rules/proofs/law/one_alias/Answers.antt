use Rattle.shade_rules.proofs.OneAlias as laws
use Rattle.shade_rules.proofs.law.one_alias.Goals as goal

pub returns : goal.returns
returns c = laws.one_alias
