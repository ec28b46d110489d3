use Rattle.std.proofs.Common.{sym}
use Rattle.shade_base.specs.declared.severity.Severity.TheVariants.{Error}
use Rattle.shade_scope.proofs.EndLaws.{without_of, last_of}
use Rattle.shade_scope.proofs.ranges.pop_severity.Goals as goal

pub returns-in-Some-clause-rest : goal.returns-in-Some-clause-rest
returns-in-Some-clause-rest c = without_of _ _ _ c.in-Some.ensures

pub returns-in-Some-clause-last : goal.returns-in-Some-clause-last
returns-in-Some-clause-last c = sym (last_of Error _ _ _ c.in-Some.ensures)
