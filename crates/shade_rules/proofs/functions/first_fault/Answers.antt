use Rattle.shade_rules.proofs.FaultLaws.{first_here, none_here, none_found}
use Rattle.shade_rules.proofs.functions.first_fault.Goals as goal

pub returns-in-Some-clause-some : goal.returns-in-Some-clause-some
returns-in-Some-clause-some c = first_here c.args.found.now c.found.finding-index _ c.in-Some.fault c.told.result c.found-test.true c.found.invariant c.in-Some.is c.told.ensures

pub found-preserved : goal.found-preserved
found-preserved c = none_here c.args.found.now c.found.finding-index _ c.found-test.true c.found.invariant c.in_default.is

pub returns-clause-none : goal.returns-clause-none
returns-clause-none c = none_found c.args.found.now c.found.finding-index c.found-test.false c.found.invariant
