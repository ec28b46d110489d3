use Rattle.std.proofs.Common.{rules}
use Rattle.shade_uniformity.proofs.WalkSteps.{are_analysed}
use Rattle.shade_uniformity.proofs.walk.analysed.Goals as goal

pub returns-clause-exact : goal.returns-clause-exact
returns-clause-exact c = are_analysed c.args.body.now c.walk_list.new.out.items (search rules)
