use Rattle.shade_shape.proofs.ShapeLaws.{numbered}
use Rattle.shade_shape.proofs.law.functions_are_numbered.Goals as goal

pub returns : goal.returns
returns c = numbered
