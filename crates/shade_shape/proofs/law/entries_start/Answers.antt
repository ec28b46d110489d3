use Rattle.shade_shape.proofs.ShapeLaws.{started}
use Rattle.shade_shape.proofs.law.entries_start.Goals as goal

pub returns : goal.returns
returns c = started
