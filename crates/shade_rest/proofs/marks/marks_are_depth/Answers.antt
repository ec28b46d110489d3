use Rattle.shade_rest.proofs.MarkLaws.{marks_count}
use Rattle.shade_rest.proofs.marks.marks_are_depth.Goals as goal

pub returns : goal.returns
returns c = marks_count c.args.marks.now.stack.items
