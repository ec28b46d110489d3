use Rattle.std.proofs.Common.{sym}
use Rattle.shade_typed.proofs.SetLaws.{elements_as}
use Rattle.shade_typed.proofs.sets.are_elements.Goals as goal

pub returns : goal.returns
returns c = elements_as c.args.context.now.shader.types c.args.element c.args.count c.args.types.now c.in-Some.found.ty c.are_all.result (sym c.in-Some.ensures.found) c.if-types-count.false c.are_all.ensures
