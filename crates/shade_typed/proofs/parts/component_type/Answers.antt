use Rattle.std.proofs.Common.{arith}
use Rattle.shade_typed.proofs.PartLaws.{component}
use Rattle.shade_typed.proofs.parts.component_type.Goals as goal

pub returns-clause-found : goal.returns-clause-found
returns-clause-found c = component c.args.context.now.shader.types c.args.count c.args.scalar c.args.place _ (omega (arith, c.if-place-from.false, c.from.ensures)) c.find.ensures.found
