use Rattle.std.proofs.Common.{arith}
use Rattle.shade_typed.proofs.PartLaws.{old_value, was_exchanged}
use Rattle.shade_typed.proofs.parts.exchanged_member.Goals as goal

pub returns-then-place-eq0-clause-found : goal.returns-then-place-eq0-clause-found
returns-then-place-eq0-clause-found c = old_value c.args.context.now.shader.types c.args.scalar c.args.place _ c.if-place-eq0.true c.find.ensures.found

pub returns-clause-found : goal.returns-clause-found
returns-clause-found c = was_exchanged c.args.context.now.shader.types c.args.scalar c.args.place _ (omega (arith, c.if-place-gt1.false, c.if-place-eq0.false)) c.find-2.ensures.found
