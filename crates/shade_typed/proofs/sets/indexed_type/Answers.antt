use Rattle.std.proofs.Common.{arith, rules}
use Rattle.shade_typed.proofs.SetLaws.{indexed_at}
use Rattle.shade_typed.proofs.sets.indexed_type.Goals as goal

pub returns-clause-found : goal.returns-clause-found
returns-clause-found c = indexed_at c.args.context.now.shader.types c.args.types.now _ _ c.in-Plain.scalar _ (omega arith) (omega arith) c.in-Plain.is (search rules) c.element_type.ensures.found
