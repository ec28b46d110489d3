use Rattle.shade_typed.proofs.PartLaws.{component_of, element_at}
use Rattle.shade_typed.proofs.parts.element_type.Goals as goal

pub returns-in-Vector-clause-found : goal.returns-in-Vector-clause-found
returns-in-Vector-clause-found c = rw c.in-Vector.is (component_of c.args.context.now.shader.types c.in-Vector.field-0 c.in-Vector.scalar _ c.find.ensures.found)

pub returns-in-Array-clause-found : goal.returns-in-Array-clause-found
returns-in-Array-clause-found c = rw c.in-Array.is (element_at c.args.context.now.shader.types c.in-Array.element c.in-Array.field-1 _ c.typed.ensures.found)
