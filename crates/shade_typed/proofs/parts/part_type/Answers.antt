use Rattle.shade_typed.proofs.PartLaws.{other_part}
use Rattle.shade_typed.proofs.parts.part_type.Goals as goal

pub returns-in_default : goal.returns-in_default
returns-in_default c = record { found = other_part c.args.context.now.shader.types c.args.from _ c.in_default.not-RuntimeArray c.element_type.ensures.found; stands = c.element_type.ensures.stands }
