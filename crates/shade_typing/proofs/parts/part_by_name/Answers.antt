use Rattle.shade_typing.proofs.parts.part_by_name.Goals as goal

pub returns-in-Vector-clause-of : goal.returns-in-Vector-clause-of
returns-in-Vector-clause-of c = c.vector_part.ensures.of c.args.types.now
