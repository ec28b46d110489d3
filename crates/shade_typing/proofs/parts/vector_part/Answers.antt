use Rattle.shade_typing.proofs.parts.vector_part.Goals as goal

pub returns-in-Some-clause-of : goal.returns-in-Some-clause-of
returns-in-Some-clause-of c = c.by_letters.ensures.of
