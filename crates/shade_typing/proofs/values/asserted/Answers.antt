use Rattle.shade_typing.proofs.values.asserted.Goals as goal

pub returns-then-is_bool-clause-of : goal.returns-then-is_bool-clause-of
returns-then-is_bool-clause-of c = c.held.ensures.of c.args.known.now.types
