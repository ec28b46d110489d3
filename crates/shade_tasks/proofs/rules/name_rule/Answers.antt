use Rattle.shade_tasks.proofs.rules.name_rule.Goals as goal

pub returns-in-Argument-clause-of : goal.returns-in-Argument-clause-of
returns-in-Argument-clause-of c = c.listed.ensures.of c.args.known.now.types
