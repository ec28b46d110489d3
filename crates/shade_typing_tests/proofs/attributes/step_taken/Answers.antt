use Rattle.shade_typing_tests.proofs.attributes.step_taken.Goals as goal

pub keep-requires : goal.keep-requires
keep-requires c = c.in_ok-found-in-Attribute.ensures.of c.args.known.now.types
