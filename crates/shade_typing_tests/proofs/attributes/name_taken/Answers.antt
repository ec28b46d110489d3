use Rattle.shade_typing_tests.proofs.attributes.name_taken.Goals as goal

pub keep-requires : goal.keep-requires
keep-requires c = c.in-Some-type_word.ensures c.args.known.now.types
