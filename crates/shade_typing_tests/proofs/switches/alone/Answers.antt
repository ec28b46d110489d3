use Rattle.shade_typing_tests.proofs.switches.alone.Goals as goal

pub keep-requires : goal.keep-requires
keep-requires c = c.what_of.ensures c.in_ok-known.known.types
