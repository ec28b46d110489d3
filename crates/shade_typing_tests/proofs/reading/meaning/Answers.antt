use Rattle.shade_typing_tests.proofs.Numbered.{numbered}
use Rattle.shade_typing_tests.proofs.reading.meaning.Goals as goal

pub resolve-requires : goal.resolve-requires
resolve-requires c =
    numbered c.args.tokens.now.text _ c.args.tokens.now.tokens _ c.in-Ok-parse.ensures (rw c.text-text.ensures.text at c.text-text.utf8) c.text-text.ensures.tokens c.text-text.ensures.small
