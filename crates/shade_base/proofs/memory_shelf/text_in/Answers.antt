use Rattle.shade_base.proofs.TextLemmas.{text_of-entries, items-copied}
use Rattle.shade_base.proofs.memory_shelf.text_in.Goals as goal

pub returns : goal.returns
returns c = rw (← text_of-entries c.args.name.now c.args.texts.now.entries, ← c.get.ensures.value) (items-copied c.get.result)
