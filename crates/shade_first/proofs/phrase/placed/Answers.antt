use Rattle.shade_first.specs.Steps.{kind_of}
use Rattle.shade_first.proofs.Tokens.{placed_reads, placed_fails}
use Rattle.shade_first.proofs.phrase.placed.Goals as goal

pub returns-in-Some : goal.returns-in-Some
returns-in-Some c = placed_reads c.args.tokens.now c.args.from (kind_of c.args.step) c.in-Some.place c.in-Some.ensures.value

pub returns-in-None : goal.returns-in-None
returns-in-None c = placed_fails c.args.tokens.now c.args.from (kind_of c.args.step) c.requires c.in-None.ensures.value
