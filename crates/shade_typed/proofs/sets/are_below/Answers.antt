use Rattle.std.proofs.Common.{◌<◌, subst, arith}
use Rattle.std.specs.Prelude.{All}
use Rattle.std.proofs.lemmas.List.{take_all}
use Rattle.std.proofs.lemmas.List.Elements.{All-more}
use Rattle.shade_typed.proofs.AnswerLaws.{confirms}
use Rattle.shade_typed.proofs.sets.are_below.Goals as goal

pub loop-letter-preserved : goal.loop-letter-preserved
loop-letter-preserved c = All-more (λ k. k < c.args.count) c.args.letters.now c.loop-letter.letter-index _ c.loop-letter-test.true c.loop-letter.invariant c.if-letter-count.false

pub returns : goal.returns
returns c = confirms (subst (All (λ k. k < c.args.count)) (take_all c.loop-letter.letter-index c.args.letters.now (omega arith)) c.loop-letter.invariant)
