use Rattle.std.proofs.Common.{◌≡◌, subst, arith}
use Rattle.std.specs.Prelude.{All}
use Rattle.std.proofs.lemmas.List.{take_all}
use Rattle.std.proofs.lemmas.List.Elements.{All-more}
use Rattle.shade_typed.proofs.AnswerLaws.{confirms}
use Rattle.shade_typed.proofs.sets.are_all.Goals as goal

pub loop-other-preserved : goal.loop-other-preserved
loop-other-preserved c = All-more (λ other. other ≡ c.args.ty) c.args.types.now c.loop-other.other-index _ c.loop-other-test.true c.loop-other.invariant (c.is_same.ensures.0 c.if-not-is_same.false)

pub returns : goal.returns
returns c = confirms (subst (All (λ other. other ≡ c.args.ty)) (take_all c.loop-other.other-index c.args.types.now (omega arith)) c.loop-other.invariant)
