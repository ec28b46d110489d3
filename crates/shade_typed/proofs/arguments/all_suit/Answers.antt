use Rattle.std.proofs.Common.{refl, arith}
use Rattle.shade_typed.proofs.AnswerLaws.{refutes, confirms}
use Rattle.shade_typed.proofs.ArgumentLaws.{suit_first, suit_next, suit_stop, suit_all, suit_long}
use Rattle.shade_typed.proofs.arguments.all_suit.Goals as goal

pub returns-then-arguments-params : goal.returns-then-arguments-params
returns-then-arguments-params c = refutes (λ h. absurd (omega (arith, suit_long c.args.context.now c.args.arguments.now c.args.params.now h, c.if-arguments-params.true)))

pub arguments-init : goal.arguments-init
arguments-init c = record { at = refl; suit = suit_first c.args.context.now c.args.arguments.now c.args.params.now }

pub returns-then-not-suits : goal.returns-then-not-suits
returns-then-not-suits c = refutes (suit_stop c.args.context.now c.args.arguments.now c.args.params.now c.arguments.place c.arguments.argument-index c.argument-item.result _ c.suits.result c.arguments.invariant.at c.arguments-test.true c.argument-item.is c.if-arguments-params.false c.suits.ensures c.if-not-suits.true c.arguments.invariant.suit)

pub arguments-preserved : goal.arguments-preserved
arguments-preserved c = record {
  at = omega (arith, c.arguments.invariant.at);
  suit = suit_next c.args.context.now c.args.arguments.now c.args.params.now c.arguments.place c.arguments.argument-index c.argument-item.result _ c.suits.result c.arguments.invariant.at c.arguments-test.true c.argument-item.is c.if-arguments-params.false c.suits.ensures c.if-not-suits.false c.arguments.invariant.suit;
}

pub returns : goal.returns
returns c = confirms (suit_all c.args.context.now c.args.arguments.now c.args.params.now c.arguments.place (omega (arith, c.arguments.invariant.at, c.arguments-test.false)) (omega (arith, c.arguments.invariant.at, c.arguments-test.false, c.if-arguments-params.false)) c.arguments.invariant.suit)
