use Rattle.std.proofs.Common.{◌<◌, ◌≤◌, length, arith, subst}
use Rattle.shade_parse.proofs.NestingLaws.{known_on, none_nested}
use Rattle.shade_parse.proofs.nesting.first_nested.Goals as goal

pub tokens-preserved : goal.tokens-preserved
tokens-preserved c =
    let within : c.tokens.at < length c.args.pieces.now = omega arith in
    known_on c.args.pieces.now c.tokens.at _ c.turn_of-next.result c.tokens.walk c.settle.new.self c.step.new.self within c.tokens.invariant c.turn_of-next.ensures c.settle.ensures
    c.in_ok-step.ensures (subst (λ w. w.inner.arms ≤ 1023) c.walk.view_is c.if-walk-gt-ARMS.false) (subst (λ w. w.inner.depth ≤ 127) c.walk-in-tokens.view_is c.if-walk-gt-DEPTH.false)

pub returns-clause-nested : goal.returns-clause-nested
returns-clause-nested c = none_nested c.args.pieces.now c.tokens.at c.tokens.walk c.tokens-test.false c.tokens.invariant
