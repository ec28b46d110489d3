use Rattle.std.proofs.Common.{◌<◌, ◌≤◌, length, arith, subst}
use Rattle.shade_cursor.proofs.DepthLaws.{known_on, none_deep}
use Rattle.shade_cursor.proofs.depths.first_deep.Goals as goal

pub tokens-preserved : goal.tokens-preserved
tokens-preserved c =
    let within : c.tokens.at < length c.args.pieces.now = omega arith in
    known_on c.args.pieces.now c.args.from c.tokens.at _ c.role_of-next.result c.tokens.walk c.settle.new.self c.step.new.self c.tokens.auto.at within c.tokens.invariant c.role_of-next.ensures c.settle.ensures c.in_ok-step.ensures (subst (λ w. w.inner.chain ≤ 1023) c.walk.view_is c.if-walk-gt-CHAIN.false) (subst (λ w. w.inner.depth ≤ 127) c.walk-in-tokens.view_is c.if-walk-gt-DEPTH.false)

pub returns-clause-deep : goal.returns-clause-deep
returns-clause-deep c = none_deep c.args.pieces.now c.args.from c.tokens.at c.tokens.walk c.tokens-test.false c.tokens.invariant
