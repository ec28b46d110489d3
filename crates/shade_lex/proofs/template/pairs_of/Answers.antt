use Rattle.shade_lex.proofs.Turns.{pairs_turn}
use Rattle.shade_lex.proofs.template.pairs_of.Goals as goal

pub loop-at-preserved : goal.loop-at-preserved
loop-at-preserved c =
    pairs_turn c.args.tokens.now c.args.closers.now c.loop-at.at _ c.loop-at.pairs.items c.add_pair.new.pairs.items _ c.loop-at-test.true c.in_ok-add_pair.ensures c.loop-at.invariant
