use Rattle.std.proofs.Common.{◌<◌, length, arith}
use Rattle.std.proofs.lemmas.Option.{slice_get-get_or}
use Rattle.shade_reach.proofs.LeastLaws.{first-is, none-more, none-all}
use Rattle.shade_reach.proofs.paths.first_at.Goals as goal

pub returns-then-is_at : goal.returns-then-is_at
returns-then-is_at c =
    let within : c.loop-node.node-index < length c.args.nodes.now = omega arith in
    first-is _ _ _ _ _ c.requires.ascending c.loop-node.invariant (slice_get-get_or c.args.nodes.now c.loop-node.node-index 0 within) (c.is_at.ensures.0 c.if-is_at.true)

pub loop-node-preserved : goal.loop-node-preserved
loop-node-preserved c =
    let within : c.loop-node.node-index < length c.args.nodes.now = omega arith in
    none-more _ _ _ _ _ c.loop-node.invariant (slice_get-get_or c.args.nodes.now c.loop-node.node-index 0 within) (λ m. cc (c.is_at.ensures.1 m, c.if-is_at.false))

pub unreachable-requires : goal.unreachable-requires
unreachable-requires c = none-all _ _ _ _ c.loop-node.invariant c.loop-node-test.false c.requires.some
