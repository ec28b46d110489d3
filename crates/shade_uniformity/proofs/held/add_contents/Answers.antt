use Rattle.std.proofs.Common.{arith, ap, ◌+◌, length}
use Rattle.shade_uniformity.proofs.AddLaws.{contents_all, contents_none, contents_turn}
use Rattle.shade_uniformity.proofs.held.add_contents.Goals as goal

pub params-preserved : goal.params-preserved
params-preserved c = record {
  count = ap (λ n. n + 1) c.params.invariant.count;
  out = contents_turn c.args.function.now c.args.statement c.params.number _ _ _ c.params.invariant.out c.in_ok-add_held.ensures;
}

pub returns : goal.returns
returns c =
    contents_all c.args.function.now c.args.statement c.params.number _ _ (omega (arith, c.params-test.false, c.params.invariant.count, ap length c.as_slice-param-items.ensures)) c.params.invariant.out
