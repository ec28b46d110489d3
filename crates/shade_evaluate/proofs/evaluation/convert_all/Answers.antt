use Rattle.std.proofs.Common.{◌∙◌, ◌<◌, arith, length}
use Rattle.shade_values.specs.Parts.{no_value}
use Rattle.shade_evaluate.proofs.TurnLaws.{asked_turn, same_length}
use Rattle.shade_evaluate.proofs.evaluation.convert_all.Goals as goal

pub loop-k-preserved : goal.loop-k-preserved
loop-k-preserved c =
    let now = c.loop-k.values in
    let k = c.loop-k.k in
    let within : k < length now = omega (arith, c.loop-k-test.true, c.len-k-end.ensures, c.loop-k.invariant.as_many) in
    record {
      converted = asked_turn now k no_value c.target.result c.in_ok-convert_at.ensures c.args.op c.args.to.now c.asked_at.result within c.asked_at.ensures c.target.ensures c.loop-k.invariant.converted;
      as_many = same_length now k no_value c.target.result c.in_ok-convert_at.ensures ∙ c.loop-k.invariant.as_many;
    }
