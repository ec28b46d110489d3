use Rattle.std.proofs.Common.{arith}
use Rattle.shade_typed.proofs.AnswerLaws.{refutes, confirms}
use Rattle.shade_typed.proofs.ActLaws.{keys_more, keys_none, keys_all}
use Rattle.shade_typed.proofs.acts.are_all_keys.Goals as goal

pub returns-then-not-are_keys : goal.returns-then-not-are_keys
returns-then-not-are_keys c =
    let tells = rw c.as_slice.ensures at c.are_keys.ensures in
    refutes (keys_none c.args.scalar c.args.parts.now c.parts.part-index c.part-item.result c.parts-test.true c.part-item.is (λ h. let f = tells.1 h in cc (f, c.if-not-are_keys.true)))

pub parts-preserved : goal.parts-preserved
parts-preserved c =
    let tells = rw c.as_slice.ensures at c.are_keys.ensures in
    keys_more c.args.scalar c.args.parts.now c.parts.part-index c.part-item.result c.parts-test.true c.part-item.is (tells.0 c.if-not-are_keys.false) c.parts.invariant

pub returns : goal.returns
returns c = confirms (keys_all c.args.scalar c.args.parts.now c.parts.part-index (omega (arith, c.parts-test.false)) c.parts.invariant)
