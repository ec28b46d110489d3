use Rattle.std.proofs.Common.{arith, rules}
use Rattle.std.proofs.lemmas.Grind.{common_steps}
use Rattle.std.proofs.lemmas.List.Folds.{list_any_more}
use Rattle.shade_shape.proofs.KeyLaws.{added_new, added_old, differ_all}
use Rattle.shade_shape.proofs.Tells.{refutes, confirms}
use Rattle.shade_shape.proofs.switches.all_differ.Goals as goal

pub returns-then-not-branch : goal.returns-then-not-branch
returns-then-not-branch c = refutes (added_old c.args.keys.now c.keys.key-index _ c.keys.seen _ c.keys-test.true c.in_ok-insert.ensures.added c.if-not-branch.true (search rules) c.keys.invariant.seen)

pub keys-preserved : goal.keys-preserved
keys-preserved c = record {
  differ = added_new c.args.keys.now c.keys.key-index _ c.keys.seen _ c.keys-test.true c.in_ok-insert.ensures.added c.if-not-branch.false (search rules) c.keys.invariant.seen c.keys.invariant.differ;
  seen = λ q. grind (arith, common_steps, list_any_more, c.keys.invariant.seen q);
}

pub returns : goal.returns
returns c = confirms (differ_all c.args.keys.now c.keys.key-index (omega (arith, c.keys-test.false)) c.keys.invariant.differ)
