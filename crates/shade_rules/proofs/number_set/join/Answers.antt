use Rattle.std.proofs.Common.{ap, ◌+◌, rules}
use Rattle.shade_rules.proofs.NumberLaws.{joined_next, joined_long}
use Rattle.shade_rules.proofs.number_set.join.Goals as goal

pub others-preserved : goal.others-preserved
others-preserved c = record {
  place = ap (λ n. n + 1) c.others.invariant.place;
  long = joined_long c.others.words.items c.args.words.now.items c.others.place _ c.others.invariant.long;
  gains = joined_next c.args.words.now.items c.others.words.items c.args.others.now c.others.place c.others.other-index c.index_mut.result.now c.others.invariant.place c.others-test.true c.requires c.others.invariant.long
      (search rules) c.others.invariant.gains;
}
