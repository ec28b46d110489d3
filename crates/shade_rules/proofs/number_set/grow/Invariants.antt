use Rattle.std.proofs.Common.{◌≡◌, ℕ, length}
use Rattle.shade_rules.specs.Sets.{word_at}
use Rattle.shade_rules.proofs.number_set.grow.Given as goal

abbrev pub invariant-loop : goal.invariant-loop
invariant-loop l = record {
  long : length l.words.items ≡ l.counter;
  same : (k : ℕ) → word_at l.words.items k ≡ word_at l.initial.words.items k;
}
