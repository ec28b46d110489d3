use Rattle.std.proofs.Common.{◌≡◌, length}
use Rattle.shade_rules.specs.Sets.{AddsNumbers}
use Rattle.shade_rules.proofs.NumberLaws.{HasBefore}
use Rattle.shade_rules.proofs.number_set.join.Given as goal

abbrev pub invariant-others : goal.invariant-others
invariant-others l = record {
  place : l.place ≡ l.other-index;
  long : length l.words.items ≡ length l.initial.words.items;
  gains : AddsNumbers l.initial.words.items l.words.items (HasBefore l.others l.other-index);
}
