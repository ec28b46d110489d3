use Rattle.std.proofs.Common.{◌≡◌, take}
use Rattle.std.specs.BTreeSet.{contains}
use Rattle.std.specs.Ordering.{int_cmp, int_eq}
use Rattle.std.specs.List.{list_any}
use Rattle.shade_shape.proofs.KeyLaws.{Differ}
use Rattle.shade_shape.proofs.switches.all_differ.Given as goal

abbrev pub invariant-keys : goal.invariant-keys
invariant-keys l = record {
  differ : Differ l.keys l.key-index;
  seen : (q : _) → contains int_cmp l.seen q ≡ list_any (λ k. int_eq k q) (take l.key-index l.keys);
}
