use Rattle.std.proofs.Common.{◌≡◌, map}
use Rattle.std.specs.BTreeSet.{contains}
use Rattle.std.specs.Cmp.Lexicographic.{slice_cmp}
use Rattle.std.specs.Ordering.{nat_cmp}
use Rattle.std.specs.Str.{bytes_eq}
use Rattle.shade_shape.proofs.DistinctLaws.{Differ, has}
use Rattle.shade_shape.proofs.distinct.are_distinct.Given as goal

abbrev pub invariant-names : goal.invariant-names
invariant-names l = record {
  differ : Differ (map (λ n. n.now) l.names) l.name-index;
  seen : (q : _) → contains (λ x y. slice_cmp nat_cmp x.now y.now) l.seen q ≡ has bytes_eq (map (λ n. n.now) l.names) l.name-index q.now;
}
