use Rattle.std.proofs.Common.{◌<◌, ◌≤◌, ◌*◌, ◌^◌, map}
use Rattle.shade_values.specs.Kept.{layouts_of, layout_in}
use Rattle.shade_values.proofs.LayoutLaws.{Laying}
use Rattle.shade_values.proofs.layouts.layout_of_struct.Given as goal

abbrev pub invariant-loop-id : goal.invariant-loop-id
invariant-loop-id l =
    record {
      laying : Laying (map (λ m. layout_in (layouts_of l.entries) m.1) l.members) l.id-index l.end l.align;
      positive : 0 < l.align;
      near : l.align ≤ 16;
      short : l.end ≤ l.id-index * 2 ^ 33;
    }
