use Rattle.std.proofs.Common.{◌≡◌, ◌++◌, map, drop}
use Rattle.shade_report.specs.Sources.{list_sources, all_of, part_sources}
use Rattle.shade_report.proofs.source.+sources.Given as goal

abbrev pub invariant-add_list-loop-statement : goal.invariant-add_list-loop-statement
invariant-add_list-loop-statement l = l.out.items ++ list_sources (drop l.statement-index l.statement-items) ≡ l.initial.out.items ++ list_sources l.statement-items

abbrev pub invariant-add_parts-loop-part : goal.invariant-add_parts-loop-part
invariant-add_parts-loop-part l =
    l.out.items ++ all_of (map part_sources (drop l.part-index l.part-items)) ≡ l.initial.out.items ++ all_of (map part_sources l.part-items)
