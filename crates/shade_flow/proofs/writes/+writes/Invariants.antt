use Rattle.std.proofs.Common.{◌≡◌, ◌++◌, drop, map}
use Rattle.shade_core.specs.Code.{code_of, part_code, parts_from}
use Rattle.shade_flow.specs.Writes.{writes_of}
use Rattle.shade_flow.proofs.writes.+writes.Given as goal

abbrev pub invariant-add_list-statements : goal.invariant-add_list-statements
invariant-add_list-statements l = l.writes.items ++ writes_of (code_of (drop l.statement-index l.statement-items)) ≡ l.initial.writes.items ++ writes_of (code_of l.statement-items)

abbrev pub invariant-add_parts-parts : goal.invariant-add_parts-parts
invariant-add_parts-parts l = l.writes.items ++ writes_of (parts_from l.number 0 (map part_code (drop l.part-index l.part-items))) ≡ l.initial.writes.items ++ writes_of (parts_from l.number 0 (map part_code l.part-items))
