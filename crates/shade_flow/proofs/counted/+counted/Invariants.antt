use Rattle.std.proofs.Common.{◌≡◌, drop, map}
use Rattle.shade_core.specs.Code.{code_of, part_code, parts_from}
use Rattle.shade_flow.specs.Counted.{are_counted}
use Rattle.shade_flow.proofs.counted.+counted.Given as goal

abbrev pub invariant-list_is_counted-statements : goal.invariant-list_is_counted-statements
invariant-list_is_counted-statements l = are_counted (code_of (drop l.statement-index l.statement-items)) ≡ are_counted (code_of l.statement-items)

abbrev pub invariant-parts_are_counted-parts : goal.invariant-parts_are_counted-parts
invariant-parts_are_counted-parts l = are_counted (parts_from 0 0 (map part_code (drop l.part-index l.part-items))) ≡ are_counted (parts_from 0 0 (map part_code l.part-items))
