use Rattle.std.proofs.Common.{◌≡◌, drop, map}
use Rattle.shade_core.specs.Code.{code_of, part_code, parts_from}
use Rattle.shade_core.specs.Scopes.{continues}
use Rattle.shade_shape.proofs.scopes.+continues.Given as goal

abbrev pub invariant-list_continues-statements : goal.invariant-list_continues-statements
invariant-list_continues-statements l = continues (code_of (drop l.statement-index l.statement-items)) ≡ continues (code_of l.statement-items)

abbrev pub invariant-parts_continue-parts : goal.invariant-parts_continue-parts
invariant-parts_continue-parts l = continues (parts_from 0 0 (map part_code (drop l.part-index l.part-items))) ≡ continues (parts_from 0 0 (map part_code l.part-items))
