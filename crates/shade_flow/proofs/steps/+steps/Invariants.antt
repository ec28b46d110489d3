use Rattle.std.proofs.Common.{◌≡◌, ◌++◌, drop, map}
use Rattle.shade_core.specs.Code.{code_of, part_code, parts_from}
use Rattle.shade_flow.specs.Steps.{steps_of}
use Rattle.shade_flow.proofs.steps.+steps.Given as goal

abbrev pub invariant-add_list-statements : goal.invariant-add_list-statements
invariant-add_list-statements l =
    (l.index ≡ l.statement-index)
    × (l.steps.items ++ steps_of l.next l.breaks l.continues (code_of (drop l.statement-index l.all)) ≡ l.initial.steps.items ++ steps_of l.next l.breaks l.continues (code_of l.all))

abbrev pub invariant-add_parts-parts : goal.invariant-add_parts-parts
invariant-add_parts-parts l =
    l.steps.items ++ steps_of l.after l.after l.continues (parts_from l.number 0 (map part_code (drop l.part-index l.part-items))) ≡ l.initial.steps.items ++ steps_of l.after l.after l.continues (parts_from l.number 0 (map part_code l.part-items))
