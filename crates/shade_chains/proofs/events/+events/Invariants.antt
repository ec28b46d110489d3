use Rattle.std.proofs.Common.{◌≡◌, ◌++◌, map, drop}
use Rattle.shade_core.specs.Code.{code_of, part_code, parts_from}
use Rattle.shade_chains.specs.Events.{events}
use Rattle.shade_chains.proofs.events.+events.Given as goal

abbrev pub invariant-add_of_list-statements : goal.invariant-add_of_list-statements
invariant-add_of_list-statements l =
    l.out.items ++ events l.loops (code_of (drop l.statement-index l.statement-items)) ≡ l.initial.out.items ++ events l.loops (code_of l.statement-items)

abbrev pub invariant-add_of_parts-parts : goal.invariant-add_of_parts-parts
invariant-add_of_parts-parts l =
    l.out.items ++ events l.loops (parts_from 0 0 (map part_code (drop l.part-index l.part-items)))
    ≡ l.initial.out.items ++ events l.loops (parts_from 0 0 (map part_code l.part-items))
