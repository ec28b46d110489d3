use Rattle.std.proofs.Common.{◌≡◌, ◌++◌, map, drop}
use Rattle.shade_core.specs.Code.{code_of, part_code, parts_from}
use Rattle.shade_core.specs.Standing.{by_itself, statements}
use Rattle.shade_shape.proofs.standing.+standing.Given as goal

abbrev pub invariant-add_list-statements : goal.invariant-add_list-statements
invariant-add_list-statements l =
    map (λ s. by_itself s.now) l.out.items ++ statements (code_of (drop l.statement-index l.statement-items))
    ≡ map (λ s. by_itself s.now) l.initial.out.items ++ statements (code_of l.statement-items)

abbrev pub invariant-add_parts-parts : goal.invariant-add_parts-parts
invariant-add_parts-parts l =
    map (λ s. by_itself s.now) l.out.items ++ statements (parts_from 0 0 (map part_code (drop l.part-index l.part-items)))
    ≡ map (λ s. by_itself s.now) l.initial.out.items ++ statements (parts_from 0 0 (map part_code l.part-items))
