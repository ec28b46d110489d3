use Rattle.std.proofs.Common.{◌≡◌, drop, map}
use Rattle.shade_core.specs.Behaviour.{behaviour, in_turn, joined}
use Rattle.shade_core.specs.Code.{code_of, part_code, parts_from}
use Rattle.shade_core.proofs.behaviour.+behaviour.Given as goal

abbrev pub invariant-list_behaviour-statements : goal.invariant-list_behaviour-statements
invariant-list_behaviour-statements l = in_turn l.so_far (behaviour (code_of (drop l.statement-index l.statement-items))) ≡ behaviour (code_of l.statement-items)

abbrev pub invariant-parts_behaviour-parts : goal.invariant-parts_behaviour-parts
invariant-parts_behaviour-parts l =
    joined l.so_far (behaviour (parts_from 0 0 (map part_code (drop l.part-index l.part-items)))) ≡ behaviour (parts_from 0 0 (map part_code l.part-items))
