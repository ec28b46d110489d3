use Rattle.std.proofs.Common.{◌≡◌, ◌++◌, drop, map}
use Rattle.shade_core.specs.Code.{part_code, parts_from}
use Rattle.shade_flow.specs.Steps.{part_begins}
use Rattle.shade_flow.proofs.steps.add_begins.Given as goal

abbrev pub invariant-parts : goal.invariant-parts
invariant-parts l =
    l.steps.items ++ part_begins l.number l.after (parts_from l.number 0 (map part_code (drop l.part-index l.parts))) ≡ l.initial.steps.items ++ part_begins l.number l.after (parts_from l.number 0 (map part_code l.parts))
