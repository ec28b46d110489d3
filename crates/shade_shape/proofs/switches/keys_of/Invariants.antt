use Rattle.std.proofs.Common.{◌≡◌, ◌++◌, drop, map}
use Rattle.std.specs.List.{flat_map}
use Rattle.shade_core.specs.Standing.{case_of}
use Rattle.shade_shape.proofs.switches.keys_of.Given as goal

abbrev pub invariant-parts : goal.invariant-parts
invariant-parts l = l.keys.items ++ flat_map (λ case. case.keys) (map case_of (drop l.part-index l.parts)) ≡ flat_map (λ case. case.keys) (map case_of l.parts)
