use Rattle.std.proofs.Common.{◌≡◌, ◌++◌, drop}
use Rattle.std.specs.List.{flat_map}
use Rattle.shade_steps.specs.Declarations.{requires_steps}
use Rattle.shade_steps.proofs.declarations.add_requires.Given as goal

abbrev pub invariant-loop-name : goal.invariant-loop-name
invariant-loop-name l = l.out ++ flat_map requires_steps (drop l.name-index l.listed) ≡ l.initial.out ++ flat_map requires_steps l.listed
