use Rattle.std.proofs.Common.{◌≡◌, map, take}
use Rattle.shade_steps.specs.Declarations.{mark_of}
use Rattle.shade_steps.proofs.declarations.marks_of.Given as goal

abbrev pub invariant-loop-attr : goal.invariant-loop-attr
invariant-loop-attr l = l.made ≡ map mark_of (take l.attr-index l.attr-items)
