use Rattle.std.proofs.Common.{◌≡◌, take}
use Rattle.shade_calls.proofs.names.copied.Given as goal

abbrev pub invariant-loop-ty : goal.invariant-loop-ty
invariant-loop-ty l = l.made ≡ take l.ty-index l.ty-items
