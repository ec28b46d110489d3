use Rattle.std.proofs.Common.{take}
use Rattle.std.specs.Prelude.{All}
use Rattle.shade_core.specs.HasShape.{IsSignature}
use Rattle.shade_whole.proofs.outline.are_signatures.Given as goal

abbrev pub invariant-functions : goal.invariant-functions
invariant-functions l = All (IsSignature l.types) (take l.function-index l.functions)
