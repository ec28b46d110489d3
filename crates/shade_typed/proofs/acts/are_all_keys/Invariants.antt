use Rattle.std.proofs.Common.{take, map}
use Rattle.std.specs.Prelude.{All}
use Rattle.shade_core.specs.Fits.{IsKey}
use Rattle.shade_core.specs.Standing.{case_of}
use Rattle.shade_typed.proofs.acts.are_all_keys.Given as goal

abbrev pub invariant-parts : goal.invariant-parts
invariant-parts l = All (λ case. All (IsKey l.scalar) case.keys) (take l.part-index (map case_of l.parts))
