use Rattle.std.proofs.Common.{take}
use Rattle.std.specs.Prelude.{All}
use Rattle.shade_core.specs.Limits.{KeepsFunctionLimits}
use Rattle.shade_whole.proofs.outline.keep_function_limits.Given as goal

abbrev pub invariant-functions : goal.invariant-functions
invariant-functions l = All (KeepsFunctionLimits l.types) (take l.function-index l.functions)
