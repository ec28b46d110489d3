use Rattle.std.proofs.Common.{take}
use Rattle.std.specs.Prelude.{All}
use Rattle.shade_rules.specs.Aliases.{AreFree}
use Rattle.shade_rules.proofs.calls.aliases.Given as goal

abbrev pub invariant-functions : goal.invariant-functions
invariant-functions l = All (AreFree l.functions) (take l.function-index l.functions)
