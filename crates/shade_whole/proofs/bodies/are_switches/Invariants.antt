use Rattle.std.proofs.Common.{take}
use Rattle.std.specs.Prelude.{All}
use Rattle.shade_whole.proofs.BodyLaws.{IsSwitchBy, standings}
use Rattle.shade_whole.proofs.bodies.are_switches.Given as goal

abbrev pub invariant-statements : goal.invariant-statements
invariant-statements l = All IsSwitchBy (take l.statement-index (standings l.listed))
