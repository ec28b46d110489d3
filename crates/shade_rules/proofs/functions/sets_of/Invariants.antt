use Rattle.std.proofs.Common.{◌≡◌, map, take}
use Rattle.shade_rules.specs.Findings.{set_of}
use Rattle.shade_rules.proofs.functions.sets_of.Given as goal

abbrev pub invariant-found : goal.invariant-found
invariant-found l = l.sets.items ≡ map set_of (take l.finding-index l.found)
