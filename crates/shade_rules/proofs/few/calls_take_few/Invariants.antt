use Rattle.std.proofs.Common.{◌≡◌, drop}
use Rattle.std.specs.List.{list_all}
use Rattle.shade_rules.specs.Few.{calls_take_few}
use Rattle.shade_rules.proofs.few.calls_take_few.Given as goal

abbrev pub invariant-functions : goal.invariant-functions
invariant-functions l = list_all calls_take_few l.function-items ≡ list_all calls_take_few (drop l.function-index l.function-items)
