use Rattle.std.proofs.Common.{◌≡◌, map, take}
use Rattle.shade_lane.specs.Lane.{param_value as param_value_of}
use Rattle.shade_lane.proofs.values.param_values.Given as goal

-- the values so far
abbrev pub invariant-loop-param : goal.invariant-loop-param
invariant-loop-param l = l.values.items ≡ map (param_value_of l.builtins) (take l.param-index l.params)
