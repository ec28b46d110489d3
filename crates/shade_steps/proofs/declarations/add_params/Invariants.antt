use Rattle.std.proofs.Common.{◌≡◌, ◌++◌, drop}
use Rattle.std.specs.List.{flat_map}
use Rattle.shade_steps.specs.Declarations.{param_steps}
use Rattle.shade_steps.proofs.declarations.add_params.Given as goal

abbrev pub invariant-loop-param : goal.invariant-loop-param
invariant-loop-param l =
    l.out ++ flat_map (param_steps l.names l.position) (drop l.param-index l.param-items) ≡ l.initial.out ++ flat_map (param_steps l.names l.position) l.param-items
