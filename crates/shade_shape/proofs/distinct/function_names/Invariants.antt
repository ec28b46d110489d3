use Rattle.std.proofs.Common.{◌≡◌, map, take}
use Rattle.shade_shape.proofs.distinct.function_names.Given as goal

abbrev pub invariant-functions : goal.invariant-functions
invariant-functions l = map (λ n. n.now) l.names.items ≡ map (λ f. f.name) (take l.function-index l.functions)
