use Rattle.std.proofs.Common.{◌≡◌, map, take}
use Rattle.shade_shape.proofs.distinct.root_names.Given as goal

abbrev pub invariant-roots : goal.invariant-roots
invariant-roots l = map (λ n. n.now) l.names.items ≡ map (λ root. root.name) (take l.root-index l.roots)
