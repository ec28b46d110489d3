use Rattle.std.proofs.Common.{◌≡◌, map, take}
use Rattle.shade_const.specs.Constant.{part_of}
use Rattle.shade_const.proofs.constants.places_of.Given as goal

abbrev pub invariant-loop-expr : goal.invariant-loop-expr
invariant-loop-expr l = l.places.items ≡ map (λ e. (part_of e).place) (take l.expr-index l.exprs)
