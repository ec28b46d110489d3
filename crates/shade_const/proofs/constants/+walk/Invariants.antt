use Rattle.std.proofs.Common.{◌≡◌, map, drop}
use Rattle.shade_const.specs.Constant.{values_of, part_of}
use Rattle.shade_const.proofs.SideLaws.{behind}
use Rattle.shade_const.proofs.constants.+walk.Given as goal

abbrev pub invariant-all_values-loop-expr : goal.invariant-all_values-loop-expr
invariant-all_values-loop-expr l =
    behind l.values (values_of (map part_of (drop l.expr-index l.expr-items)) l.env) ≡ values_of (map part_of l.expr-items) l.env
