use Rattle.std.proofs.Common.{sym, ap, ◌∙◌, ◌+◌, arith}
use Rattle.shade_rules.proofs.ScanLaws.{item_at, none_next, no_later}
use Rattle.shade_rules.proofs.aliasing.first_later.Goals as goal

pub arguments-preserved : goal.arguments-preserved
arguments-preserved c = record {
  place = ap (λ n. n + 1) c.arguments.invariant.place;
  none = none_next c.args.row.now c.args.args.now c.args.number c.args.base c.arguments.at c.arg-item.result c.arguments.invariant.none
      (item_at c.args.args.now c.arguments.at c.arguments.arg-index c.arg-item.result c.arguments.invariant.place c.arguments-test.true c.arg-item.is) (sym c.is_later.ensures ∙ c.if-is_later.false);
}

pub returns : goal.returns
returns c = no_later c.args.row.now c.args.args.now c.args.number c.args.base c.arguments.at (omega (arith, c.arguments-test.false, c.arguments.invariant.place)) c.arguments.invariant.none
