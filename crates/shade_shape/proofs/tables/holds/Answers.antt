use Rattle.std.proofs.Common.{arith, rules}
use Rattle.shade_shape.proofs.TableLaws.{found_at, none_more, none_all}
use Rattle.shade_shape.proofs.Tells.{refutes, confirms}
use Rattle.shade_shape.proofs.tables.holds.Goals as goal

pub returns-then-eq : goal.returns-then-eq
returns-then-eq c = confirms (found_at c.args.table.now.types c.types.number _ c.args.ty c.get.ensures.ty (search rules))

pub types-preserved : goal.types-preserved
types-preserved c = record {
  within = omega (arith, c.types-test.true);
  none = none_more c.args.table.now.types c.types.number _ c.args.ty c.get.ensures.ty (search rules) c.types.invariant.none;
}

pub returns : goal.returns
returns c = refutes (none_all c.args.table.now.types c.types.number c.args.ty (omega (arith, c.types-test.false, c.count-count.ensures.count)) c.types.invariant.none)
