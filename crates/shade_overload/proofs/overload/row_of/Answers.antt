use Rattle.std.proofs.Common.{◌≡◌, Some, sym, ◌∙◌}
use Rattle.std.specs.Option.{option_or}
use Rattle.shade_overload.specs.Patterns.{operator, function}
use Rattle.shade_overload.proofs.RowLaws.{pattern_chosen, atomic_chosen}
use Rattle.shade_overload.proofs.overload.row_of.Goals as goal

pub returns-in-Some-clause-best : goal.returns-in-Some-clause-best
returns-in-Some-clause-best c =
    let e : option_or (operator c.args.builtin) (function c.args.builtin) ≡ Some (c.in-Some.op, c.in-Some.pattern) = cc (c.or.ensures, c.operator.ensures, c.function.ensures, c.in-Some.is) in
    pattern_chosen c.args.table.now c.args.builtin c.in-Some.op c.in-Some.pattern _ c.args.types.now _ e (rw c.first_choice.ensures at c.chosen.ensures)

pub returns-in-Some-atomic-clause-best : goal.returns-in-Some-atomic-clause-best
returns-in-Some-atomic-clause-best c =
    atomic_chosen c.args.table.now c.args.builtin c.in-Some-atomic.op c.in-Some-atomic.atomics c.args.types.now _ (sym c.atomic.ensures ∙ c.in-Some-atomic.is) c.atomic_row.ensures

pub returns-in-Vec2-clause-best : goal.returns-in-Vec2-clause-best
returns-in-Vec2-clause-best c = rw c.in-Vec2.is (c.vector_row.ensures c.args.table.now)

pub returns-in-Vec3-clause-best : goal.returns-in-Vec3-clause-best
returns-in-Vec3-clause-best c = rw c.in-Vec3.is (c.vector_row-in-Vec3.ensures c.args.table.now)

pub returns-in-Vec4-clause-best : goal.returns-in-Vec4-clause-best
returns-in-Vec4-clause-best c = rw c.in-Vec4.is (c.vector_row-in-Vec4.ensures c.args.table.now)

pub returns-in-Bitcast-clause-best : goal.returns-in-Bitcast-clause-best
returns-in-Bitcast-clause-best c = rw c.in-Bitcast.is (c.bitcast_row.ensures c.args.table.now)
