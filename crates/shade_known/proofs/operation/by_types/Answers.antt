use Rattle.shade_known.proofs.Answering.{types_none, types_some}
use Rattle.shade_known.proofs.operation.by_types.Goals as goal

pub returns-in_default-clause-answer : goal.returns-in_default-clause-answer
returns-in_default-clause-answer c =
    rw c.no_overload.ensures (types_none c.args.known.now c.args.application c.args.operands.now c.in_ok-types.types.items c.deref.result.now c.in_ok-types.ensures.types c.deref.ensures.value c.in_default.ensures.refused)

pub returns-clause-answer : goal.returns-clause-answer
returns-clause-answer c =
    types_some c.args.known.now c.args.application c.args.operands.now c.in_ok-types.types.items c.deref.result.now c.in-Some.row c.by_value.result c.in_ok-types.ensures.types c.deref.ensures.value c.in-Some.ensures.best c.by_value.ensures.answer
