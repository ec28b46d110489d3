use Rattle.std.proofs.Common.{ap, ◌∙◌, map}
use Rattle.shade_known.specs.Operates.{concrete}
use Rattle.shade_known.proofs.Answering.{again_none, again_some}
use Rattle.shade_known.proofs.operation.again.Goals as goal

pub returns-in_default-clause-answer : goal.returns-in_default-clause-answer
returns-in_default-clause-answer c =
    rw c.no_overload.ensures (again_none c.args.known.now c.args.application c.args.operands.now c.in_ok-types.types.items c.in_ok-settled.settled.items c.deref-2.result.now c.in_ok-types.ensures.types
    (c.in_ok-settled.ensures.types ∙ ap (map concrete) c.deref.ensures.value) c.deref-2.ensures.value c.in_default.ensures.refused)

pub returns-clause-answer : goal.returns-clause-answer
returns-clause-answer c =
    again_some c.args.known.now c.args.application c.args.operands.now c.in_ok-types.types.items c.in_ok-settled.settled.items c.deref-2.result.now c.in-Some.row c.without_value.result c.in_ok-types.ensures.types
    (c.in_ok-settled.ensures.types ∙ ap (map concrete) c.deref.ensures.value) c.deref-2.ensures.value c.in-Some.ensures.best c.without_value.ensures.answer
