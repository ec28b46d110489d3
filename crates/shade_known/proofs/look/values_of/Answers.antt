use Rattle.std.proofs.Common.{ap, ◌∙◌, ◌++◌, ◌∷◌, []}
use Rattle.shade_known.proofs.Turns.{values_turn, values_none}
use Rattle.shade_known.proofs.look.values_of.Goals as goal

pub loop-operand-preserved : goal.loop-operand-preserved
loop-operand-preserved c =
    values_turn c.args.facts.now c.args.operands.now c.loop-operand.operand-index _ c.loop-operand.made c.loop-operand-test.true c.in-Some.value.now c.in-Some.ensures
    (c.in_ok-push.ensures.ok ∙ ap (λ z. c.loop-operand.made ++ z ∷ []) c.in_ok-copy_value.ensures) c.loop-operand.invariant

pub returns-in_default : goal.returns-in_default
returns-in_default c = values_none c.args.facts.now c.args.operands.now c.loop-operand.operand-index _ c.loop-operand.made c.loop-operand-test.true c.in_default.ensures c.loop-operand.invariant
