use Rattle.shade_steps.proofs.Layers.{then_on, of-Paren, of-Call, of-Template}
use Rattle.shade_steps.proofs.expressions.+steps.Goals as goal

pub add_steps-returns-in_ok-owns-in-Call : goal.add_steps-returns-in_ok-owns-in-Call
add_steps-returns-in_ok-owns-in-Call t c =
    then_on c.add-in-Call.result
    (λ h. of-Call c.args.e.now c.own_of-own.result c.args.under c.own_of-own.ensures _ _ _ {a = c.own_of-in-Call.result} {l = c.in_ok-owns-in-Call.field-0} c.args.out.now
    {o1 = c.add_steps-in-Call.new.out} {o2 = c.add_values.new.out} {o3 = c.add-in-Call.new.out} c.in-Call.is (rw c.get-in-Call-2.ensures at c.own_of-in-Call.ensures) c.in_ok-owns-in-Call.ensures
    (rw c.get-in-Call.ensures at c.in_ok-add_steps-in-Call.ensures) c.in_ok-add_values-in-Call.ensures h)
    c.add-in-Call.ensures

pub add_steps-returns-in_ok-owns-in-Template : goal.add_steps-returns-in_ok-owns-in-Template
add_steps-returns-in_ok-owns-in-Template t c =
    then_on c.add-in-Template.result
    (λ h. of-Template c.args.e.now c.own_of-own.result c.args.under c.own_of-own.ensures _ _ _ {l = c.in_ok-owns-in-Template.field-0} c.args.out.now
    {o1 = c.add_listed.new.out} {o2 = c.add-in-Template.new.out} c.in-Template.is c.in_ok-owns-in-Template.ensures c.in_ok-add_listed-in-Template.ensures h)
    c.add-in-Template.ensures

pub add_steps-returns-in_ok-add_operand-in-Paren : goal.add_steps-returns-in_ok-add_operand-in-Paren
add_steps-returns-in_ok-add_operand-in-Paren t c =
    then_on c.add-in-Paren.result
    (λ h. of-Paren c.args.e.now c.own_of-own.result c.args.under c.own_of-own.ensures c.in-Paren.inner {mine = c.own_of-in-Paren.result} c.args.out.now
    {o1 = c.add_operand-in-Paren.new.out} {o2 = c.add-in-Paren.new.out} c.in-Paren.is (rw c.get-in-Paren-2.ensures at c.own_of-in-Paren.ensures) (rw c.get-in-Paren.ensures at c.in_ok-add_operand-in-Paren.ensures) h)
    c.add-in-Paren.ensures
