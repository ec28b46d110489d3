use Rattle.std.proofs.Common.{rules, ◌∙◌, FitsSigned, w64}
use Rattle.shade_values.proofs.NumberLaws.{leaf_is, wrapped-add, wrapped-sub, wrapped-mul}
use Rattle.shade_values.proofs.scalars.leaf.Goals as goal

pub returns-in-Add : goal.returns-in-Add
returns-in-Add c =
    let f : FitsSigned w64 c.args.left.number = search rules in
    let g : FitsSigned w64 c.args.right.number = search rules in
    rw c.in-Add.is (leaf_is _ _ _ c.kept.ensures.scalar (c.kept.ensures.number ∙ wrapped-add _ c.args.left.number c.args.right.number f g))

pub returns-in-Subtract : goal.returns-in-Subtract
returns-in-Subtract c =
    let f : FitsSigned w64 c.args.left.number = search rules in
    let g : FitsSigned w64 c.args.right.number = search rules in
    rw c.in-Subtract.is (leaf_is _ _ _ c.kept-in-Subtract.ensures.scalar (c.kept-in-Subtract.ensures.number ∙ wrapped-sub _ c.args.left.number c.args.right.number f g))

pub returns-in-Multiply : goal.returns-in-Multiply
returns-in-Multiply c =
    let f : FitsSigned w64 c.args.left.number = search rules in
    let g : FitsSigned w64 c.args.right.number = search rules in
    rw c.in-Multiply.is (leaf_is _ _ _ c.kept-in-Multiply.ensures.scalar (c.kept-in-Multiply.ensures.number ∙ wrapped-mul _ c.args.left.number c.args.right.number f g))
