use Rattle.std.proofs.Common.{arith, ap, ◌∙◌, ◌∷◌, []}
use Rattle.shade_values.specs.declared.types.ShadeType.TheVariants.{Vector}
use Rattle.shade_typed.specs.Sets.{IsOne}
use Rattle.shade_typed.proofs.AnswerLaws.{holds, nowhere, only}
use Rattle.shade_typed.proofs.SetLaws.{swizzled, not_vector, past_parts}
use Rattle.shade_typed.proofs.sets.swizzled_type.Goals as goal

pub returns-in_default-clause-found : goal.returns-in_default-clause-found
returns-in_default-clause-found c = not_vector c.args.context.now.shader.types c.args.count c.args.letters c.args.types.now (λ m s e. nowhere (IsOne c.args.types.now) (Vector m s) c.in_default.ensures e)

pub returns-in_default-whole : goal.returns-in_default-whole
returns-in_default-whole c = record { found = not_vector c.args.context.now.shader.types c.args.count c.args.letters c.args.types.now (λ m s e. c.in_default-whole.not-Vector m s (only (IsOne c.args.types.now) c.in-Some.whole (Vector m s) c.in-Some.ensures e)); stands = tt }

pub returns-then-not-are_below-clause-found : goal.returns-then-not-are_below-clause-found
returns-then-not-are_below-clause-found c =
    let vector = holds (IsOne c.args.types.now) c.in-Some.whole c.in-Some.ensures ∙ ap (λ x. x ∷ []) c.in-Vector.is in
    past_parts c.args.context.now.shader.types c.args.count c.args.letters c.args.types.now c.in-Vector.parts c.in-Vector.scalar vector (λ h. let f = c.are_below.ensures.1 h in cc (f, c.if-not-are_below.true))

pub returns-clause-found : goal.returns-clause-found
returns-clause-found c =
    let vector = holds (IsOne c.args.types.now) c.in-Some.whole c.in-Some.ensures ∙ ap (λ x. x ∷ []) c.in-Vector.is in
    swizzled c.args.context.now.shader.types c.args.count c.args.letters c.args.types.now c.in-Vector.parts c.in-Vector.scalar _ vector (omega arith) (omega arith) (c.are_below.ensures.0 c.if-not-are_below.false) c.find.ensures.found
