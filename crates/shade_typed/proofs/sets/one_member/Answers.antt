use Rattle.shade_typed.specs.Sets.{IsOne}
use Rattle.shade_typed.proofs.AnswerLaws.{holds, nowhere}
use Rattle.shade_typed.proofs.SetLaws.{one_member, not_one, one_held}
use Rattle.shade_typed.proofs.sets.one_member.Goals as goal

pub returns-in_default-clause-found : goal.returns-in_default-clause-found
returns-in_default-clause-found c = not_one c.args.context.now.shader.types c.args.place c.args.types.now (λ whole e. nowhere (IsOne c.args.types.now) whole c.in_default.ensures e)

pub member_type-requires : goal.member_type-requires
member_type-requires c = one_held c.args.context.now.shader.types c.args.types.now c.in-Some.whole c.requires (holds (IsOne c.args.types.now) c.in-Some.whole c.in-Some.ensures)

pub returns-clause-found : goal.returns-clause-found
returns-clause-found c = one_member c.args.context.now.shader.types c.args.place c.args.types.now c.in-Some.whole _ (holds (IsOne c.args.types.now) c.in-Some.whole c.in-Some.ensures) c.member_type.ensures.found
