use Rattle.std.proofs.Common.{arith, sym, subst}
use Rattle.shade_values.specs.Takes.{NamesAll}
use Rattle.shade_typed.proofs.AnswerLaws.{refutes, confirms}
use Rattle.shade_typed.proofs.PartLaws.{struct_stands}
use Rattle.shade_typed.proofs.SetLaws.{ids_of, named_first, named_none, named_more, named_all, named_long}
use Rattle.shade_typed.proofs.sets.are_members.Goals as goal

pub members-members-requires : goal.members-members-requires
members-members-requires c = rw c.table.ensures (rw c.types.ensures.same (struct_stands c.args.context.now.shader.types c.args.number c.types.ensures.sound c.requires))

pub returns-then-members-types : goal.returns-then-members-types
returns-then-members-types c =
    let own = rw c.types.ensures.same at (rw c.table.ensures at c.members-members.ensures) in
    refutes (λ h. absurd (omega (arith, named_long c.args.context.now.shader.types c.members-members.result.now c.args.types.now (subst (λ ms. NamesAll c.args.context.now.shader.types (ids_of ms) c.args.types.now) (sym own) h), c.if-members-types.true)))

pub loop-place-init : goal.loop-place-init
loop-place-init c = named_first c.args.context.now.shader.types c.members-members.result.now c.args.types.now

pub returns-then-not-is_member : goal.returns-then-not-is_member
returns-then-not-is_member c =
    let own = rw c.types.ensures.same at (rw c.table.ensures at c.members-members.ensures) in
    refutes (λ h. named_none c.args.context.now.shader.types c.members-members.result.now c.args.types.now c.loop-place.place _ c.is_member.result (omega (arith, c.loop-place-test.true, c.if-members-types.false)) c.loop-place-test.true c.is_member.ensures c.if-not-is_member.true c.loop-place.invariant (subst (λ ms. NamesAll c.args.context.now.shader.types (ids_of ms) c.args.types.now) (sym own) h))

pub loop-place-preserved : goal.loop-place-preserved
loop-place-preserved c = named_more c.args.context.now.shader.types c.members-members.result.now c.args.types.now c.loop-place.place _ c.loop-place-test.true (c.is_member.ensures.0 c.if-not-is_member.false) c.loop-place.invariant

pub returns : goal.returns
returns c =
    let own = rw c.types.ensures.same at (rw c.table.ensures at c.members-members.ensures) in
    confirms (subst (λ ms. NamesAll c.args.context.now.shader.types (ids_of ms) c.args.types.now) own (named_all c.args.context.now.shader.types c.members-members.result.now c.args.types.now c.loop-place.place (omega (arith, c.loop-place-test.false, c.if-members-types.false)) (omega (arith, c.loop-place-test.false)) c.loop-place.invariant))
