use Rattle.std.proofs.Common.{arith}
use Rattle.shade_shape.proofs.BoundLaws.{few_more, few_all, few_each, struct_known}
use Rattle.shade_shape.proofs.Tells.{refutes, confirms}
use Rattle.shade_shape.proofs.limits.keeps_member_limit.Goals as goal

pub keeps_members-requires : goal.keeps_members-requires
keeps_members-requires c = struct_known c.args.table.now c.types.number _ c.get.ensures.sound c.get.ensures.ty

pub returns-then-not-keeps_members : goal.returns-then-not-keeps_members
returns-then-not-keeps_members c =
    refutes (λ all. absurd (let h = c.keeps_members.ensures.1 (few_each c.args.table.now c.types.number _ c.get.ensures.sound c.get.ensures.ty all) in cc (h, c.if-not-keeps_members.true)))

pub types-preserved : goal.types-preserved
types-preserved c = record {
  within = omega (arith, c.types-test.true);
  few = few_more c.args.table.now c.types.number _ c.get.ensures.ty (c.keeps_members.ensures.0 c.if-not-keeps_members.false) c.types.invariant.few;
}

pub returns : goal.returns
returns c = confirms (few_all c.args.table.now c.types.number c.count-count.ensures.sound (omega (arith, c.types-test.false, c.count-count.ensures.count)) c.types.invariant.few)
