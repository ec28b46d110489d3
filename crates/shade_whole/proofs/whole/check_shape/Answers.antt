use Rattle.std.proofs.Common.{ap, ◌∙◌, length}
use Rattle.std.proofs.lemmas.Result.{IfOk-weaker}
use Rattle.shade_whole.proofs.CallLaws.{calls_stand}
use Rattle.shade_whole.proofs.ShapeLaws.{outlined, tells}
use Rattle.shade_whole.proofs.Tells.{refutes}
use Rattle.shade_whole.proofs.whole.check_shape.Goals as goal

pub returns-then-not-branch : goal.returns-then-not-branch
returns-then-not-branch c = refutes (λ shape. let h = c.in_ok-is_outlined.ensures.1 (outlined c.args.module.now shape) in cc (h, c.if-not-branch.true))

pub bytes_of_bodies-requires-clause-signatures : goal.bytes_of_bodies-requires-clause-signatures
bytes_of_bodies-requires-clause-signatures c =
    let outline = c.in_ok-is_outlined.ensures.0 c.if-not-branch.false in
    rw c.in_ok-types.ensures outline.declared.signatures

pub returns-in_default : goal.returns-in_default
returns-in_default c = refutes (λ shape. (rw c.in_default.is at c.in_ok-bytes.ensures.none) shape.values shape.bodies)

pub keeps_chains-requires-clause-few : goal.keeps_chains-requires-clause-few
keeps_chains-requires-clause-few c = (c.in_ok-is_outlined.ensures.0 c.if-not-branch.false).few.functions

pub keeps_chains-requires-clause-long : goal.keeps_chains-requires-clause-long
keeps_chains-requires-clause-long c =
    let kept = rw c.in-Some.is at c.in_ok-bytes.ensures.some in
    ap length c.deref-2.ensures.value ∙ kept.long

pub keeps_chains-requires-clause-stand : goal.keeps_chains-requires-clause-stand
keeps_chains-requires-clause-stand c =
    let kept = rw c.in-Some.is at c.in_ok-bytes.ensures.some in
    calls_stand c.args.module.now kept.values kept.bodies

pub returns : goal.returns
returns c =
    let outline = c.in_ok-is_outlined.ensures.0 c.if-not-branch.false in
    let kept = rw c.in-Some.is at c.in_ok-bytes.ensures.some in
    IfOk-weaker c.keeps_chains.result _ _ (λ b h. tells c.args.module.now c.in-Some.bytes.items b outline kept h) (rw c.deref-2.ensures.value at c.keeps_chains.ensures)
