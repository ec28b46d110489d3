use Rattle.std.proofs.Common.{◌≡◌, suc, ◌+◌, ◌<◌, length, arith}
use Rattle.shade_lex.proofs.ScanNext.{scan-step, scan-can, scan-end}
use Rattle.shade_lex.proofs.scan.closers_of.Goals as goal

pub step-requires-clause-can : goal.step-requires-clause-can
step-requires-clause-can c = let within : c.loop-at.at < length c.args.roles.now = omega arith in scan-can _ _ _ c.loop-at.invariant within

pub loop-at-preserved : goal.loop-at-preserved
loop-at-preserved c =
    let within : c.loop-at.at < length c.args.roles.now = omega arith in
    let more : c.loop-at.at + 1 ≡ suc c.loop-at.at = omega arith in
    scan-step _ _ _ _ _ c.loop-at.invariant within more c.in_ok-step.ensures

pub returns : goal.returns
returns c =
    let all : c.loop-at.at ≡ length c.args.roles.now = omega arith in
    rw c.into_closers.ensures (scan-end _ _ _ c.loop-at.invariant all)
