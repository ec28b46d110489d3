use Rattle.std.proofs.Common.{◌≡◌, length, arith, subst}
use Rattle.shade_overload.proofs.Conversions.{same_length, become_all, become_here, become_more, refutes, confirms, BecomeBelow}
use Rattle.shade_overload.proofs.conversion.all_become.Goals as goal

pub returns-then-from-len : goal.returns-then-from-len
returns-then-from-len c = refutes (λ h. omega (arith, same_length _ _ h))

pub returns-then-not-becomes_at : goal.returns-then-not-becomes_at
returns-then-not-becomes_at c =
    refutes (λ h. absurd (let at = c.becomes_at.ensures.1 (become_here _ _ _ _ h c.loop-place-test.true) in cc (at, c.if-not-becomes_at.true)))

pub loop-place-preserved : goal.loop-place-preserved
loop-place-preserved c = become_more _ _ _ _ c.loop-place.invariant c.loop-place-test.true (c.becomes_at.ensures.0 c.if-not-becomes_at.false)

pub returns : goal.returns
returns c =
    let e : c.loop-place.place ≡ length c.args.from.now = omega arith in
    confirms (become_all _ _ (omega arith) (subst (λ n. BecomeBelow n c.args.from.now c.args.to.now) e c.loop-place.invariant))
