use Rattle.std.proofs.Common.{◌≡◌, ◌-◌, ℕ, suc, arith, subst}
use Rattle.shade_flow.specs.Work.{Holds}
use Rattle.shade_flow.proofs.Members.{holds_more}
use Rattle.shade_flow.proofs.work.all_points.Goals as goal

pub left-preserved : goal.left-preserved
left-preserved c =
    let one_more : c.left.left ≡ suc (c.left.left - 1) = omega arith in
    let holds : Holds c.left.queue.items (suc (c.left.left - 1)) c.args.nodes = subst (λ (k : ℕ). Holds c.left.queue.items k c.args.nodes) one_more c.left.invariant.holds in
    record { holds = rw c.in_ok-push.ensures.items (holds_more c.left.queue.items (c.left.left - 1) c.args.nodes (omega (arith, c.left.invariant.low)) holds); low = omega (arith, c.left.invariant.low) }

pub returns : goal.returns
returns c = let none : c.left.left ≡ 0 = omega arith in subst (λ (k : ℕ). Holds c.left.queue.items k c.args.nodes) none c.left.invariant.holds
