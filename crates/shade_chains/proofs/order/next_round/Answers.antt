use Rattle.std.proofs.Common.{sym, ap, ◌∙◌, length, arith}
use Rattle.shade_chains.proofs.OrderLaws.{known_at, one_longer, row_here, round_placed_at, round_waits_at}
use Rattle.shade_chains.proofs.order.next_round.Goals as goal
use Rattle.shade_chains.proofs.order.next_round.Goals.{then-are_placed+in_ok-place, else-are_placed+in_ok-push}

pub waiting-preserved : goal.waiting-preserved
waiting-preserved c =
    let known = known_at _ c.args.rows.now c.args.waiting.now c.waiting.placed.items c.waiting.number-index _ c.requires.known c.waiting-test.true c.waiting.invariant.placing.long in
    elim c.if-are_placed.branch [
      | then-are_placed+in_ok-place w ↦ record {
        placing = rw (w.order-is, w.placed-is) w.in_ok-place.ensures.after;
        each = omega (arith, ap (λ v. length v.items) w.order-is, ap (λ v. length v.items) w.next-is, w.in_ok-place.ensures.one, c.waiting.invariant.each);
        round = rw w.next-is
            (round_placed_at _ c.args.placed.now.items c.waiting.placed.items _ c.args.waiting.now c.waiting.next.items c.waiting.number-index _ c.waiting-test.true known (ap (λ v. v.items) w.placed-is ∙ w.in_ok-place.ensures.placed)
            c.waiting.invariant.round);
      }
      | else-are_placed+in_ok-push w ↦ record {
        placing = rw (w.order-is, w.placed-is) c.waiting.invariant.placing;
        each = omega (arith, ap (λ v. length v.items) w.order-is, one_longer _ c.waiting.next.items _ (ap (λ v. v.items) w.next-is ∙ w.in_ok-push.ensures.items), c.waiting.invariant.each);
        round = rw w.placed-is
            (round_waits_at _ c.args.placed.now.items c.waiting.placed.items c.args.waiting.now c.waiting.next.items _ c.index-rows-number.result.items c.waiting.number-index _ c.waiting-test.true
            (row_here _ c.args.rows.now _ c.index-rows-number.result (c.requires.known c.waiting.number-index _ c.waiting-test.true) c.index-rows-number.is)
            (sym (rw (c.deref.ensures.value, c.deref-in-waiting.ensures.value) at c.are_placed.ensures) ∙ w.if-are_placed.false) (ap (λ v. v.items) w.next-is ∙ w.in_ok-push.ensures.items) c.waiting.invariant.round);
      }
    ]
