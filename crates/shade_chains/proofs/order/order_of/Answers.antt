use Rattle.std.proofs.Common.{inr, arith, rules}
use Rattle.shade_chains.proofs.OrderLaws.{count_begin, known_rows, placing_begin, numbers_known, numbers_all, round_all, round_stuck, not_empty}
use Rattle.shade_chains.proofs.order.order_of.Goals as goal

pub rounds-init : goal.rounds-init
rounds-init c = record {
  placing = placing_begin _ c.args.rows.now c.new-order.result.items c.in_ok-placed.placed.items c.new-order.ensures.items c.in_ok-placed.ensures;
  each = count_begin _ _ _ c.new-order.ensures.items c.in_ok-waiting.ensures.long;
  known = numbers_known _ c.in_ok-waiting.waiting.items c.in_ok-waiting.ensures.long c.in_ok-waiting.ensures.each;
  all = λ k lt. inr (numbers_all _ c.in_ok-waiting.waiting.items c.in_ok-waiting.ensures.long c.in_ok-waiting.ensures.each k lt);
}

pub returns-then-len : goal.returns-then-len
returns-then-len c =
    round_stuck _ c.args.rows.now c.rounds.placed.items c.next_round.new.placed.items c.rounds.waiting.items c.in_ok-next.next.items c.in_ok-next.ensures.after.long (rw c.deref.ensures.value at c.in_ok-next.ensures.round)
    (omega (arith, c.if-len.true, c.len.ensures, c.len-in-rounds.ensures, c.in_ok-next.next.ok.0, c.rounds.waiting.ok.0)) (not_empty c.rounds.waiting.items c.is_empty.result (search rules) (search rules)) c.rounds.invariant.all

pub rounds-preserved : goal.rounds-preserved
rounds-preserved c =
    let round = rw c.deref.ensures.value at c.in_ok-next.ensures.round in
    record {
      placing = c.in_ok-next.ensures.after;
      each = omega (arith, rw c.deref.ensures.value at c.in_ok-next.ensures.each, c.rounds.invariant.each);
      known = known_rows _ c.args.rows.now c.in_ok-next.next.items round.below;
      all = round_all _ c.args.rows.now c.rounds.placed.items c.next_round.new.placed.items c.rounds.waiting.items c.in_ok-next.next.items round c.rounds.invariant.all;
    }
