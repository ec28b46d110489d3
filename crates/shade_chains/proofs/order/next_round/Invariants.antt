use Rattle.std.proofs.Common.{◌≡◌, ◌+◌, length, take, map}
use Rattle.shade_chains.specs.Orders.{IsPlacing, IsRound}
use Rattle.shade_chains.proofs.order.next_round.Given as goal

abbrev pub invariant-waiting : goal.invariant-waiting
invariant-waiting l = record {
  placing : IsPlacing (map (λ r. r.items) l.rows) l.order.items l.placed.items;
  each : length l.order.items + length l.next.items ≡ length l.initial.order.items + l.number-index;
  round : IsRound (map (λ r. r.items) l.rows) l.initial.placed.items l.placed.items (take l.number-index l.waiting) l.next.items;
}
