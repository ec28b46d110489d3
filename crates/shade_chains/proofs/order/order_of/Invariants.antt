use Rattle.std.proofs.Common.{◌≡◌, ◌<◌, ◌+◌, ℕ, length, map, true}
use Rattle.std.specs.Prelude.{◌⊎◌, All, Contains}
use Rattle.shade_chains.specs.Orders.{IsPlacing, is_placed}
use Rattle.shade_chains.proofs.order.order_of.Given as goal

abbrev pub invariant-rounds : goal.invariant-rounds
invariant-rounds l = record {
  placing : IsPlacing (map (λ r. r.items) l.rows) l.order.items l.placed.items;
  each : length l.order.items + length l.waiting.items ≡ length l.rows;
  known : All (λ k. k < length l.rows) l.waiting.items;
  all : (k : ℕ) → k < length l.rows → (is_placed l.placed.items k ≡ true) ⊎ Contains l.waiting.items k;
}

abbrev pub decreases-rounds : goal.decreases-rounds
decreases-rounds l = length l.waiting.items
