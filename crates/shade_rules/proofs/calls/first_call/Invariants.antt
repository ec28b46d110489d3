use Rattle.std.proofs.Common.{◌≡◌, map, take}
use Rattle.std.specs.Prelude.{All}
use Rattle.shade_core.specs.Standing.{by_itself}
use Rattle.shade_rules.specs.Found.{HasNoneAt}
use Rattle.shade_rules.proofs.calls.first_call.Given as goal

abbrev pub invariant-listed : goal.invariant-listed
invariant-listed l = record {
  place : l.call ≡ l.statement-index;
  none : All (HasNoneAt l.rows) (take l.statement-index (map (λ s. by_itself s.now) l.listed));
}
