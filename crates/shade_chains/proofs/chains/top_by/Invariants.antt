use Rattle.std.proofs.Common.{◌≡◌, take, fold}
use Rattle.shade_chains.specs.Tops.{event_part, greater, last_part}
use Rattle.shade_chains.proofs.chains.top_by.Given as goal

abbrev pub invariant-events : goal.invariant-events
invariant-events l = l.best ≡ fold (λ best e. greater best (event_part l.measure l.bytes l.tops e)) (last_part l.measure l.bytes) (take l.event-index l.row)
