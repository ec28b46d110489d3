use Rattle.std.proofs.Common.{◌≡◌, map, reverse, vec_len}
use Rattle.shade_lane.specs.Seen.{place_of}
use Rattle.shade_lane.proofs.rest.Rest.first.Given as goal

abbrev pub invariant-done : goal.invariant-done
invariant-done l = place_of (reverse (map (λ x. x.now) l.self-inside.lists.items)) ≡ place_of l.fn.self

abbrev pub decreases-done : goal.decreases-done
decreases-done l = vec_len l.self-inside.lists
