use Rattle.std.proofs.Common.{map, take}
use Rattle.std.specs.Prelude.{◌↔◌}
use Rattle.shade_core.specs.Standing.{by_itself}
use Rattle.shade_rules.specs.Gathered.{HasAt, ListGives}
use Rattle.shade_rules.specs.Sets.{HasUsage}
use Rattle.shade_rules.specs.Usages.{Usage}
use Rattle.shade_rules.proofs.gather.gather.Given as goal

abbrev pub invariant-listed : goal.invariant-listed
invariant-listed l = (u : Usage) → HasUsage l.row u ↔ ListGives (HasAt l.rows) (take l.statement-index (map (λ s. by_itself s.now) l.listed)) u
