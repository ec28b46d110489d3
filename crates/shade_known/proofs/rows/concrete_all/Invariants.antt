use Rattle.std.proofs.Common.{◌≡◌, map, take}
use Rattle.std.specs.Prelude.{All}
use Rattle.shade_values.specs.Sound.{IsOf}
use Rattle.shade_known.specs.Operates.{concrete}
use Rattle.shade_known.proofs.rows.concrete_all.Given as goal

abbrev pub invariant-loop-ty : goal.invariant-loop-ty
invariant-loop-ty l = record {
  typed : l.made.items ≡ map concrete (take l.ty-index l.types);
  of : All (IsOf l.table) l.made.items;
}
