use Rattle.std.proofs.Common.{◌≡◌, ◌<◌, ℕ, length, map, Some}
use Rattle.std.specs.Prelude.{slice_get}
use Rattle.shade_core.specs.declared.module.CoreModule.{CoreModule}
use Rattle.shade_core.specs.Views.{ValueTypes}
use Rattle.shade_chains.specs.Tops.{HasEvents}
use Rattle.shade_chains.proofs.TopLaws.{AreTopsBelow}
use Rattle.shade_chains.proofs.chains.tops_of.Given as goal

abbrev pub invariant-functions : goal.invariant-functions
invariant-functions l = record {
  long : length l.tops.items ≡ length l.rows;
  below : (shader : CoreModule) (values : ℕ → ValueTypes) → HasEvents shader values l.bytes (map (λ r. r.items) l.rows) → AreTopsBelow l.measure shader values l.order l.tops.items l.number-index;
}
