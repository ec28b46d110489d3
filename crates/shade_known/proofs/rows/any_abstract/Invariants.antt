use Rattle.std.proofs.Common.{◌≡◌, drop}
use Rattle.std.specs.List.{list_any}
use Rattle.shade_known.specs.Operates.{is_abstract}
use Rattle.shade_known.proofs.rows.any_abstract.Given as goal

abbrev pub invariant-loop-place : goal.invariant-loop-place
invariant-loop-place l = list_any is_abstract (drop l.place l.params) ≡ list_any is_abstract l.params
