use Rattle.std.proofs.Common.{◌≡◌, drop}
use Rattle.std.specs.List.{list_all}
use Rattle.shade_evaluate.specs.Fits.{fits}
use Rattle.shade_evaluate.proofs.conversions.+fits.Given as goal

abbrev pub invariant-all_fit-loop-part : goal.invariant-all_fit-loop-part
invariant-all_fit-loop-part l = list_all (fits l.to) (drop l.part-index l.part-items) ≡ list_all (fits l.to) l.part-items
