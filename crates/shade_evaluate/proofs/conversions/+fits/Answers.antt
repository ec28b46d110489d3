use Rattle.std.proofs.Common.{ap, sym, ◌∙◌}
use Rattle.std.specs.List.{list_all}
use Rattle.shade_evaluate.specs.Fits.{fits}
use Rattle.shade_evaluate.proofs.FitLaws.{fits_many}
use Rattle.shade_evaluate.proofs.conversions.+fits.Goals as goal

pub fits-returns-in-Many : goal.fits-returns-in-Many
fits-returns-in-Many t c = rw c.in-Many.is (c.all_fit.ensures ∙ sym (fits_many c.args.to c.in-Many.parts))
