use Rattle.std.proofs.Common.{◌∷◌, ap, sym, subst}
use Rattle.shade_race.specs.History.{Passed, Stands}
use Rattle.shade_race.specs.Seen.{seen}
use Rattle.shade_race.proofs.BookLaws.{barrier_leads}
use Rattle.shade_race.proofs.book.RaceBook.barrier.Goals as goal

pub returns-clause-leads : goal.returns-clause-leads
returns-clause-leads c = λ sizes past h.
    subst (λ b. Stands sizes (Passed c.args.space ∷ past) b) (ap (λ e. record { roots = (seen c.args.self.now).roots; epochs = e }) (sym c.raised-self.ensures)) (barrier_leads sizes past _ c.args.space h)
