use Rattle.shade_race.proofs.BookLaws.{barrier_leads}
use Rattle.shade_race.proofs.laws.barrier_leads.Goals as goal

pub returns : goal.returns
returns c = barrier_leads
