use Rattle.shade_race.proofs.BookLaws.{note_leads}
use Rattle.shade_race.proofs.laws.note_leads.Goals as goal

pub returns : goal.returns
returns c = note_leads
