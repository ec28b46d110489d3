use Rattle.std.proofs.Common.{◌≡◌, ◌∙◌, ◌<◌, length, sym, subst, arith, rules}
use Rattle.std.proofs.lemmas.Grind.{common_steps}
use Rattle.shade_race.specs.History.{accesses, book_races}
use Rattle.shade_race.specs.Meaning.{AreRaces}
use Rattle.shade_race.specs.Seen.{seen}
use Rattle.shade_race.proofs.BookLaws.{races_tell}
use Rattle.shade_race.proofs.RootLaws.{races_more}
use Rattle.shade_race.proofs.Told.{races_are_least}
use Rattle.shade_race.proofs.book.RaceBook.races.Goals as goal

pub loop-number-preserved : goal.loop-number-preserved
loop-number-preserved c =
    let here : c.loop-number.number < length c.args.self.now.roots.items = search rules in
    races_more c.args.self.now.roots.items c.loop-number.races.items c.add_races.new.races.items _ c.loop-number.number c.index.result.now here c.index.ensures c.in_ok-add_races.ensures c.loop-number.invariant

pub returns-clause-tells : goal.returns-clause-tells
returns-clause-tells c =
    let model : c.loop-number.races.items ≡ book_races (seen c.args.self.now) = first_of (search rules, grind (arith, common_steps)) in
    λ sizes past h. model ∙ races_tell sizes past (seen c.args.self.now) h

pub returns-clause-least : goal.returns-clause-least
returns-clause-least c =
    let model : c.loop-number.races.items ≡ book_races (seen c.args.self.now) = first_of (search rules, grind (arith, common_steps)) in
    λ sizes past h. subst (λ list. AreRaces sizes (accesses sizes past) list) (sym model) (races_are_least sizes past (seen c.args.self.now) h)
