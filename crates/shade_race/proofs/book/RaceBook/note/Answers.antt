use Rattle.std.proofs.Common.{◌≤◌, ◌<◌, ◌∙◌, ◌+◌, length, ap, sym, subst, ℕ, ◌∷◌}
use Rattle.shade_race.specs.declared.root.Root.{Root}
use Rattle.shade_race.specs.History.{Noted, Stands}
use Rattle.shade_race.proofs.BookLaws.{note_leads}
use Rattle.shade_race.proofs.RootLaws.{words_seen, book_changed, seen_length}
use Rattle.shade_race.proofs.book.RaceBook.note.Goals as goal

pub note-requires : goal.note-requires
note-requires c =
    let here : c.args.touch.root < length c.args.self.now.roots.items = subst (λ (n : ℕ). c.args.touch.root < n) (seen_length c.args.self.now.roots.items) c.requires.root in
    subst (λ (n : ℕ). c.args.touch.first + c.args.touch.count ≤ n)
    (words_seen c.args.self.now.roots.items c.args.touch.root c.index_mut.result.now here ∙ ap (λ (r : Root). length r.cells.items) (sym c.index_mut.ensures.value)) c.requires.words

pub returns-clause-model : goal.returns-clause-model
returns-clause-model c =
    let here : c.args.touch.root < length c.args.self.now.roots.items = subst (λ (n : ℕ). c.args.touch.root < n) (seen_length c.args.self.now.roots.items) c.requires.root in
    ap (λ roots. record { roots = roots; epochs = c.args.self.now.epochs })
    (book_changed c.args.self.now.roots.items c.args.touch.root c.epoch_in-epoch.result c.args.self.now.epochs _ c.args.touch c.index.result.now c.index_mut.result.now c.note.new.self here c.index.ensures c.index_mut.ensures.value c.epoch_in-epoch.ensures c.note.ensures)

pub returns-clause-leads : goal.returns-clause-leads
returns-clause-leads c = λ sizes past h above.
    subst (λ b. Stands sizes (Noted c.args.step c.args.lane c.args.touch ∷ past) b) (sym (returns-clause-model c)) (note_leads sizes past _ c.args.step c.args.lane c.args.touch h above)
