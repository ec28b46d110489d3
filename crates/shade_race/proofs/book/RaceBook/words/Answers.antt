use Rattle.std.proofs.Common.{◌≡◌, ◌∙◌, ◌<◌, ◌≤◌, length, ap, sym, rules}
use Rattle.shade_race.specs.declared.root.Root.{Root}
use Rattle.shade_race.proofs.RootLaws.{words_seen, words_past}
use Rattle.shade_race.proofs.book.RaceBook.words.Goals as goal

pub returns-then-root-len : goal.returns-then-root-len
returns-then-root-len c =
    let here : c.args.root < length c.args.self.now.roots.items = search rules in
    let seen : c.len-then-root-len.result ≡ length c.index.result.now.cells.items = search rules in
    seen ∙ (ap (λ (r : Root). length r.cells.items) c.index.ensures ∙ sym (words_seen c.args.self.now.roots.items c.args.root c.index.result.now here))

pub returns-else-root-len : goal.returns-else-root-len
returns-else-root-len c =
    let past : length c.args.self.now.roots.items ≤ c.args.root = search rules in
    words_past c.args.self.now.roots.items c.args.root past
