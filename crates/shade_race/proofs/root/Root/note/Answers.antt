use Rattle.std.proofs.Common.{◌≡◌, ◌∙◌, ◌+◌, ◌-◌, ap, arith}
use Rattle.std.proofs.lemmas.List.{with_items_is}
use Rattle.shade_race.specs.Word.{noted}
use Rattle.shade_race.proofs.CoverLaws.{range_noted, range_length}
use Rattle.shade_race.proofs.root.Root.note.Goals as goal

pub returns : goal.returns
returns c =
    let few : c.args.touch.first + c.args.touch.count - c.args.touch.first ≡ c.args.touch.count = omega arith in
    ap (λ cells. record { space = c.args.self.now.space; cells = cells })
    (with_items_is c.args.self.now.cells _ (range_length (noted c.args.epoch c.args.act) c.args.touch _ _ c.args.self.now.cells.items _ _ few c.as_mut_slice-cells.ensures.value c.note_all.ensures c.as_mut_slice-cells.ensures.len)
    ∙ range_noted (noted c.args.epoch c.args.act) c.args.touch _ c.args.self.now.cells.items _ _ few c.as_mut_slice-cells.ensures.value c.note_all.ensures)
