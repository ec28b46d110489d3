use Rattle.std.proofs.Common.{◌<◌, length, rules}
use Rattle.shade_race.specs.Word.{noted as noted_of}
use Rattle.shade_race.proofs.ListLaws.{mapped_more}
use Rattle.shade_race.proofs.cells.note_all.Goals as goal

pub loop-word-preserved : goal.loop-word-preserved
loop-word-preserved c =
    let here : c.loop-word.word-index < length c.args.words.now = search rules in
    mapped_more (noted_of c.args.epoch c.args.act) c.args.words.now c.loop-word.words c.loop-word.word-index _ c.noted.result c.loop-word.auto.words here c.loop-word.invariant c.noted.ensures
