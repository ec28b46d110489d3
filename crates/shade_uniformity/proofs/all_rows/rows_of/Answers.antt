use borrow.Author.Rules.{rules}
use Rattle.shade_uniformity.proofs.AddLaws.{rows_are}
use Rattle.shade_uniformity.proofs.all_rows.rows_of.Goals as goal

pub returns : goal.returns
returns c = rows_are c.args.checked.now c.args.function.now c.args.spots.now c.add_rows.new.rows.items c.add_all_held.new.rows.items c.requires.analysed (search rules) c.in_ok-add_all_held.ensures
