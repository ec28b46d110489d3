use Rattle.std.proofs.Common.{get_or}
use Rattle.shade_words.specs.Lays.{decode}
use Rattle.shade_words.specs.Types.{lay}
use Rattle.shade_flat.proofs.RowLaws.{given_value}
use Rattle.shade_flat.proofs.row.Row.give.Goals as goal

pub returns-clause-lane : goal.returns-clause-lane
returns-clause-lane c s layouts privates place n start same all is are stacked =
    given_value s layouts privates place all c.args.self.now.words.items c.fill.new.self.words.items start c.args.self.now.below.items c.args.self.now.top n c.args.first c.args.ty
    (decode (lay c.args.types.now c.args.ty) (λ j. get_or c.args.from.now j 0) 0) is are stacked c.args.types.now c.requires.sound same
    c.fill.new.self.below.items c.fill.new.self.top c.fill.ensures.below c.fill.ensures.top c.fill.ensures.written
