use Rattle.shade_parse.proofs.TableLaws.{none_numbered}
use Rattle.shade_parse.proofs.words.names_of.Goals as goal

pub loop-piece-init : goal.loop-piece-init
loop-piece-init c = none_numbered c.args.pieces.now _ c.new-names.ensures
