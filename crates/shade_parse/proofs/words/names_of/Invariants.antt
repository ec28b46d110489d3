use Rattle.shade_parse.proofs.TableLaws.{AreNumbered}
use Rattle.shade_parse.proofs.words.names_of.Given as goal

abbrev pub invariant-loop-piece : goal.invariant-loop-piece
invariant-loop-piece l = AreNumbered l.pieces l.piece-index l.names
