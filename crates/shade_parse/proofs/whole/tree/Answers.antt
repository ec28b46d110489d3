use Rattle.shade_parse.proofs.WholeLaws.{all_pieces, front_pieces}
use Rattle.shade_parse.proofs.whole.tree.Goals as goal

pub returns-in-None : goal.returns-in-None
returns-in-None c = all_pieces c.args.pieces.now c.in-Ok.passing c.in-Ok.ensures.first c.named.result c.uncut.result c.in-None.is c.uncut.ensures c.named.ensures

pub returns-in-Some : goal.returns-in-Some
returns-in-Some c = front_pieces c.args.pieces.now c.in-Ok.passing c.in-Ok.ensures.first c.in-Some.deep c.named-in-Some.result c.cut.result c.in-Some.is c.cut.ensures c.named-in-Some.ensures
