use Rattle.shade_parse_expr.proofs.AnswerLaws.{all_pieces, front_pieces}
use Rattle.shade_parse_expr.proofs.goal.phrase.Goals as goal

pub returns-in-None-clause-answer : goal.returns-in-None-clause-answer
returns-in-None-clause-answer c = all_pieces c.args.goal c.args.pieces.now c.args.names.now c.read.new.names c.args.from c.args.node c.in-Ok.deep c.in-Ok.ensures.deep c.read.result c.uncut.result c.in-None.is c.uncut.ensures c.read.ensures.answer

pub returns-in-Some-clause-answer : goal.returns-in-Some-clause-answer
returns-in-Some-clause-answer c = front_pieces c.args.goal c.args.pieces.now c.args.names.now c.read-in-Some.new.names c.args.from c.args.node c.in-Ok.deep c.in-Ok.ensures.deep c.in-Some.deep c.read-in-Some.result c.cut.result c.in-Some.is c.cut.ensures c.read-in-Some.ensures.answer
