use Rattle.std.proofs.Common.{◌∙◌, sym}
use Rattle.shade_first.proofs.Tokens.{lanes_reads, lanes_fails, number_is}
use Rattle.shade_first.proofs.phrase.lanes.Goals as goal

pub returns-in_default : goal.returns-in_default
returns-in_default c = lanes_fails c.args.tokens.now c.args.from c.requires (λ n text p is least most same. c.in_default.ensures text p is)

pub returns-in-Some-lane_count : goal.returns-in-Some-lane_count
returns-in-Some-lane_count c =
    let e = c.in-Some-lane_count.ensures in
    lanes_reads c.args.tokens.now c.args.from c.in-Some-lane_count.count c.in-Some.text.now c.in-Some.ensures.0 c.in-Some.ensures.1 e.0 e.1 e.2

pub returns-in-None : goal.returns-in-None
returns-in-None c = lanes_fails c.args.tokens.now c.args.from c.requires (λ n text p is least most same. c.in-None.ensures n least most (sym (number_is c.args.tokens.now c.args.from text c.in-Some.text.now p c.in-Some.ensures.0 is c.in-Some.ensures.1) ∙ same))
