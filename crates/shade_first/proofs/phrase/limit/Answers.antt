use Rattle.std.proofs.Common.{◌∙◌, sym, arith}
use Rattle.shade_first.proofs.Tokens.{limit_reads, limit_fails, number_is}
use Rattle.shade_first.proofs.phrase.limit.Goals as goal

pub returns-in_default : goal.returns-in_default
returns-in_default c = limit_fails c.args.tokens.now c.args.from c.requires (λ n text p is most same. c.in_default.ensures text p is)

pub returns-in-Some-unsigned_value : goal.returns-in-Some-unsigned_value
returns-in-Some-unsigned_value c = limit_reads c.args.tokens.now c.args.from c.in-Some-unsigned_value.value c.in-Some.text.now c.in-Some.ensures.0 c.in-Some.ensures.1 c.in-Some-unsigned_value.ensures (omega arith)

pub returns-in-None : goal.returns-in-None
returns-in-None c = limit_fails c.args.tokens.now c.args.from c.requires (λ n text p is most same. c.in-None.ensures n most (sym (number_is c.args.tokens.now c.args.from text c.in-Some.text.now p c.in-Some.ensures.0 is c.in-Some.ensures.1) ∙ same))
