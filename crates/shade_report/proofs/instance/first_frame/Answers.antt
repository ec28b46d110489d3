use Rattle.std.proofs.Common.{rules}
use Rattle.shade_report.proofs.InstanceLaws.{few_words, words_short, words_read}
use Rattle.shade_report.proofs.instance.first_frame.Goals as goal

pub returns-in_default : goal.returns-in_default
returns-in_default c = few_words c.args.words.now c.in_default.len_below

pub returns-then-rest-count : goal.returns-then-rest-count
returns-then-rest-count c = words_short c.args.words.now c.in-len3-up.len_at_least (search rules)

pub returns : goal.returns
returns c = words_read c.args.words.now c.split_at.result.0.now c.split_at.result.1.now c.in-len3-up.len_at_least (search rules) (search rules) (search rules)
