use Rattle.shade_top.proofs.OneAnswer.{one_answer}
use Rattle.shade_top.proofs.law.answers_are_one.Goals as goal

pub returns : goal.returns
returns c = one_answer c.one_module.ensures c.one_place.ensures c.never_both.ensures c.violations_are_one_list.ensures c.one_job.ensures c.first_form_is_ready.ensures c.texts_are_read_once.ensures c.templates_are_one.ensures c.tokens_are_parsed_once.ensures
