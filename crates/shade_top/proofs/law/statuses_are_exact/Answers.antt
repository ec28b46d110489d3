use Rattle.shade_top.proofs.ExactLaws.{exact_statuses}
use Rattle.shade_top.proofs.OneAnswer.{one_checked, one_to}
use Rattle.shade_top.proofs.law.statuses_are_exact.Goals as goal

pub returns : goal.returns
returns c =
    exact_statuses
    (one_checked c.one_module.ensures c.one_place.ensures c.never_both.ensures c.violations_are_one_list.ensures c.one_job.ensures c.first_form_is_ready.ensures c.texts_are_read_once.ensures c.templates_are_one.ensures c.tokens_are_parsed_once.ensures)
    (one_to c.one_module.ensures c.one_place.ensures c.never_both.ensures c.violations_are_one_list.ensures c.one_job.ensures c.first_form_is_ready.ensures c.texts_are_read_once.ensures c.templates_are_one.ensures c.tokens_are_parsed_once.ensures)
