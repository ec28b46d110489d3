use Rattle.std.proofs.Common.{rules, refl, sym}
use Rattle.shade_top.specs.Report.{request_seen}
use Rattle.shade_top.proofs.ServeLaws.{answer_some, bad_serves, answer_serves, memory_serves}
use Rattle.shade_top.proofs.top_call.serve.Goals as goal

pub returns-in_default-clause-serves : goal.returns-in_default-clause-serves
returns-in_default-clause-serves g c = bad_serves c.clean_never_diverges.ensures c.clean_without_errors.ensures c.first_form_is_ready.ensures _ _ _ _ (search rules) refl c.written.ensures

pub written-requires-in-Ok : goal.written-requires-in-Ok
written-requires-in-Ok g c = rw c.deref.ensures.value (answer_some _ _ _ c.report_on.ensures.outcome c.in-Ok.report c.in-Ok.is)

pub returns-in-Ok-clause-serves : goal.returns-in-Ok-clause-serves
returns-in-Ok-clause-serves g c =
    answer_serves c.clean_never_diverges.ensures c.clean_without_errors.ensures c.first_form_is_ready.ensures _ _ _ _ (request_seen c.in-Some.request) c.report_on.result (sym c.in-Some.ensures) c.report_on.ensures.outcome c.in-Ok.report c.in-Ok.is (rw c.deref.ensures.value at c.written-in-Ok.ensures)

pub returns-in-Err-clause-serves : goal.returns-in-Err-clause-serves
returns-in-Err-clause-serves g c =
    memory_serves c.clean_never_diverges.ensures c.clean_without_errors.ensures c.first_form_is_ready.ensures _ _ _ _ (request_seen c.in-Some.request) c.report_on.result (sym c.in-Some.ensures) c.report_on.ensures.outcome refl refl refl
