use Rattle.std.proofs.Common.{ap}
use Rattle.shade_top.specs.Report.{request_seen}
use Rattle.shade_top.proofs.ReadLaws.{read_as, nothing_outcome, check_outcome, check_unread_outcome, run_unread_outcome, run_outcome}
use Rattle.shade_top.proofs.report.report_on.Goals as goal

pub returns-in_err-bytes-in-Check-clause-outcome : goal.returns-in_err-bytes-in-Check-clause-outcome
returns-in_err-bytes-in-Check-clause-outcome g c = nothing_outcome c.from_residual.result _ _ _ (request_seen c.args.request) c.in-Check.file.now c.from_residual.ensures.0 c.in_err-bytes-in-Check.ensures.given

pub returns-in-Some-clause-outcome : goal.returns-in-Some-clause-outcome
returns-in-Some-clause-outcome g c =
    check_outcome c.check.result _ _ _ (request_seen c.args.request) c.in-Check.file.now (ap request_seen c.in-Check.is) c.in-Some.bytes.items (read_as _ _ _ _ c.in_ok-bytes-in-Check.field-0 _ c.in-Some.is c.in_ok-bytes-in-Check.ensures.given) (rw c.deref.ensures.value at c.check.ensures)

pub returns-in-None-clause-outcome : goal.returns-in-None-clause-outcome
returns-in-None-clause-outcome g c =
    check_unread_outcome c.unread.result _ _ _ (request_seen c.args.request) c.in-Check.file.now (ap request_seen c.in-Check.is) (read_as _ _ _ _ c.in_ok-bytes-in-Check.field-0 _ c.in-None.is c.in_ok-bytes-in-Check.ensures.given) c.unread.ensures

pub returns-in_err-bytes-in-Run-clause-outcome : goal.returns-in_err-bytes-in-Run-clause-outcome
returns-in_err-bytes-in-Run-clause-outcome g c = nothing_outcome c.from_residual-in_err-bytes-in-Run.result _ _ _ (request_seen c.args.request) c.in-Run.file.now c.from_residual-in_err-bytes-in-Run.ensures.0 c.in_err-bytes-in-Run.ensures.given

pub returns-in-Some-2-clause-outcome : goal.returns-in-Some-2-clause-outcome
returns-in-Some-2-clause-outcome g c =
    run_outcome c.run_bytes.result _ _ _ (request_seen c.args.request) c.in-Run.file.now _ c.in-Run.job.now c.in-Some-2.bytes.items (ap request_seen c.in-Run.is)
    (read_as _ _ _ _ c.in_ok-bytes-in-Run.field-0 _ c.in-Some-2.is c.in_ok-bytes-in-Run.ensures.given)
    (rw (c.deref-in-Some-2.ensures.value, c.in_ok-bytes-in-Run.ensures.texts) at c.run_bytes.ensures.outcome)

pub returns-in-None-2-clause-outcome : goal.returns-in-None-2-clause-outcome
returns-in-None-2-clause-outcome g c =
    run_unread_outcome c.unread-in-None-2.result _ _ _ (request_seen c.args.request) c.in-Run.file.now c.in-Run.job.now (ap request_seen c.in-Run.is) (read_as _ _ _ _ c.in_ok-bytes-in-Run.field-0 _ c.in-None-2.is c.in_ok-bytes-in-Run.ensures.given) c.unread-in-None-2.ensures
