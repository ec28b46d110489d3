use Rattle.std.proofs.Common.{rules}
use Rattle.shade_job.proofs.Lines.{no_steps, read_more}
use Rattle.shade_job.proofs.read_steps.Goals as goal

pub returns-in_default : goal.returns-in_default
returns-in_default c steps states = no_steps c.args.lanes c.args.bytes.now c.lines.steps.items c.lines.rest.now (search rules) c.lines.invariant c.lines-test.true c.in_default.ensures steps states

pub lines-preserved : goal.lines-preserved
lines-preserved c =
    read_more c.args.lanes c.args.bytes.now c.lines.steps.items c.lines.rest.now (search rules) c.lines.invariant c.lines-test.true c.in-Some.number c.in-Some.after.now _ (search rules) c.in-Some.ensures.0 c.in-Some.ensures.1 c.in_ok-add.ensures
