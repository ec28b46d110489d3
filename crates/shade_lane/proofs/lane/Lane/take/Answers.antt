use Rattle.shade_lane.proofs.StepLaws.{barrier_taken}
use Rattle.shade_lane.proofs.lane.Lane.take.Goals as goal

pub returns-in_ok-wait-in-Barrier-clause-ok : goal.returns-in_ok-wait-in-Barrier-clause-ok
returns-in_ok-wait-in-Barrier-clause-ok c =
    rw (c.in_ok-wait-in-Barrier.ensures.ok) (barrier_taken c.args.self.now c.args.statement.now c.in-Barrier.space c.in-Barrier.severity c.requires.first c.in-Barrier.is)
