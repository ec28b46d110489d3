use Rattle.shade_group.specs.Seen.{machine_of}
use Rattle.shade_report.proofs.InstanceLaws.{one_release}
use Rattle.shade_report.proofs.run_report.add_releases.Goals as goal

pub loop-number-preserved : goal.loop-number-preserved
loop-number-preserved c =
    one_release c.args.functions.now (machine_of c.args.group.now).released c.loop-number.number c.released_at.result.now _ _ _ c.released_at.ensures c.in_ok-add_release.ensures c.loop-number.invariant
