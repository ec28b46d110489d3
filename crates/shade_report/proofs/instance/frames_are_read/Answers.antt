use Rattle.shade_report.proofs.InstanceLaws.{frames_are_read}
use Rattle.shade_report.proofs.instance.frames_are_read.Goals as goal

pub returns : goal.returns
returns c = frames_are_read
