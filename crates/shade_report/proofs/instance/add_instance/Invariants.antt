use Rattle.std.proofs.Common.{◌≡◌, ◌++◌, codes, length}
use Rattle.std.specs.List.{flat_map}
use Rattle.shade_report.specs.RunReport.{frame_text, frames_of}
use Rattle.shade_report.proofs.instance.add_instance.Given as goal

abbrev pub invariant-frames : goal.invariant-frames
invariant-frames l =
    l.out.items ++ flat_map (λ frame. codes "/" ++ frame_text l.functions frame) (frames_of l.rest) ≡ l.initial.out.items ++ flat_map (λ frame. codes "/" ++ frame_text l.functions frame) (frames_of l.initial.rest)

abbrev pub decreases-frames : goal.decreases-frames
decreases-frames l = length l.rest
