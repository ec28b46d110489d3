-- The lane-by-lane run stands for all.
use Rattle.shade_schedules.specs.System.{System, Laws}
use Rattle.shade_schedules.specs.Orders.{lane_by_lane, IsIndependent}
use Rattle.shade_schedules.proofs.Law.{commutes}

pub independent : (K : System) → Laws K → IsIndependent K
independent K laws start limit steps calm over orderly = commutes K laws start (lane_by_lane K limit start) steps calm over orderly
