use Rattle.shade_top.proofs.Severities.{clean_exactly}
use Rattle.shade_top.proofs.ready.clean_without_errors.Goals as goal

pub returns : goal.returns
returns c = clean_exactly
