use Rattle.shade_sound.proofs.Converges.{never}
use Rattle.shade_sound.proofs.law.clean_never_diverges.Goals as goal

pub returns : goal.returns
returns c = never
